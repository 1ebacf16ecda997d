-- Where the reader that leaves no bad row stops, and what it reads of a text.
use mathlib.Core.Path.{◌≡◌, refl, ap, sym, ◌∙◌, subst}
use mathlib.Core.Bool.{Bool, true, false, cond}
use mathlib.Core.List.{List, [], ◌∷◌, ◌++◌, append_assoc, append-nil}
use mathlib.Core.Option.{Option, none, some, none-ne-some, some-injective}
use Prim.Native.Nat.{ℕ, suc, ◌+◌}
use native.Mathlib.Omega.{arith}
use lib.ListN.{length, length-append}
use Rattle.base.specs.Lists.{all, is_empty, joined}
use Rattle.base.proofs.Breaks.{all_cons}
use Rattle.rules.specs.Names.{line_feed}
use Rattle.rules.specs.Rows.{Row, row_lines, is_labelled}
use Rattle.rules.specs.Frames.{border, Frame}
use Rattle.rules.specs.Refusals.{unlabelled_line, or_behind}
use Rattle.text_laws.specs.FrameReader.{rest, lines_of, Top, State, begun}
use Rattle.text_laws.specs.FrameReader.{named, spaced, ruled, counted, bordered, rowed, closed, headed, filled}
use Rattle.text_laws.specs.FrameReader.{step, on_state, run, right_from, right_lines, whole, read_drawn, if_labelled}
use Rattle.text_laws.specs.FrameReader.{read_frame, reach, rows_in, place_of, ended_rows, strict, strict_run}
use Rattle.text_laws.specs.FrameReader.{stop_at, strict_place}
use Rattle.text_laws.proofs.FrameStates.{pairs, state_lines, Sane, Reached}
use Rattle.text_laws.proofs.FrameSound.{step_sound}
use Rattle.text_laws.proofs.FramePlace.{OnState}
use Rattle.text_laws.proofs.FrameStrict.{Grown, Labelled, Strict, alike, grown_step, more_labelled}
use Rattle.text_laws.proofs.FrameStrict.{reach_keeps, rows_in_lem, run_strict, stopped, strict_labelled}
use Rattle.text_laws.proofs.FrameStrict.{strict_run_lem, strict_step}

-- ── the place ──

unlabelled_none : (n : ℕ) (rows : List Row) → all is_labelled rows ≡ true → unlabelled_line n rows ≡ none
unfolding unlabelled_line all
unlabelled_none n [] a = refl
unlabelled_none n (r ∷ rows) a =
    let k = all_cons is_labelled r rows a in
    rw k.0 (unlabelled_none (n + suc (length (row_lines r))) rows k.1)

unlabelled_front : (w n : ℕ) (rows : List Row) (r : Row) (more : List Row) → all is_labelled rows ≡ true
    → is_labelled r ≡ false
    → unlabelled_line n (rows ++ (r ∷ more)) ≡ some (n + length (pairs w rows ++ row_lines r))
unfolding unlabelled_line all joined
unlabelled_front w n [] r more a b = rw b refl
unlabelled_front w n (x ∷ rows) r more a b =
    let k = all_cons is_labelled x rows a in
    let i = unlabelled_front w (n + suc (length (row_lines x))) rows r more k.1 b in
    let e : n + suc (length (row_lines x)) + length (pairs w rows ++ row_lines r)
    ≡ n + length (((row_lines x ++ (border w ∷ [])) ++ pairs w rows) ++ row_lines r) =
    let a1 = length-append (pairs w rows) (row_lines r) in
    let a2 = length-append ((row_lines x ++ (border w ∷ [])) ++ pairs w rows) (row_lines r) in
    let a3 = length-append (row_lines x ++ (border w ∷ [])) (pairs w rows) in
    let a4 = length-append (row_lines x) (border w ∷ []) in
    omega (arith, a1, a2, a3, a4) in
    rw k.0 (i ∙ ap (λ (m : ℕ). some m) e)

behind_all : (n : ℕ) (rows : List Row) → all is_labelled rows ≡ true → suc n ≡ or_behind n (unlabelled_line 5 rows)
behind_all n rows a = rw (unlabelled_none 5 rows a) refl

-- the row that is not ended
at_row : (n : ℕ) (h : Top) (rows : List Row) (r : Row) (more : List Row) → all is_labelled rows ≡ true
    → is_labelled r ≡ false → n ≡ length (state_lines (rowed h rows r))
    → unlabelled_line 5 (rows ++ (r ∷ more)) ≡ some n
at_row n h rows r more a b e =
    unlabelled_front h.row_width 5 rows r more a b
    ∙ ap (λ (m : ℕ). some m)
    (let z : 5 + length (pairs h.row_width rows ++ row_lines r) ≡ n = omega (arith, e) in z)

stop_place : (n : ℕ) (s : State) → Labelled s → n ≡ length (state_lines s)
    → stop_at n s ≡ or_behind n (unlabelled_line 5 (rows_in s))
stop_place n begun a e = behind_all n [] a
stop_place n (named an m) a e = behind_all n [] a
stop_place n (spaced an m) a e = behind_all n [] a
stop_place n (ruled h) a e = behind_all n [] a
stop_place n (counted h) a e = behind_all n [] a
stop_place n (bordered h rows) a e = behind_all n rows a
stop_place n (rowed h rows r) a e = go (is_labelled r) refl
  where
    go : (b : Bool) → is_labelled r ≡ b → cond b (suc n) n ≡ or_behind n (unlabelled_line 5 (rows ++ (r ∷ [])))
    go true k = behind_all n (rows ++ (r ∷ [])) (more_labelled rows r a k)
    go false k = rw (at_row n h rows r [] a k e) refl
stop_place n (closed h rows) a e = behind_all n rows a
stop_place n (headed h rows) a e = behind_all n rows a
stop_place n (filled h rows ls) a e = behind_all n rows a

stopped_place : (n : ℕ) (s : State) (ls : List (List ℕ)) (h : Top) (rows : List Row) (r : Row) → s ≡ rowed h rows r
    → is_labelled r ≡ false → Labelled s → n ≡ length (state_lines s) → (k : ℕ)
    → stop_at n s ≡ or_behind k (unlabelled_line 5 (rows_in (reach (bordered h (rows ++ (r ∷ []))) ls)))
stopped_place n s ls h rows r e b a m k =
    let q : State = reach (bordered h (rows ++ (r ∷ []))) ls in
    let g : Grown (rows ++ (r ∷ [])) q =
    reach_keeps (Grown (rows ++ (r ∷ []))) (grown_step (rows ++ (r ∷ []))) ls (bordered h (rows ++ (r ∷ [])))
    ([], sym (append-nil (rows ++ (r ∷ [])))) in
    let i = rows_in_lem q in
    let all_rows : rows_in q ≡ rows ++ (r ∷ (g.0 ++ i.0)) =
    i.1
    ∙ ap (λ (l : List Row). l ++ i.0) (g.1 ∙ append_assoc rows (r ∷ []) g.0)
    ∙ append_assoc rows (r ∷ g.0) i.0 in
    ap (stop_at n) e ∙ stop
    ∙ sym (ap (λ (l : List Row). or_behind k (unlabelled_line 5 l)) all_rows
    ∙ ap (or_behind k) (at_row n h rows r (g.0 ++ i.0) (subst Labelled e a) b
    (m ∙ ap (λ (x : State). length (state_lines x)) e)))
  where
    stop : stop_at n (rowed h rows r) ≡ n
    stop = rw b refl

pub place_strict : (ls : List (List ℕ)) (n : ℕ) (s : State) → Sane s → Labelled s → n ≡ length (state_lines s)
    → strict_place n s ls ≡ or_behind (n + right_from s ls) (unlabelled_line 5 (rows_in (reach s ls)))
unfolding strict_place right_from reach
place_strict [] n s z a e = let y : n + 0 ≡ n = omega arith in rw y (stop_place n s a e)
place_strict (l ∷ ls) n s z a e =
    go (strict s l) (step s l) (strict_step s l) (strict_labelled s l a) (step_sound s l z) (place_strict ls)
  where
    go : (o p : Option State) → Strict s o p → OnState Labelled o → Reached (state_lines s ++ (l ∷ [])) p
        → ((m : ℕ) (q : State) → Sane q → Labelled q → m ≡ length (state_lines q)
        → strict_place m q ls ≡ or_behind (m + right_from q ls) (unlabelled_line 5 (rows_in (reach q ls))))
        → on_state (stop_at n s) (λ q. strict_place (suc n) q ls) o
        ≡ or_behind (n + on_state 0 (λ q. suc (right_from q ls)) p)
        (unlabelled_line 5 (rows_in (on_state s (λ q. reach q ls) p)))
    go none none t b c f = let y : n + 0 ≡ n = omega arith in rw y (stop_place n s a e)
    go none (some q) (alike k) b c f = absurd (none-ne-some q k)
    go none (some q) (stopped h rows r es bad eo ep) b c f =
        stopped_place n s ls h rows r es bad a e (n + suc (right_from q ls))
        ∙ ap (λ (x : State). or_behind (n + suc (right_from q ls)) (unlabelled_line 5 (rows_in (reach x ls))))
        (sym (some-injective q (bordered h (rows ++ (r ∷ []))) ep))
    go (some q) none (alike k) b c f = absurd (none-ne-some q (sym k))
    go (some q) none (stopped h rows r es bad eo ep) b c f = absurd (none-ne-some q (sym eo))
    go (some q) (some x) (stopped h rows r es bad eo ep) b c f = absurd (none-ne-some q (sym eo))
    go (some q) (some x) (alike k) b c f =
        let w : q ≡ x = some-injective q x k in
        let m : suc n ≡ length (state_lines x) =
        let y = ap length c.1 in let u = length-append (state_lines s) (l ∷ []) in omega (arith, y, u, e) in
        let v : n + suc (right_from x ls) ≡ suc n + right_from x ls = omega arith in
        rw v (ap (λ (y : State). strict_place (suc n) y ls) w ∙ f (suc n) x c.0 (subst Labelled w b) m)

-- ── a text ──

pub strict_place_lem : (t : List ℕ) → place_of t ≡ strict_place 0 begun (lines_of t)
unfolding place_of right_lines all
strict_place_lem t =
    let z : 0 + right_from begun (lines_of t) ≡ right_from begun (lines_of t) = omega arith in
    sym (place_strict (lines_of t) 0 begun tt refl refl
    ∙ ap (λ (n : ℕ). or_behind n (unlabelled_line 5 (rows_in (reach begun (lines_of t))))) z)

nothing : (b : Bool) → none ≡ cond {A = Option Frame} b none none
nothing true = refl
nothing false = refl

-- the test of labels is one of the rows that are ended
whole_if : (q : State) (b : Bool) → all is_labelled (ended_rows q) ≡ b → if_labelled (whole q) ≡ cond b (whole q) none
unfolding whole if_labelled
whole_if begun b e = nothing b
whole_if (named an n) b e = nothing b
whole_if (spaced an n) b e = nothing b
whole_if (ruled h) b e = nothing b
whole_if (counted h) b e = nothing b
whole_if (bordered h rows) b e = nothing b
whole_if (rowed h rows r) b e = nothing b
whole_if (closed h rows) b e = nothing b
whole_if (headed h rows) b e = nothing b
whole_if (filled h rows []) b e = nothing b
whole_if (filled h rows (l ∷ ls)) b e = rw e refl

-- the frame that it reads
pub strict_read : (t : List ℕ) (q : State) → strict_run begun (lines_of t) ≡ some q
    → read_frame t ≡ cond (is_empty (rest line_feed t)) (whole q) none
unfolding read_frame read_drawn if_labelled all
strict_read t q e =
    let k = strict_run_lem (lines_of t) begun q refl e in
    rw k.0 (go (is_empty (rest line_feed t)) (whole_if q true k.1))
  where
    go : (b : Bool) → if_labelled (whole q) ≡ whole q → if_labelled (cond b (whole q) none) ≡ cond b (whole q) none
    go true h = h
    go false h = refl

pub strict_unread : (t : List ℕ) → strict_run begun (lines_of t) ≡ none → read_frame t ≡ none
unfolding read_frame read_drawn if_labelled
strict_unread t e = go (run begun (lines_of t)) refl (is_empty (rest line_feed t))
  where
    on : (q : State) (b : Bool) → run begun (lines_of t) ≡ some q → all is_labelled (ended_rows q) ≡ b
        → if_labelled (whole q) ≡ none
    on q true k a = absurd (none-ne-some q (sym e ∙ run_strict (lines_of t) begun q k a))
    on q false k a = whole_if q false a

    go : (o : Option State) → run begun (lines_of t) ≡ o → (b : Bool)
        → if_labelled (cond b (on_state none whole o) none) ≡ none
    go o k false = refl
    go none k true = refl
    go (some q) k true = on q (all is_labelled (ended_rows q)) k refl

-- where the lines end, it stops in the state behind them
pub strict_end : (ls : List (List ℕ)) (n : ℕ) (s q : State) → strict_run s ls ≡ some q
    → strict_place n s ls ≡ stop_at (n + length ls) q
unfolding strict_run strict_place
strict_end [] n s q e =
    let z : n + 0 ≡ n = omega arith in
    rw z (ap (stop_at n) (some-injective s q e))
strict_end (l ∷ ls) n s q e = go (strict s l) e (strict_end ls)
  where
    go : (o : Option State) → on_state none (λ x. strict_run x ls) o ≡ some q
        → ((m : ℕ) (x q : State) → strict_run x ls ≡ some q → strict_place m x ls ≡ stop_at (m + length ls) q)
        → on_state (stop_at n s) (λ x. strict_place (suc n) x ls) o ≡ stop_at (n + suc (length ls)) q
    go none e f = absurd (none-ne-some q e)
    go (some x) e f =
        let z : n + suc (length ls) ≡ suc n + length ls = omega arith in
        rw z (f (suc n) x q e)
