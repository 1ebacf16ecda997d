-- The place of a wrong line: the rows within the right lines of a text are those that the reader holds there, whatever
-- frame the lines begin.
use mathlib.Core.Path.{◌≡◌, refl, ap, sym, ◌∙◌, subst}
use mathlib.Core.Bool.{Bool, true, false, cond}
use mathlib.Core.Logic.{◌⊎◌, inl, inr}
use mathlib.Core.List.{List, [], ◌∷◌, ◌++◌, map, append_assoc, append-nil}
use mathlib.Core.Option.{Option, none, some, none-ne-some, some-injective}
use Prim.Native.Nat.{ℕ, suc, ◌+◌, ◌-◌, ◌≤◌}
use native.Mathlib.Omega.{arith}
use lib.Dec.{leb}
use lib.ListN.{length, length-append, length-map, take, drop, take-append-drop}
use lib.Seq.{length-take-le, take_all}
use borrow.Author.Tests.{lt-ltb, le-ltb}
use Rattle.base.specs.Bytes.{bytes}
use Rattle.base.specs.Lists.{all, same, is_empty, joined}
use Rattle.base.proofs.Lists.{and_left, and_right, not_both}
use Rattle.rules.specs.Limits.{line_most, row_lines_most}
use Rattle.rules.specs.Names.{line_feed}
use Rattle.rules.specs.Rows.{Row, bit_row, long_row, bar_line, row_lines, is_drawn_row}
use Rattle.rules.specs.Frames.{border, Frame, frame_text}
use Rattle.rules.specs.Refusals.{line_count, Begins, RightLines, cut_row, rows_within, unlabelled_line, or_behind}
use Rattle.rules.specs.Refusals.{wrong_line}
use Rattle.text_laws.specs.FrameReader.{lines_of, Top, State, begun, named, spaced, ruled, counted, bordered}
use Rattle.text_laws.specs.FrameReader.{rowed, closed, headed, filled, row_or_end, on_same, on_brief, step, on_state}
use Rattle.text_laws.specs.FrameReader.{run, right_from, right_lines, reach, rows_in, place_of}
use Rattle.text_laws.proofs.SplitLaws.{pieces_joined, lines_joined, line_count_lines, first_lines_lines}
use Rattle.text_laws.proofs.RowReader.{drawn_tall, drawn_front}
use Rattle.text_laws.proofs.FrameStates.{pairs, framed, state_lines, AreRows, Sane, Reached}
use Rattle.text_laws.proofs.FrameSound.{run_sound}
use Rattle.text_laws.proofs.FrameRun.{top_of, Kept, frame_kept, frame_lines, frame_lines_are, lines_are_lines}
use Rattle.text_laws.proofs.FrameRun.{run_one, run_row, step_border, run_top}
use Rattle.text_laws.proofs.FrameRight.{right_exact, take_lines}

-- ── two ways to cut a list ──

pub cut_lists : {A : Type 0} (a b ls ms : List A) → a ++ b ≡ ls ++ ms
    → ((c : List A) × (a ≡ ls ++ c)) ⊎ ((x : A) × (d : List A) × (ls ≡ a ++ (x ∷ d)) × (b ≡ x ∷ (d ++ ms)))
cut_lists a b [] ms e = inl (a, refl)
cut_lists [] b (y ∷ ls) ms e = inr (y, ls, refl, e)
cut_lists {A = A} (x ∷ a) b (y ∷ ls) ms e = go (cut_lists a b ls ms (tails e)) (heads e)
  where
    heads : {x y : A} {s t : List A} → ◌≡◌ {A = List A} (x ∷ s) (y ∷ t) → x ≡ y
    heads e = cc

    tails : {x y : A} {s t : List A} → ◌≡◌ {A = List A} (x ∷ s) (y ∷ t) → s ≡ t
    tails e = cc

    go : ((c : List A) × (a ≡ ls ++ c)) ⊎ ((z : A) × (d : List A) × (ls ≡ a ++ (z ∷ d)) × (b ≡ z ∷ (d ++ ms))) → x ≡ y
        → ((c : List A) × (x ∷ a ≡ y ∷ (ls ++ c)))
        ⊎ ((z : A) × (d : List A) × (y ∷ ls ≡ x ∷ (a ++ (z ∷ d))) × (b ≡ z ∷ (d ++ ms)))
    go (inl p) q = inl (p.0, (let r = p.1 in cc))
    go (inr p) q = inr (p.0, p.1, (let r = p.2 in cc), p.3)

-- ── the first lines of a row ──

front_map : (lines : List (List (List ℕ))) (ls c : List (List ℕ)) → map bar_line lines ≡ ls ++ c
    → ls ≡ map bar_line (take (length ls) lines)
front_map lines [] c e = refl
front_map [] (l ∷ ls) c e = cc
front_map (ss ∷ lines) (l ∷ ls) c e =
    let q : map bar_line lines ≡ ls ++ c = cc in
    let r = front_map lines ls c q in
    let s : l ≡ bar_line ss = cc in
    cc

cut_lines : (r : Row) (l : List ℕ) (ls c : List (List ℕ)) → row_lines r ≡ l ∷ (ls ++ c)
    → l ∷ ls ≡ row_lines (cut_row (suc (length ls)) r)
unfolding row_lines
cut_lines (bit_row bits lines) l ls c e = front_map lines (l ∷ ls) c e
cut_lines (long_row n s) l [] c e = cc
cut_lines (long_row n s) l (m ∷ ls) c e = cc

drawn_cut : (w : ℕ) (r : Row) (m : ℕ) → is_drawn_row row_lines_most w r ≡ true
    → is_drawn_row row_lines_most w (cut_row (suc
    m) r) ≡ true
drawn_cut w (bit_row bits []) m h = h
drawn_cut w (bit_row bits (ss ∷ lines)) m h =
    drawn_front w bits ss (take m lines) (drop m lines) (rw (take-append-drop m lines) h)
drawn_cut w (long_row n s) m h = h

pub cut_whole : (r : Row) (m : ℕ) → length (row_lines r) ≤ m → cut_row m r ≡ r
unfolding row_lines
cut_whole (bit_row bits lines) m le =
    ap (λ (l : List (List (List ℕ))). bit_row bits l)
    (take_all m lines (let n = length-map lines bar_line in omega (arith, n, le)))
cut_whole (long_row n s) m le = refl

-- ── the rows within some lines ──

within_none : (k n : ℕ) (rows : List Row) → k ≤ n → rows_within k n rows ≡ []
unfolding rows_within
within_none k n [] le = refl
within_none k n (r ∷ rows) le = rw (le-ltb n k le) refl

within_cut : (m n : ℕ) (r : Row) (rows : List Row) → suc m ≤ length (row_lines r)
    → rows_within (n + suc m) n (r ∷ rows) ≡ cut_row (suc m) r ∷ []
unfolding rows_within
within_cut m n r rows le =
    let d : n + suc m - n ≡ suc m = omega arith in
    rw (
      lt-ltb n (n + suc m) (omega arith),
      d,
      within_none (n + suc m) (n + suc (length (row_lines r))) rows (omega (arith, le)),
    )
    refl

within_next : (m n : ℕ) (r : Row) (rows : List Row)
    → rows_within (n + suc (length (row_lines r)) + m) n (r ∷ rows)
    ≡ r ∷ rows_within (n + suc (length (row_lines r)) + m) (n + suc (length (row_lines r))) rows
unfolding rows_within
within_next m n r rows =
    let k : ℕ = n + suc (length (row_lines r)) + m in
    rw (lt-ltb n k (omega arith), cut_whole r (k - n) (omega arith)) refl

-- ── behind the rows ──

-- what each step keeps is kept by a run
abbrev pub OnState : (State → Type 0) → Option State → Type 0
OnState P none = Unit {0}
OnState P (some q) = P q

pub run_keeps : (P : State → Type 0) → ((s : State) (l : List ℕ) → P s → OnState P (step s l))
    → (ls : List (List ℕ)) (s q : State) → P s → run s ls ≡ some q → P q
unfolding run
run_keeps P f [] s q p e = subst P (some-injective s q e) p
run_keeps P f (l ∷ ls) s q p e = go (step s l) (f s l p) e (run_keeps P f ls)
  where
    go : (o : Option State) → OnState P o → on_state none (λ q. run q ls) o ≡ some q
        → ((s q : State) → P s → run s ls ≡ some q → P q) → P q
    go none p e h = absurd (none-ne-some q e)
    go (some r) p e h = h r q p e

-- no row comes behind the blank line
abbrev Behind : List Row → State → Type 0
Behind rows begun = ⊥
Behind rows (named an n) = ⊥
Behind rows (spaced an n) = ⊥
Behind rows (ruled h) = ⊥
Behind rows (counted h) = ⊥
Behind rows (bordered h rs) = ⊥
Behind rows (rowed h rs r) = ⊥
Behind rows (closed h rs) = rs ≡ rows
Behind rows (headed h rs) = rs ≡ rows
Behind rows (filled h rs ls) = rs ≡ rows

behind_step : (rows : List Row) (s : State) (l : List ℕ) → Behind rows s → OnState (Behind rows) (step s l)
unfolding step on_same on_brief
behind_step rows begun l p = absurd p
behind_step rows (named an n) l p = absurd p
behind_step rows (spaced an n) l p = absurd p
behind_step rows (ruled h) l p = absurd p
behind_step rows (counted h) l p = absurd p
behind_step rows (bordered h rs) l p = absurd p
behind_step rows (rowed h rs r) l p = absurd p
behind_step rows (closed h rs) l p = go (same l (bytes "where:"))
  where
    go : (b : Bool) → OnState (Behind rows) (cond b (some (headed h rs)) none)
    go true = p
    go false = tt
behind_step rows (headed h rs) l p = go (same l [])
  where
    go : (b : Bool) → OnState (Behind rows) (cond b (some (filled h rs [])) none)
    go true = p
    go false = tt
behind_step rows (filled h rs ls) l p = go (leb (length l) line_most)
  where
    go : (b : Bool) → OnState (Behind rows) (cond b (some (filled h rs (ls ++ (l ∷ [])))) none)
    go true = p
    go false = tt

behind_rows : (rows : List Row) (q : State) → Behind rows q → rows_in q ≡ rows
behind_rows rows begun p = absurd p
behind_rows rows (named an n) p = absurd p
behind_rows rows (spaced an n) p = absurd p
behind_rows rows (ruled h) p = absurd p
behind_rows rows (counted h) p = absurd p
behind_rows rows (bordered h rs) p = absurd p
behind_rows rows (rowed h rs r) p = absurd p
behind_rows rows (closed h rs) p = p
behind_rows rows (headed h rs) p = p
behind_rows rows (filled h rs ls) p = p

-- ── from a border on ──

held : (s q : State) → ◌≡◌ {A = Option State} (some s) (some q) → rows_in s ≡ rows_in q
held s q e = ap rows_in (some-injective s q e)

within_end : (h : Top) (done : List Row) (ls ms fs : List (List ℕ)) (q : State) → [] ∷ fs ≡ ls ++ ms
    → run (bordered h done) ls ≡ some q → done ≡ rows_in q
unfolding run step row_or_end
within_end h done [] ms fs q e g = held (bordered h done) q g
within_end h done ((b ∷ l) ∷ ls) ms fs q e g = cc
within_end h done ([] ∷ ls) ms fs q e g = go (is_empty done) g
  where
    go : (b : Bool) → on_state none (λ q. run q ls) (cond b none (some (closed h done))) ≡ some q → done ≡ rows_in q
    go true k = absurd (none-ne-some q k)
    go false k =
        sym (behind_rows done q (run_keeps (Behind done) (behind_step done) ls (closed h done) q refl k))

-- behind a row, its border and d lines
abbrev Beyond : Top → List Row → List Row → Row → List (List ℕ) → List (List ℕ) → ℕ → State → List (List ℕ) → Type 0
Beyond h rows done r ms fs n q d =
    run (bordered h (done ++ (r ∷ []))) d ≡ some q → pairs h.row_width rows ++ ([] ∷ fs) ≡ d ++ ms
    → (done ++ (r ∷ []))
    ++ rows_within (n + suc (length (row_lines r)) + length d) (n + suc (length (row_lines r))) rows ≡ rows_in q

module _ (h : Top) (r : Row) (rows done : List Row) (n : ℕ) (q : State)
    (drawn : is_drawn_row row_lines_most h.row_width r ≡ true) where
  -- the lines end in the row
  inside : (ls c : List (List ℕ)) → row_lines r ≡ ls ++ c → run (bordered h done) ls ≡ some q
      → done ++ rows_within (n + length ls) n (r ∷ rows) ≡ rows_in q
  unfolding run
  inside [] c p g =
      let z : n + 0 ≤ n = omega arith in
      rw (within_none (n + 0) n (r ∷ rows) z) (append-nil done ∙ held (bordered h done) q g)
  inside (l ∷ ls) c p g =
      let m : ℕ = length ls in
      let le : suc m ≤ length (row_lines r) =
      let x = ap length p in let y = length-append (l ∷ ls) c in omega (arith, x, y) in
      let s : run (bordered h done) (l ∷ ls) ≡ some (rowed h done (cut_row (suc m) r)) =
      ap (run (bordered h done)) (cut_lines r l ls c p ∙ sym (append-nil (row_lines (cut_row (suc m) r))))
      ∙ run_row h done (cut_row (suc m) r) [] (drawn_cut h.row_width r m drawn) in
      rw (within_cut m n r rows le) (held (rowed h done (cut_row (suc m) r)) q (sym s ∙ g))

  -- or go on behind its border
  outside : (ms fs : List (List ℕ)) (x : List ℕ) (d : List (List ℕ))
      → border h.row_width ∷ (pairs h.row_width rows ++ ([] ∷ fs)) ≡ x ∷ (d ++ ms)
      → run (bordered h done) (row_lines r ++ (x ∷ d)) ≡ some q → Beyond h rows done r ms fs n q d
      → done ++ rows_within (n + length (row_lines r ++ (x ∷ d))) n (r ∷ rows) ≡ rows_in q
  outside ms fs x d p g f =
      let w : ℕ = h.row_width in
      let b : border w ≡ x = cc in
      let o : run (bordered h (done ++ (r ∷ []))) d ≡ some q =
      sym (run_row h done r (border w ∷ d) drawn
      ∙ run_one (rowed h done r) (bordered h (done ++ (r ∷ []))) (border w) d (step_border h done r))
      ∙ ap (λ (y : List ℕ). run (bordered h done) (row_lines r ++ (y ∷ d))) b ∙ g in
      let t : pairs w rows ++ ([] ∷ fs) ≡ d ++ ms = cc in
      let k : n + length (row_lines r ++ (x ∷ d)) ≡ n + suc (length (row_lines r)) + length d =
      let y = length-append (row_lines r) (x ∷ d) in omega (arith, y) in
      rw (k, within_next (length d) n r rows)
      (sym (append_assoc done (r ∷ [])
      (rows_within (n + suc (length (row_lines r)) + length d) (n + suc (length (row_lines r))) rows)) ∙ f o t)

within_rows : (h : Top) (rows done : List Row) (ls ms fs : List (List ℕ)) (n : ℕ) (q : State) → AreRows h rows
    → pairs h.row_width rows ++ ([] ∷ fs) ≡ ls ++ ms → run (bordered h done) ls ≡ some q
    → done ++ rows_within (n + length ls) n rows ≡ rows_in q
unfolding joined rows_within all run
within_rows h [] done ls ms fs n q a e g = append-nil done ∙ within_end h done ls ms fs q e g
within_rows h (r ∷ rows) done ls ms fs n q a e g =
    go ls g (cut_lists (row_lines r) (border w ∷ (pairs w rows ++ ([] ∷ fs))) ls ms
    (sym (append_assoc (row_lines r) (border w ∷ []) (pairs w rows ++ ([] ∷ fs)))
    ∙ sym (append_assoc (row_lines r ++ (border w ∷ [])) (pairs w rows) ([] ∷ fs)) ∙ e))
    (λ d o f. within_rows h rows (done ++ (r ∷ [])) d ms fs (n + suc (length (row_lines r))) q
    (and_right (is_drawn_row row_lines_most w r) (all (is_drawn_row row_lines_most w) rows) a) f o)
  where
    w : ℕ
    w = h.row_width

    drawn : is_drawn_row row_lines_most w r ≡ true
    drawn = and_left (is_drawn_row row_lines_most w r) (all (is_drawn_row row_lines_most w) rows) a

    go : (ls : List (List ℕ)) → run (bordered h done) ls ≡ some q
        → ((c : List (List ℕ)) × (row_lines r ≡ ls ++ c))
        ⊎ ((x : List ℕ) × (d : List (List ℕ)) × (ls ≡ row_lines r ++ (x ∷ d))
        × (border w ∷ (pairs w rows ++ ([] ∷ fs)) ≡ x ∷ (d ++ ms)))
        → ((d : List (List ℕ)) → Beyond h rows done r ms fs n q d)
        → done ++ rows_within (n + length ls) n (r ∷ rows) ≡ rows_in q
    go ls g (inl p) f = inside h r rows done n q drawn ls p.0 p.1 g
    go ls g (inr p) f =
        ap (λ v. done ++ rows_within (n + length v) n (r ∷ rows)) p.2
        ∙ outside h r rows done n q drawn ms fs p.0 p.1 p.3 (rw p.2 at g) (f p.1)

-- ── from the first line on ──

tall_row : (w : ℕ) (r : Row) → is_drawn_row row_lines_most w r ≡ true → 1 ≤ length (row_lines r)
unfolding row_lines
tall_row w (bit_row bits []) h = absurd (not_both false (drawn_tall w bits [] h) refl)
tall_row w (bit_row bits (ss ∷ lines)) h = omega arith
tall_row w (long_row n s) h = omega arith

few_pairs : (w : ℕ) (rows : List Row) (m : List (List ℕ)) → length (pairs w rows ++ m) ≤ 0 → rows ≡ []
unfolding joined
few_pairs w [] m le = refl
few_pairs w (r ∷ rows) m le =
    let a = length-append ((row_lines r ++ (border w ∷ [])) ++ pairs w rows) m in
    let b = length-append (row_lines r ++ (border w ∷ [])) (pairs w rows) in
    let c = length-append (row_lines r) (border w ∷ []) in
    absurd (omega (arith, le, a, b, c))

few_rows : (q : State) → Sane q → length (state_lines q) ≤ 5 → rows_in q ≡ []
few_rows begun s le = refl
few_rows (named an n) s le = refl
few_rows (spaced an n) s le = refl
few_rows (ruled h) s le = refl
few_rows (counted h) s le = refl
few_rows (bordered h rows) s le = few_pairs h.row_width rows [] (omega (arith, le))
few_rows (rowed h rows r) s le =
    let a = length-append (pairs h.row_width rows) (row_lines r) in
    let b = tall_row h.row_width r s.2 in
    absurd (omega (arith, le, a, b))
few_rows (closed h rows) s le = few_pairs h.row_width rows ([] ∷ []) (omega (arith, le))
few_rows (headed h rows) s le = few_pairs h.row_width rows ([] ∷ bytes "where:" ∷ []) (omega (arith, le))
few_rows (filled h rows ls) s le = few_pairs h.row_width rows ([] ∷ bytes "where:" ∷ [] ∷ ls) (omega (arith, le))

pub within_lines : (f : Frame) → Kept f → (ls ms : List (List ℕ)) (q : State) → frame_lines f ≡ ls ++ ms
    → run begun ls ≡ some q → rows_within (length ls) 5 f.rows ≡ rows_in q
unfolding joined
within_lines f k ls ms q e g = go (cut_lists top (pairs w f.rows ++ ([] ∷ fs)) ls ms (sym (frame_lines_are f) ∙ e))
  where
    h : Top
    h = top_of f

    w : ℕ
    w = f.row_width

    top : List (List ℕ)
    top = framed h [] []

    fs : List (List ℕ)
    fs = bytes "where:" ∷ [] ∷ f.lines

    go : ((c : List (List ℕ)) × (top ≡ ls ++ c))
        ⊎ ((x : List ℕ) × (d : List (List ℕ)) × (ls ≡ top ++ (x ∷ d))
        × (pairs w f.rows ++ ([] ∷ fs) ≡ x ∷ (d ++ ms)))
        → rows_within (length ls) 5 f.rows ≡ rows_in q
    go (inl p) =
        let r : Reached ls (some q) = rw g at (run_sound ls begun [] tt refl) in
        let le : length ls ≤ 5 =
        let x = ap length p.1 in let y = length-append ls p.0 in omega (arith, x, y) in
        within_none (length ls) 5 f.rows le
        ∙ sym (few_rows q r.0 (let y = ap length r.1 in omega (arith, y, le)))
    go (inr p) =
        let x : List ℕ = p.0 in
        let d : List (List ℕ) = p.1 in
        let o : run (bordered h []) (x ∷ d) ≡ some q =
        sym (run_top h (x ∷ d) k.top) ∙ ap (run begun) (sym p.2) ∙ g in
        let n : length ls ≡ 5 + length (x ∷ d) =
        let a = ap length p.2 in let b = length-append top (x ∷ d) in omega (arith, a, b) in
        rw n (within_rows h f.rows [] (x ∷ d) ms fs 5 q k.rows p.3 o)

-- ── the place ──

right_reach : (ls : List (List ℕ)) (s : State) → run s (take (right_from s ls) ls) ≡ some (reach s ls)
unfolding right_from run reach
right_reach [] s = refl
right_reach (l ∷ ls) s = go (step s l) refl (right_reach ls)
  where
    go : (o : Option State) → step s l ≡ o → ((q : State) → run q (take (right_from q ls) ls) ≡ some (reach q ls))
        → run s (take (on_state 0 (λ q. suc (right_from q ls)) o) (l ∷ ls)) ≡ some (on_state s (λ q. reach q ls) o)
    go none e f = refl
    go (some q) e f = rw e (f q)

-- the rows within the first k lines are those that the reader holds behind them
pub begins_rows : (t : List ℕ) (k : ℕ) (b : Begins t k) → k ≤ line_count t → (q : State)
    → run begun (take k (lines_of t)) ≡ some q → rows_within k 5 b.frame.rows ≡ rows_in q
unfolding frame_text
begins_rows t k b there q ran =
    ap (λ (n : ℕ). rows_within n 5 b.frame.rows) (sym (length-take-le k (lines_of t) le))
    ∙ within_lines b.frame kept ls (lines_of b.behind) q split ran
  where
    kept : Kept b.frame
    kept = frame_kept b.frame b.drawn

    le : k ≤ length (lines_of t)
    le = rw (line_count_lines t) at there

    ls : List (List ℕ)
    ls = take k (lines_of t)

    split : frame_lines b.frame ≡ ls ++ lines_of b.behind
    split =
        sym (lines_joined (frame_lines b.frame) (lines_are_lines b.frame kept))
        ∙ ap lines_of (b.is_text ∙ ap (λ (m : List ℕ). m ++ b.behind) (first_lines_lines k t le))
        ∙ pieces_joined line_feed ls b.behind (take_lines k t)

-- the place of 3 is the one that the reader finds
pub place_right : (t : List ℕ) (k : ℕ) (r : RightLines t k) → wrong_line k r.begins.frame ≡ place_of t
unfolding place_of
place_right t k r =
    ap (λ (rows : List Row). or_behind k (unlabelled_line 5 rows)) rows
    ∙ ap (λ (n : ℕ). or_behind n (unlabelled_line 5 (rows_in (reach begun (lines_of t))))) e
  where
    e : k ≡ right_lines t
    e = right_exact t k r

    rows : rows_within k 5 r.begins.frame.rows ≡ rows_in (reach begun (lines_of t))
    rows = begins_rows t k r.begins r.there (reach begun (lines_of t))
        (rw e (unfold right_lines in right_reach (lines_of t) begun))

-- so it is one
pub place_unique : (t : List ℕ) (j k : ℕ) (x : RightLines t j) (y : RightLines t k)
    → wrong_line j x.begins.frame ≡ wrong_line k y.begins.frame
place_unique t j k x y = place_right t j x ∙ sym (place_right t k y)
