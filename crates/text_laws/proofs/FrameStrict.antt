-- The strict reader: it reads the frames whose cells say labels, and stops where the place of 3 is.
use mathlib.Core.Path.{◌≡◌, refl, ap, sym, ◌∙◌, subst}
use mathlib.Core.Bool.{Bool, true, false, cond}
use mathlib.Core.List.{List, [], ◌∷◌, ◌++◌, append_assoc, append-nil}
use mathlib.Core.Option.{Option, none, some, none-ne-some, some-injective}
use Prim.Native.Nat.{ℕ}
use lib.Dec.{leb}
use lib.ListN.{length, take, drop}
use Rattle.base.specs.Bytes.{bytes}
use Rattle.base.specs.Lists.{all, same, is_empty}
use Rattle.base.proofs.Lists.{and_both, all_append, all_front, all_back, not_both}
use Rattle.base.proofs.Breaks.{all_cons}
use Rattle.rules.specs.Limits.{line_most}
use Rattle.rules.specs.Rows.{Row, is_labelled}
use Rattle.rules.specs.Frames.{units, border}
use Rattle.text_laws.specs.FrameReader.{read_name, read_tens, read_row, more_row, Top, State, begun, named, spaced}
use Rattle.text_laws.specs.FrameReader.{ruled, counted, bordered, rowed, closed, headed, filled, on_name}
use Rattle.text_laws.specs.FrameReader.{on_width, on_row, row_or_end, opened, on_same, on_brief, row_or_border, step}
use Rattle.text_laws.specs.FrameReader.{on_state, run, reach, rows_in, ended_rows, leave, strict, strict_run}
use Rattle.text_laws.proofs.FramePlace.{OnState, run_keeps}

-- ── the rows that a step ends ──

pub data After (s q : State) : Type 0 where
  same_rows : ended_rows q ≡ ended_rows s → After s q
  row_ended_lem : (h : Top) (rows : List Row) (r : Row) → s ≡ rowed h rows r → q ≡ bordered h (rows ++ (r ∷ []))
      → After s q

after_if : (s q : State) (b : Bool) → After s q → OnState (After s) (cond b (some q) none)
after_if s q true h = h
after_if s q false h = tt

pub step_after : (s : State) (l : List ℕ) → OnState (After s) (step s l)
unfolding step opened on_name on_same on_width on_brief row_or_end on_row row_or_border
step_after begun l = go (same (take 3 l) (bytes "An ")) (same (take 2 l) (bytes "A "))
  where
    on : (an : Bool) (o : Option (List ℕ)) → OnState (After begun) (on_name an o)
    on an none = tt
    on an (some n) = same_rows refl

    go : (a b : Bool) → OnState (After begun)
        (cond a (on_name true (read_name (drop 3 l))) (cond b (on_name false (read_name (drop 2 l))) none))
    go true b = on true (read_name (drop 3 l))
    go false true = on false (read_name (drop 2 l))
    go false false = tt
step_after (named an n) l = after_if (named an n) (spaced an n) (same l []) (same_rows refl)
step_after (spaced an n) l = go (read_tens l)
  where
    go : (o : Option ℕ) → OnState (After (spaced an n)) (on_width an n o)
    go none = tt
    go (some w) = same_rows refl
step_after (ruled h) l = after_if (ruled h) (counted h) (same l (units h.row_width)) (same_rows refl)
step_after (counted h) l = after_if (counted h) (bordered h []) (same l (border h.row_width)) (same_rows refl)
step_after (bordered h rows) [] = go (is_empty rows)
  where
    go : (b : Bool) → OnState (After (bordered h rows)) (cond b none (some (closed h rows)))
    go true = tt
    go false = same_rows refl
step_after (bordered h rows) (b ∷ l) = go (read_row h.row_width (b ∷ l))
  where
    go : (o : Option Row) → OnState (After (bordered h rows)) (on_row h rows o)
    go none = tt
    go (some r) = same_rows refl
step_after (rowed h rows r) l = go (more_row h.row_width r l)
  where
    go : (o : Option Row) → OnState (After (rowed h rows r)) (row_or_border h rows r l o)
    go none =
        after_if (rowed h rows r) (bordered h (rows ++ (r ∷ []))) (same l (border h.row_width))
        (row_ended_lem h rows r refl refl)
    go (some x) = same_rows refl
step_after (closed h rows) l = after_if (closed h rows) (headed h rows) (same l (bytes "where:")) (same_rows refl)
step_after (headed h rows) l = after_if (headed h rows) (filled h rows []) (same l []) (same_rows refl)
step_after (filled h rows ls) l = after_if (filled h rows ls) _ (leb (length l) line_most) (same_rows refl)

-- ── rows that were ended stay ──

abbrev pub Grown : List Row → State → Type 0
Grown rows q = (more : List Row) × (ended_rows q ≡ rows ++ more)

grown_after : (rows : List Row) (s q : State) → Grown rows s → After s q → Grown rows q
grown_after rows s q g (same_rows e) = (g.0, e ∙ g.1)
grown_after rows s q g (row_ended_lem h rs r e f) = (
  g.0 ++ (r ∷ []),
  ap ended_rows f
      ∙ ap (λ (l : List Row). l ++ (r ∷ [])) (sym (ap ended_rows e) ∙ g.1)
      ∙ append_assoc rows g.0 (r ∷ []),
)

pub grown_step : (rows : List Row) (s : State) (l : List ℕ) → Grown rows s → OnState (Grown rows) (step s l)
grown_step rows s l g = go (step s l) (step_after s l)
  where
    go : (o : Option State) → OnState (After s) o → OnState (Grown rows) o
    go none a = tt
    go (some q) a = grown_after rows s q g a

pub reach_keeps : (P : State → Type 0) → ((s : State) (l : List ℕ) → P s → OnState P (step s l))
    → (ls : List (List ℕ)) (s : State) → P s → P (reach s ls)
unfolding reach
reach_keeps P f [] s p = p
reach_keeps P f (l ∷ ls) s p = go (step s l) (f s l p) (reach_keeps P f ls)
  where
    go : (o : Option State) → OnState P o → ((q : State) → P q → P (reach q ls))
        → P (on_state s (λ q. reach q ls) o)
    go none a h = p
    go (some q) a h = h q a

-- the rows of a state begin with those that are ended
pub rows_in_lem : (q : State) → (more : List Row) × (rows_in q ≡ ended_rows q ++ more)
rows_in_lem begun = ([], refl)
rows_in_lem (named an n) = ([], refl)
rows_in_lem (spaced an n) = ([], refl)
rows_in_lem (ruled h) = ([], refl)
rows_in_lem (counted h) = ([], refl)
rows_in_lem (bordered h rows) = ([], sym (append-nil rows))
rows_in_lem (rowed h rows r) = (r ∷ [], refl)
rows_in_lem (closed h rows) = ([], sym (append-nil rows))
rows_in_lem (headed h rows) = ([], sym (append-nil rows))
rows_in_lem (filled h rows ls) = ([], sym (append-nil rows))

-- ── strict or not ──

abbrev pub Labelled : State → Type 0
Labelled s = all is_labelled (ended_rows s) ≡ true

-- the strict reader goes the same way, unless it would leave such a row
pub data Strict (s : State) (o p : Option State) : Type 0 where
  alike : o ≡ p → Strict s o p
  stopped : (h : Top) (rows : List Row) (r : Row) → s ≡ rowed h rows r → is_labelled r ≡ false → o ≡ none
      → p ≡ some (bordered h (rows ++ (r ∷ []))) → Strict s o p

pub strict_step : (s : State) (l : List ℕ) → Strict s (strict s l) (step s l)
unfolding strict
strict_step begun l = alike refl
strict_step (named an n) l = alike refl
strict_step (spaced an n) l = alike refl
strict_step (ruled h) l = alike refl
strict_step (counted h) l = alike refl
strict_step (bordered h rows) l = alike refl
strict_step (rowed h rows r) l = unfold step in go (more_row h.row_width r l)
  where
    on : (b : Bool) → is_labelled r ≡ b → (c : Bool)
        → Strict (rowed h rows r)
        (cond b (cond c (some (bordered h (rows ++ (r ∷ [])))) none) none)
        (cond c (some (bordered h (rows ++ (r ∷ [])))) none)
    on true e c = alike refl
    on false e true = stopped h rows r refl e refl refl
    on false e false = alike refl

    go : (o : Option Row) → Strict (rowed h rows r) (leave h rows r l o) (row_or_border h rows r l o)
    go none = unfold leave row_or_border on_same in on (is_labelled r) refl (same l (border h.row_width))
    go (some x) = unfold leave row_or_border in alike refl
strict_step (closed h rows) l = alike refl
strict_step (headed h rows) l = alike refl
strict_step (filled h rows ls) l = alike refl

pub strict_some : (s q : State) (l : List ℕ) → strict s l ≡ some q → step s l ≡ some q
strict_some s q l e = go (strict s l) (step s l) (strict_step s l) e
  where
    go : (o p : Option State) → Strict s o p → o ≡ some q → p ≡ some q
    go o p (alike k) e = sym k ∙ e
    go o p (stopped h rows r es bad eo ep) e = absurd (none-ne-some q (sym eo ∙ e))

-- what is ended by the strict reader says labels
left_labelled : (h : Top) (rows : List Row) (r : Row) (l : List ℕ) (o : Option Row)
    → leave h rows r l o ≡ some (bordered h (rows ++ (r ∷ []))) → is_labelled r ≡ true
unfolding leave
left_labelled h rows r l (some x) e = cc
left_labelled h rows r l none e = go (is_labelled r) refl e
  where
    go : (b : Bool) → is_labelled r ≡ b
        → cond b (on_same (border h.row_width) (bordered h (rows ++ (r ∷ []))) l) none
        ≡ some (bordered h (rows ++ (r ∷ [])))
        → is_labelled r ≡ true
    go true k e = k
    go false k e = absurd (none-ne-some (bordered h (rows ++ (r ∷ []))) e)

pub more_labelled : (rows : List Row) (r : Row) → all is_labelled rows ≡ true → is_labelled r ≡ true
    → all is_labelled (rows ++ (r ∷ [])) ≡ true
unfolding all
more_labelled rows r a b = all_append is_labelled rows (r ∷ []) a (and_both (is_labelled r) true b refl)

after_labelled : (s q : State) (l : List ℕ) → strict s l ≡ some q → Labelled s → After s q → Labelled q
after_labelled s q l e a (same_rows k) = subst (λ (rows : List Row). all is_labelled rows ≡ true) (sym k) a
after_labelled s q l e a (row_ended_lem h rows r k m) =
    subst Labelled (sym m) (more_labelled rows r (subst Labelled k a)
    (left_labelled h rows r l (more_row h.row_width r l)
    (unfold strict in (sym (ap (λ (x : State). strict x l) k) ∙ e ∙ ap (λ (x : State). some x) m))))

pub strict_labelled : (s : State) (l : List ℕ) → Labelled s → OnState Labelled (strict s l)
strict_labelled s l a = go (strict s l) refl (step s l) (strict_step s l) (step_after s l)
  where
    go : (o : Option State) → strict s l ≡ o → (p : Option State) → Strict s o p → OnState (After s) p
        → OnState Labelled o
    go none e p h k = tt
    go (some q) e none h k = absurd (none_strict s q h)
      where
        none_strict : (s q : State) → Strict s (some q) none → ⊥
        none_strict s q (alike e) = absurd (none-ne-some q (sym e))
        none_strict s q (stopped h rows r a b c d) = absurd (none-ne-some q (sym c))
    go (some q) e (some x) (alike f) k =
        after_labelled s q l e a (subst (After s) (sym (some-injective q x f)) k)
    go (some q) e (some x) (stopped h rows r b c d f) k = absurd (none-ne-some q (sym d))

-- ── all lines ──

pub strict_run_lem : (ls : List (List ℕ)) (s q : State) → Labelled s → strict_run s ls ≡ some q
    → (run s ls ≡ some q) × Labelled q
unfolding strict_run run
strict_run_lem [] s q a e = (e, subst Labelled (some-injective s q e) a)
strict_run_lem (l ∷ ls) s q a e =
    go (strict s l) (step s l) (strict_step s l) (strict_labelled s l a) e (strict_run_lem ls)
  where
    go : (o p : Option State) → Strict s o p → OnState Labelled o → on_state none (λ x. strict_run x ls) o ≡ some q
        → ((x q : State) → Labelled x → strict_run x ls ≡ some q → (run x ls ≡ some q) × Labelled q)
        → (on_state none (λ x. run x ls) p ≡ some q) × Labelled q
    go none p t b e f = absurd (none-ne-some q e)
    go (some x) p (alike k) b e f =
        subst (λ (p : Option State). (on_state none (λ x. run x ls) p ≡ some q) × Labelled q) k (f x q b e)
    go (some x) p (stopped h rows r es bad eo ep) b e f = absurd (none-ne-some x (sym eo))

-- where all rows say labels, nothing stops it
pub run_strict : (ls : List (List ℕ)) (s q : State) → run s ls ≡ some q → Labelled q → strict_run s ls ≡ some q
unfolding strict_run run
run_strict [] s q e a = e
run_strict (l ∷ ls) s q e a = go (strict s l) (step s l) (strict_step s l) e (run_strict ls)
  where
    go : (o p : Option State) → Strict s o p → on_state none (λ x. run x ls) p ≡ some q
        → ((x q : State) → run x ls ≡ some q → Labelled q → strict_run x ls ≡ some q)
        → on_state none (λ x. strict_run x ls) o ≡ some q
    go o none t e f = absurd (none-ne-some q e)
    go o (some x) (alike k) e f =
        subst (λ (p : Option State). on_state none (λ x. strict_run x ls) p ≡ some q) (sym k) (f x q e a)
    go o (some x) (stopped h rows r es bad eo ep) e f =
        let g : Grown (rows ++ (r ∷ [])) q =
        run_keeps (Grown (rows ++ (r ∷ []))) (grown_step (rows ++ (r ∷ []))) ls x q
        (subst (Grown (rows ++ (r ∷ []))) (sym (some-injective x (bordered h (rows ++ (r ∷ []))) ep))
        ([], sym (append-nil (rows ++ (r ∷ []))))) e in
        let b : all is_labelled ((rows ++ (r ∷ [])) ++ g.0) ≡ true =
        subst (λ (l : List Row). all is_labelled l ≡ true) g.1 a in
        let c : all is_labelled (r ∷ []) ≡ true =
        all_back is_labelled rows (r ∷ []) (all_front is_labelled (rows ++ (r ∷ [])) g.0 b) in
        absurd (not_both (is_labelled r) (all_cons is_labelled r [] c).0 bad)
