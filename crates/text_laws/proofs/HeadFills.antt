-- What is kept of cells and field lines: all of them, or 4 where they are too many.
use mathlib.Core.Path.{◌≡◌, refl, ap}
use mathlib.Core.Bool.{Bool, true, false, cond, ◌||◌}
use mathlib.Core.List.{List, [], ◌∷◌, ◌++◌}
use mathlib.Core.Option.{some}
use Prim.Native.Nat.{ℕ, suc, ◌+◌, ◌≤◌, ◌<◌}
use native.Mathlib.Omega.{arith}
use lib.Dec.{ltb, leb}
use lib.ListN.{length, length-append}
use borrow.Author.Tests.{lt-ltb, ltb-true, ltb-false, le-leb}
use Rattle.base.proofs.Lists.{not_both, or_left, or_right, or_cases}
use mathlib.Core.Logic.{◌⊎◌, inl, inr}
use Rattle.rules.specs.Answers.{refused}
use Rattle.rules.specs.Limits.{fields_most}
use Rattle.rules.specs.Frames.{Slot}
use Rattle.text_laws.specs.Judging.{Judged, is_many, is_full, many, judge}
use Rattle.text_laws.specs.Fold.{Found, with_cells}
use Rattle.text_laws.proofs.Judges.{Judges, judges_none, none_judges, judges_more, judge_count}

-- ── cells and field lines; p is the number of the first field line ──

abbrev pub is_over : List Slot → List (List ℕ) → Bool
is_over cs ls = ltb fields_most (length cs) || ltb fields_most (length ls)

-- cs are all cells and ls all field lines; cells and j are what is kept
pub data Fills (cs : List Slot) (p : ℕ) (ls : List (List ℕ)) (cells : List Slot) (j : Judged) : Type 0 where
  fits : length cs ≤ fields_most → length ls ≤ fields_most → cells ≡ cs → j.count ≡ length ls → Judges cs p ls j
      → Fills cs p ls cells j
  spills : is_over cs ls ≡ true → j.lowest ≡ some (refused 4 0) → Fills cs p ls cells j

-- before the first field line its number does not matter
pub fills_moved : (cs : List Slot) (p q : ℕ) (cells : List Slot) (j : Judged) → Fills cs p [] cells j
    → Fills cs q [] cells j
fills_moved cs p q cells j (fits a b e c h) =
    let n = none_judges cs p j h in
    fits a b e c (judges_none cs q j n.0 n.1)
fills_moved cs p q cells j (spills o e) = spills o e

pub fills_row : (cs : List Slot) (p : ℕ) (f : Found) (more : List Slot) → Fills cs p [] f.cells f.judged
    → Fills (cs ++ more) p [] (with_cells f (f.cells ++ more)).cells (with_cells f (f.cells ++ more)).judged
fills_row cs p f more (fits a b e c h) = go (ltb fields_most (length (f.cells ++ more))) refl
  where
    go : (x : Bool) → ltb fields_most (length (f.cells ++ more)) ≡ x
        → Fills (cs ++ more) p [] (cond x f.cells (f.cells ++ more)) (cond x (many f.judged) f.judged)
    go true k = spills (or_left (ltb fields_most (length (cs ++ more))) (ltb fields_most 0) (rw e at k)) refl
    go false k =
        let n = none_judges cs p f.judged h in
        fits (ltb-false fields_most (length (cs ++ more)) (rw e at k)) b (ap (λ (l : List Slot). l ++ more) e) c
        (judges_none (cs ++ more) p f.judged n.0 n.1)
fills_row cs p f more (spills o e) = go (ltb fields_most (length (f.cells ++ more)))
  where
    long : fields_most < length cs
    long = last (or_cases (ltb fields_most (length cs)) (ltb fields_most 0) o)
      where
        last : (ltb fields_most (length cs) ≡ true) ⊎ (ltb fields_most 0 ≡ true) → fields_most < length cs
        last (inl k) = ltb-true fields_most (length cs) k
        last (inr k) = absurd (not_both false k refl)

    longer : is_over (cs ++ more) [] ≡ true
    longer =
        let n = length-append cs more in
        or_left (ltb fields_most (length (cs ++ more))) (ltb fields_most 0)
        (lt-ltb fields_most (length (cs ++ more)) (omega (arith, long, n)))

    go : (x : Bool)
        → Fills (cs ++ more) p [] (cond x f.cells (f.cells ++ more)) (cond x (many f.judged) f.judged)
    go true = spills longer refl
    go false = spills longer e

full_many : (cells : List Slot) (n : ℕ) (j : Judged) (l : List ℕ) → is_full j ≡ true
    → (judge cells n j l).lowest ≡ some (refused 4 0)
unfolding judge
full_many cells n j l h = rw h refl

pub fills_field : (cs : List Slot) (p : ℕ) (ls : List (List ℕ)) (cells : List Slot) (j : Judged) (l : List ℕ)
    → Fills cs p ls cells j → Fills cs p (ls ++ (l ∷ [])) cells (judge cells (p + length ls) j l)
fills_field cs p ls cells j l (fits a b e c h) = go (ltb (length ls) fields_most) refl
  where
    longer : length (ls ++ (l ∷ [])) ≡ suc (length ls)
    longer = let n = length-append ls (l ∷ []) in omega (arith, n)

    go : (x : Bool) → ltb (length ls) fields_most ≡ x
        → Fills cs p (ls ++ (l ∷ [])) cells (judge cells (p + length ls) j l)
    go true k =
        let lt = ltb-true (length ls) fields_most k in
        fits a (rw longer (let z : suc (length ls) ≤ fields_most = omega (arith, lt) in z)) e
        (rw (e, longer) (judge_count cs p ls j l lt c h))
        (rw e (judges_more cs p ls j l lt c h))
    go false k =
        let le = ltb-false (length ls) fields_most k in
        let n : length ls ≡ fields_most = omega (arith, le, b) in
        spills (or_right (ltb fields_most (length cs)) (ltb fields_most (length (ls ++ (l ∷ []))))
        (lt-ltb fields_most (length (ls ++ (l ∷ []))) (omega (arith, longer, n))))
        (full_many cells (p + length ls) j l
        (or_right (is_many j.lowest) (leb fields_most j.count) (le-leb fields_most j.count (omega
        (arith, c, n)))))
fills_field cs p ls cells j l (spills o e) =
    spills (go (or_cases (ltb fields_most (length cs)) (ltb fields_most (length ls)) o))
    (full_many cells (p + length ls) j l (or_left (is_many j.lowest) (leb fields_most j.count) (rw e refl)))
  where
    go : (ltb fields_most (length cs) ≡ true) ⊎ (ltb fields_most (length ls) ≡ true)
        → is_over cs (ls ++ (l ∷ [])) ≡ true
    go (inl k) = or_left (ltb fields_most (length cs)) (ltb fields_most (length (ls ++ (l ∷ [])))) k
    go (inr k) =
        let lt = ltb-true fields_most (length ls) k in
        let n = length-append ls (l ∷ []) in
        or_right (ltb fields_most (length cs)) (ltb fields_most (length (ls ++ (l ∷ []))))
        (lt-ltb fields_most (length (ls ++ (l ∷ []))) (omega (arith, lt, n)))
