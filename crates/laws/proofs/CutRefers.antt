-- Where no field outside a run reads one in it, each field outside reads without the run what it read. [02, R-4]
use mathlib.Core.Path.{◌≡◌, refl, ap, sym, subst, ◌∙◌}
use mathlib.Core.Bool.{Bool, true, false, ◌||◌, not}
use mathlib.Core.List.{List, [], ◌∷◌, ◌++◌}
use mathlib.Core.Option.{none, some}
use Prim.Native.Nat.{ℕ, suc, ◌+◌, ◌-◌, ◌≤◌, ◌<◌}
use native.Mathlib.Omega.{arith}
use native.Mathlib.Nat.{zero-add}
use lib.Dec.{ltb}
use lib.ListN.{length, get_elem?}
use borrow.Author.Tests.{ltb-true, ltb-false, leb-false, le-leb, not-true}
use Rattle.base.specs.Lists.{between, first_break}
use Rattle.base.proofs.Lookups.{kept_at, element_below, element_parts, element_map}
use Rattle.rules.specs.Fields.{Field}
use Rattle.rules.specs.Edits.{renumbered, closed, run_length, remaining, cut, reads_run, first_reader}
use Rattle.rules.specs.EditResults.{CutRefers}
use Rattle.laws.proofs.Renumbering.{closed_low, closed_high, field_reads_lem}
use Rattle.laws.proofs.Runs.{remaining_between, split_run}
use Rattle.laws.proofs.CutPut.{run_bounds}

-- the element of an index behind a front
element_behind : {A : Type 0} (b r : List A) (j : ℕ) → get_elem? (b ++ r) (length b + j) ≡ get_elem? r j
element_behind [] r j = rw zero-add refl
element_behind (x ∷ b) r j =
    let z : suc (length b) + j ≡ suc (length b + j) = omega arith in
    rw z (element_behind b r j)

-- fields xs, a run gs from first to last, and fields ys
module _ (xs gs ys : List (Field ℕ)) (first last : ℕ) (start : length xs ≡ first) (end : suc last ≡ first + length gs)
    (i : ℕ) (outside : between first i last ≡ false) where
  -- a field outside the run, by its new index
  pub closed_element : get_elem? (xs ++ ys) (closed first (run_length first last) i) ≡ get_elem? (xs ++ (gs ++ ys)) i
  closed_element = go (ltb i first) refl
    where
      n : ℕ
      n = run_length first last

      go : (b : Bool) → ltb i first ≡ b → get_elem? (xs ++ ys) (closed first n i) ≡ get_elem? (xs ++ (gs ++ ys)) i
      go true e =
          let lt : i < length xs = omega (arith, start, ltb-true i first e) in
          rw (closed_low first n i (ltb-true i first e))
          (element_below xs ys i lt ∙ sym (element_below xs (gs ++ ys) i lt))
      go false e =
          let high = ltb-false i first e in
          let beyond : last < i = leb-false i last (rw (le-leb first i high) at outside) in
          let j : ℕ = i - suc last in
          let new : i - n ≡ length xs + j = omega (arith, start, end, beyond, high) in
          let old : i ≡ length xs + (length gs + j) = omega (arith, start, end, beyond) in
          ap (get_elem? (xs ++ ys)) (closed_high first n i high ∙ new) ∙ element_behind xs ys j
          ∙ sym (element_behind gs ys j) ∙ sym (element_behind xs (gs ++ ys) (length gs + j))
          ∙ ap (get_elem? (xs ++ (gs ++ ys))) (sym old)

remaining_element : (first last : ℕ) (fs : List (Field ℕ)) → first ≤ last → last < length fs → (i : ℕ)
    → between first i last ≡ false
    → get_elem? (remaining first last fs) (closed first (run_length first last) i) ≡ get_elem? fs i
remaining_element first last fs low high i outside =
    let s = split_run first last fs low high in
    subst
    (λ (l : List (Field ℕ)). get_elem? (remaining first last l) (closed first (run_length first last) i) ≡ get_elem? l
    i)
    (sym s.whole)
    (ap (λ (l : List (Field ℕ)). get_elem? l (closed first (run_length first last) i))
    (remaining_between s.xs s.gs s.ys first last s.start s.end)
    ∙ closed_element s.xs s.gs s.ys first last s.start s.end i outside)

-- a field outside the run reads none in it
outside_away : (first last : ℕ) (fs : List (Field ℕ)) → first_reader first last fs ≡ none → (i : ℕ) (f : Field ℕ)
    → get_elem? fs i ≡ some f → between first i last ≡ false → reads_run first last f ≡ false
unfolding first_reader
outside_away first last fs unread i f at outside =
    let keeps : List (Field ℕ) → Field ℕ → Bool =
    λ before g. between first (length before) last || not (reads_run first last g) in
    let p = element_parts fs i f at in
    let kept : keeps p.0 f ≡ true =
    kept_at keeps p.0 f p.1 (subst (λ (l : List (Field ℕ)). first_break keeps [] l ≡ none) p.2 unread) in
    not-true (reads_run first last f) (rw (p.3, outside) at kept)

pub cut_refers : CutRefers
unfolding cut
cut_refers d first last whole unread i f at outside =
    let bounds = run_bounds first last d.fields whole in
    let g = closed first (run_length first last) in (
      element_map (renumbered g) (remaining first last d.fields) (g i) f
          (remaining_element first last d.fields bounds.0 bounds.1 i outside ∙ at),
      outside_away first last d.fields unread i f at outside,
      field_reads_lem g f,
    )
