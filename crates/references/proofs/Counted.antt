-- Fields counted one by one, and the numbers that are put by the counts.
use mathlib.Core.Path.{◌≡◌, ap, sym, subst, ◌∙◌}
use mathlib.Core.Bool.{cond}
use mathlib.Core.List.{List, [], ◌∷◌, ◌++◌}
use Prim.Native.Nat.{ℕ, ◌+◌, ◌≤◌, ◌<◌}
use native.Mathlib.Omega.{arith}
use lib.Dec.{eqb}
use lib.ListN.{length, get_or, replicate, length-replicate, get_or-replicate}
use Rattle.base.specs.Lists.{joined, list_of}
use Rattle.base.proofs.Joined.{joined_append}
use Rattle.rules.specs.Trees.{le2}
use Rattle.rules.specs.Fields.{Field, width_trees}
use Rattle.rules.specs.References.{tree_reads, field_reads, times, readers}
use Rattle.laws.proofs.Counting.{readers_from, readers_append, readers_are}
use Rattle.laws.proofs.Numbers.{le2_mod}
use Rattle.references.specs.Tallies.{tallied}
use Rattle.references.specs.Counted.{Counted}
use Rattle.references.proofs.TallyLaws.{tallied_length, tallied_append, tallied_at}

none_reads : (i : ℕ) → readers [] i ≡ 0
unfolding readers_from
none_reads i = sym (readers_are [] i)

pub counted_none : (n : ℕ) → Counted [] (replicate n 0)
counted_none n = record {
  each = λ i lt.
      let none = none_reads i in
      let size = length-replicate {A = ℕ} n 0 in
      let zero = get_or-replicate {A = ℕ} n i 0 0 (omega (arith, size, lt)) in
      omega (arith, none, zero);
}

-- a field more is counted, whose own references are left out
more_readers : (fs : List (Field ℕ)) (f : Field ℕ) (i : ℕ)
    → readers (fs ++ (f ∷ [])) i ≡ readers fs i + cond (eqb i (length fs)) 0 (times i (field_reads f))
unfolding readers_from
more_readers fs f i =
    let all = sym (readers_are (fs ++ (f ∷ [])) i) ∙ readers_append 0 fs (f ∷ []) i in
    let first = readers_are fs i in
    let own : 0 + length fs ≡ length fs = omega arith in
    let last : readers_from (0 + length fs) (f ∷ []) i ≡ readers_from (length fs) (f ∷ []) i =
    ap (λ (k : ℕ). readers_from k (f ∷ []) i) own in
    omega (arith, all, first, last)

field_reads_lem : (f : Field ℕ) → field_reads f
    ≡ joined tree_reads (width_trees f.width)
    ++ (joined tree_reads (list_of f.constraint) ++ joined tree_reads (list_of f.condition))
unfolding field_reads
field_reads_lem f =
    let w = width_trees f.width in
    let c = list_of f.constraint in
    let k = list_of f.condition in
    joined_append tree_reads w (c ++ k)
    ∙ ap (λ (l : List ℕ). joined tree_reads w ++ l) (joined_append tree_reads c k)

pub counted_more : (fs : List (Field ℕ)) (f : Field ℕ) (counts : List ℕ) → Counted fs counts
    → Counted (fs ++ (f ∷ []))
    (tallied (length fs) (tallied (length fs) (tallied (length fs) counts (joined tree_reads (width_trees f.width)))
    (joined tree_reads (list_of f.constraint))) (joined tree_reads (list_of f.condition)))
counted_more fs f counts h =
    let n = length fs in
    let w = joined tree_reads (width_trees f.width) in
    let c = joined tree_reads (list_of f.constraint) in
    let k = joined tree_reads (list_of f.condition) in
    let e : tallied n counts (field_reads f) ≡ tallied n (tallied n (tallied n counts w) c) k =
    ap (tallied n counts) (field_reads_lem f) ∙ tallied_append n counts w (c ++ k)
    ∙ tallied_append n (tallied n counts w) c k in
    subst (λ (l : List ℕ). Counted (fs ++ (f ∷ [])) l) e (record {
      each = λ i lt.
          let size = tallied_length n counts (field_reads f) in
          let in_front_lem : i < length counts = omega (arith, size, lt) in
          let before = h.each i in_front_lem in
          let here = tallied_at n counts (field_reads f) i in_front_lem (omega (arith, before)) in
          let all = more_readers fs f i in
          omega (arith, before, here, all);
    })

pub counted_numbers : (fs : List (Field ℕ)) (counts : List ℕ) → Counted fs counts → length fs ≤ length counts
    → (j : ℕ) → j < length fs → le2 (get_or counts j 0) ≡ le2 (readers fs j)
counted_numbers fs counts h le j lt = ap le2 (h.each j (omega (arith, lt, le))) ∙ le2_mod (readers fs j)
