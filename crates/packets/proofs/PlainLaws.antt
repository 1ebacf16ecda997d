-- Operators that the old rules do not know are found in a stored table where its description has one.
use mathlib.Core.Path.{◌≡◌, refl}
use mathlib.Core.Bool.{Bool, true, false, cond, ◌&&◌, ◌||◌, not}
use mathlib.Core.List.{List, [], ◌∷◌, ◌++◌}
use mathlib.Core.Option.{none, some}
use Prim.Native.Nat.{ℕ, suc, ◌+◌, ◌≤◌}
use native.Mathlib.Omega.{arith}
use native.Mathlib.Nat.{zero-add}
use lib.Dec.{ltb}
use lib.ListN.{length, length-append}
use borrow.Author.Tests.{lt-ltb, le-ltb}
use Rattle.base.specs.Lists.{all, any, first_break}
use Rattle.laws.specs.Places.{Stands}
use Rattle.rules.specs.Operators.{is_added}
use Rattle.rules.specs.Trees.{Tree, has_operators}
use Rattle.rules.specs.Fields.{Field, trees}
use Rattle.rules.specs.Within.{keeps_form, keeps_size}
use Rattle.rules.specs.Stored.{records}
use Rattle.references.specs.declared.scans.Wanted.TheVariants.{Added}
use Rattle.packets.specs.Parts.{table_most}
use Rattle.packets.specs.Expressions.{having_from}
use Rattle.packets.proofs.HavingLaws.{or_end, lacks, having_stored}

abbrev is_plain : Tree ℕ → Bool
is_plain t = has_operators (λ o. not (is_added o)) t

abbrev pub is_plain_field : Field ℕ → Bool
is_plain_field f = all is_plain (trees f)

none_other : (l : List (Tree ℕ)) → not (any (λ t. not (is_plain t)) l) ≡ all is_plain l
unfolding any all
none_other [] = refl
none_other (t ∷ l) = go (is_plain t) (none_other l)
  where
    go : (b : Bool) → not (any (λ t. not (is_plain t)) l) ≡ all is_plain l
        → not (not b || any (λ t. not (is_plain t)) l) ≡ (b && all is_plain l)
    go true h = h
    go false h = refl

plain_found : (before fs : List (Field ℕ))
    → ltb (or_end (length before + length fs) (first_break (lacks Added) before fs)) (length before + length fs)
    ≡ not (all is_plain_field fs)
unfolding all first_break
plain_found before [] = le-ltb (length before + 0) (length before + 0) (omega arith)
plain_found before (f ∷ fs) = rw (none_other (trees f)) (go (is_plain_field f) (plain_found (before ++ (f ∷ [])) fs))
  where
    n : ℕ
    n = length before + suc (length fs)

    more : List (Field ℕ)
    more = before ++ (f ∷ [])

    go : (b : Bool)
        → ltb (or_end (length more + length fs) (first_break (lacks Added) more fs)) (length more + length fs)
        ≡ not (all is_plain_field fs)
        → ltb (or_end n (cond b (first_break (lacks Added) more fs) (some (length before)))) n
        ≡ not (b && all is_plain_field fs)
    go true h =
        let e : length more + length fs ≡ n = omega (arith, length-append before (f ∷ [])) in
        rw e at h
    go false h = lt-ltb (length before) n (omega arith)

pub adds_stored : (numbers : ℕ → ℕ) (s : List ℕ) (fs : List (Field ℕ)) (place end : ℕ) (r : List ℕ)
    → first_break keeps_form [] fs ≡ none → first_break keeps_size [] fs ≡ none → end ≤ table_most
    → Stands s place (records numbers 0 fs ++ r) end
    → ltb (having_from Added s 0 (length fs) place) (length fs) ≡ not (all is_plain_field fs)
adds_stored numbers s fs place end r hf hs le p =
    let z = zero-add (length fs) in
    let e : having_from Added s 0 (length fs) place ≡ or_end (length fs) (first_break (lacks Added) [] fs) =
    rw z at (having_stored Added numbers 0 s [] fs place end r hf hs le p) in
    rw e (rw z at (plain_found [] fs))
