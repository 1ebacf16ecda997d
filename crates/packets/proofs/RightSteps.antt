-- What the code that compares the numbers of a table's records with the counts is told.
use mathlib.Core.Path.{◌≡◌, refl, ◌∙◌}
use mathlib.Core.Bool.{Bool, true, false}
use mathlib.Core.List.{List, []}
use Prim.Native.Nat.{ℕ, ◌+◌, ◌%◌, ◌<◌, ◌≤◌}
use native.Mathlib.Omega.{arith}
use lib.ListN.{length, get_or, take}
use Rattle.base.proofs.Lists.{not_both}
use Rattle.laws.specs.Places.{two_at}
use Rattle.std.specs.Prelude.{Option, Some, None}
use Rattle.packets.specs.Parts.{table_most}
use Rattle.packets.specs.NamesTest.{places_from}
use Rattle.packets.specs.CountsTest.{reads_from, kept_from, numbers_test}
use Rattle.packets.specs.TableTest.{walk_at, head_test, after_fields, fields_test, GatheredAll}
use Rattle.packets.proofs.NameSteps.{same_place, all_places}
use Rattle.packets.proofs.CountSteps.{kept_like}
use Rattle.packets.proofs.TableSteps.{head_is_lem, walk_places}

-- the places of the records lie in the table
pub right_places : (s places : List ℕ) → length s ≤ table_most → head_test s ≡ true → fields_test s ≡ true
    → take (two_at s 6) places ≡ places_from s (two_at s 6) (10 + two_at s 8)
    → (i : ℕ) → i < two_at s 6 → get_or places i 0 ≤ table_most
right_places s places short head fields e i lt =
    go (walk_at (two_at s 4) (two_at s 6) [] 0 false s (10 + two_at s 8)) refl fields
  where
    go : (x : Option ℕ) → walk_at (two_at s 4) (two_at s 6) [] 0 false s (10 + two_at s 8) ≡ x → after_fields s x ≡ true
        → get_or places i 0 ≤ table_most
    go (Some at) is f =
        (all_places s (two_at s 6) places (places_from s (two_at s 6) (10 + two_at s 8)) e
        (walk_places _ _ _ _ _ _ _ _ short (head_is_lem s head).end is) i lt).place
    go None is f = absurd (not_both false f refl)

pub gathered_true : (s places counts : List ℕ) {r : Bool} → r ≡ true → GatheredAll r s places counts
    → GatheredAll true s places counts
gathered_true s places counts e g = rw e at g

-- the counts are those that the test goes by
pub right_numbers : (s places counts : List ℕ) (n : ℕ) {r : Bool} → r ≡ kept_from s places (λ i. get_or counts i 0) 0 n
    → n ≡ two_at s 6 → GatheredAll true s places counts → two_at s 6 ≤ length counts
    → r ≡ numbers_test s (two_at s 6) (10 + two_at s 8)
right_numbers s places counts n h is g le =
    let all = places_from s (two_at s 6) (10 + two_at s 8) in
    h ∙ rw is
    (kept_like s places all (λ i. get_or counts i 0) (λ i. reads_from s 0 (two_at s 6) (10 + two_at s 8) i % 65536)
    (two_at s 6) (same_place s (two_at s 6) places all g.0) (λ i lt. g.1 i (omega arith)) 0 (two_at s 6) (omega arith))
