-- The place of an answer to a table whose fields are cut out, or that gets fields put in, fits 32 bits.
use mathlib.Core.Path.{◌≡◌, refl, ap}
use mathlib.Core.Bool.{Bool, true, false, cond, ◌||◌}
use mathlib.Core.List.{List, []}
use mathlib.Core.Option.{Option, none, some}
use Prim.Native.Nat.{ℕ, ◌<◌, ◌≤◌}
use native.Mathlib.Omega.{arith}
use lib.Dec.{ltb}
use lib.ListN.{length}
use Rattle.base.specs.Lists.{is_empty}
use Rattle.rules.specs.Limits.{fields_most}
use Rattle.rules.specs.Editions.{current}
use Rattle.rules.specs.Fields.{Description}
use Rattle.rules.specs.Edits.{cut, put, first_reader}
use Rattle.rules.specs.Within.{Within}
use Rattle.rules.specs.Stored.{stored}
use Rattle.rules.specs.Answers.{Answer, accepted, refused}
use Rattle.rules.specs.Promises.{
  Outcome,
  leaves,
  overlaid,
  delivered,
  not_good,
  by_table,
  is_run,
  unless_read,
  by_limits,
  cut_outcome,
  CutsFields,
  Joins,
  by_records,
  put_outcome,
  PutsFields,
}
use Rattle.laws.proofs.Decidable.{within_decidable}
use Rattle.laws.proofs.Joining.{joins_decidable}
use Rattle.packets.proofs.CutPromises.{break_inside}
use Rattle.umarekoza.proofs.PacketPlaces.{low_by}

delivered_low : (w out : List ℕ) → (delivered w out).answer.place ≡ 0
unfolding delivered
delivered_low w out = go (ltb (length out) (length w))
  where
    go : (b : Bool)
        → (cond b (leaves (refused 11 0) out) (leaves (accepted (length w)) (overlaid w out))).answer.place ≡ 0
    go true = refl
    go false = refl

limits_low : (d : Description) (fits : Dec (Within d)) (out : List ℕ) → (by_limits fits out).answer.place ≡ 0
limits_low d (yes w) out = delivered_low (stored d) out
limits_low d (no beyond) out = refl

cut_low : (first last : ℕ) (d : Description) (fits : Dec (Within (cut first last d))) (out : List ℕ)
    → (cut_outcome first last d fits out).answer.place ≤ length d.fields
unfolding cut_outcome first_reader
cut_low first last d fits out =
    go (is_run first last d.fields) (first_reader first last d.fields)
    (break_inside _ [] d.fields (length d.fields) (omega arith))
  where
    go : (b : Bool) (o : Option ℕ) → ((i : ℕ) → o ≡ some i → i < length d.fields)
        → (cond b (unless_read o out (by_limits fits out)) (leaves (refused 30 0) out)).answer.place
        ≤ length d.fields
    go true none low = omega (arith, limits_low (cut first last d) fits out)
    go true (some i) low = low i refl
    go false o low = omega arith

pub cut_place_low : (table out : List ℕ) (first last : ℕ) (a : Answer) (after : List ℕ)
    → CutsFields table first last out (leaves a after) → a.place ≤ fields_most
cut_place_low table out first last a after h =
    let fits = within_decidable current in
    low_by table a
    (λ good. (by_table good (λ d. cut_outcome first last d (fits (cut first last d)) out)
    (leaves not_good out)).answer.place)
    (λ good. ap (λ (o : Outcome). o.answer.place) (h good fits))
    (λ g. cut_low first last g.description (fits (cut first last g.description)) out) (λ b. refl)

records_low : (at : ℕ) (bytes : List ℕ) (d : Description) (joins : Dec (Joins at bytes d)) (out : List ℕ)
    → (by_records joins out).answer.place ≡ 0
records_low at bytes d (yes j) out = delivered_low (stored (put at j.fields d)) out
records_low at bytes d (no none_do) out = refl

put_low : (at : ℕ) (bytes : List ℕ) (d : Description) (joins : Dec (Joins at bytes d)) (out : List ℕ)
    → (put_outcome at bytes d joins out).answer.place ≤ length d.fields
unfolding put_outcome
put_low at bytes d joins out = go (is_empty bytes || ltb (length d.fields) at)
  where
    go : (b : Bool) → (cond b (leaves (refused 30 0) out) (by_records joins out)).answer.place ≤ length d.fields
    go true = omega arith
    go false = omega (arith, records_low at bytes d joins out)

pub put_place_low : (table bytes out : List ℕ) (at : ℕ) (a : Answer) (after : List ℕ)
    → PutsFields table at bytes out (leaves a after) → a.place ≤ fields_most
put_place_low table bytes out at a after h =
    let joins = joins_decidable at bytes in
    low_by table a
    (λ good. (by_table good (λ d. put_outcome at bytes d (joins d) out) (leaves not_good out)).answer.place)
    (λ good. ap (λ (o : Outcome). o.answer.place) (h good joins))
    (λ g. put_low at bytes g.description (joins g.description) out) (λ b. refl)
