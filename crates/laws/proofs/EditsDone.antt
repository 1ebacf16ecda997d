-- What an accepted cut, and an accepted putting in, come from, and that what they write is good. [02, R-4]
use mathlib.Core.Path.{◌≡◌, refl, sym}
use mathlib.Core.Bool.{Bool, true, false, cond, ◌||◌}
use mathlib.Core.List.{List}
use mathlib.Core.Option.{Option, none, some}
use Prim.Native.Nat.{ℕ, suc, ◌≤◌}
use lib.Dec.{ltb}
use lib.ListN.{length, take}
use borrow.Author.Tests.{ltb-false}
use Rattle.base.specs.Lists.{is_empty}
use Rattle.base.proofs.Lists.{or_false_left, or_false_right}
use Rattle.rules.specs.Fields.{Field, Description}
use Rattle.rules.specs.Editions.{current}
use Rattle.rules.specs.Within.{Within}
use Rattle.rules.specs.Stored.{stored, Good}
use Rattle.rules.specs.Edits.{cut, put, first_reader}
use Rattle.rules.specs.Answers.{accepted, refused}
use Rattle.rules.specs.Promises.{
  leaves,
  delivered,
  not_good,
  by_table,
  is_run,
  unless_read,
  by_limits,
  cut_outcome,
  CutsFields,
  Joins,
  by_records,
  put_outcome,
  PutsFields,
}
use Rattle.rules.specs.EditResults.{CutGood, PutGood}
use Rattle.laws.proofs.Decidable.{within_decidable, good_decidable}
use Rattle.laws.proofs.Delivered.{not_refused, written_at_start}
use Rattle.laws.proofs.Joining.{joins_decidable}

-- the table of a description, where it was written, is good
abbrev written_good : (d : Description) (out after : List ℕ) (n : ℕ) → Within d
    → leaves (accepted n) after ≡ delivered (stored d) out → Good (take n after)
written_good d out after n w h =
    record { description = d; within = w; is_stored = sym (written_at_start (stored d) out after n h).2 }

-- ── cutting ──

module _ (table out after : List ℕ) (first last n : ℕ) where
  -- a run of a good table's fields that no other field reads, and a result within the limits that was written
  pub record CutDone : Type 0 where
    pub good : Good table
    pub whole : is_run first last good.description.fields ≡ true
    pub unread : first_reader first last good.description.fields ≡ none
    pub within : Within (cut first last good.description)
    pub written : leaves (accepted n) after ≡ delivered (stored (cut first last good.description)) out

  module _ (good : Good table) where
    abbrev fields : List (Field ℕ)
    fields = good.description.fields

    abbrev result : Description
    result = cut first last good.description

    cut_limits : is_run first last fields ≡ true → first_reader first last fields ≡ none → (fits : Dec (Within result))
        → leaves (accepted n) after ≡ by_limits fits out → CutDone
    cut_limits whole unread (yes w) h =
        record { good = good; whole = whole; unread = unread; within = w; written = h }
    cut_limits whole unread (no beyond) h = absurd (not_refused n 33 0 after out h)

    cut_read : (fits : Dec (Within result)) → is_run first last fields ≡ true → (r : Option ℕ)
        → first_reader first last fields ≡ r → leaves (accepted n) after ≡ unless_read r out (by_limits fits out)
        → CutDone
    cut_read fits whole none unread h = cut_limits whole unread fits h
    cut_read fits whole (some i) e h = absurd (not_refused n 30 (suc i) after out h)

    cut_run : (fits : Dec (Within result)) (b : Bool) → is_run first last fields ≡ b → leaves (accepted n) after
        ≡ cond b (unless_read (first_reader first last fields) out (by_limits fits out)) (leaves (refused 30 0) out)
        → CutDone
    cut_run fits true whole h = cut_read fits whole (first_reader first last fields) refl h
    cut_run fits false e h = absurd (not_refused n 29 0 after out h)

  pub cut_done : CutsFields table first last out (leaves (accepted n) after) → CutDone
  unfolding cut_outcome
  cut_done p = go (good_decidable table) (p (good_decidable table) (within_decidable current))
    where
      go : (good : Dec (Good table)) → leaves (accepted n) after
          ≡ by_table good (λ d. cut_outcome first last d (within_decidable current (cut first last d)) out)
          (leaves not_good out) → CutDone
      go (yes good) h =
          let d = good.description in
          cut_run good (within_decidable current (cut first last d)) (is_run first last d.fields) refl h
      go (no bad) h = absurd (not_refused n 20 0 after out h)

pub cut_good : CutGood
cut_good table out after first last n p =
    let c = cut_done table out after first last n p in
    let d = cut first last c.good.description in
    (c.good, written_good d out after n c.within c.written, refl)

-- ── putting in ──

module _ (table bytes out after : List ℕ) (at n : ℕ) where
  -- a good table, records that join at one of its indexes or its end, and the result that was written
  pub record PutDone : Type 0 where
    pub good : Good table
    pub given : is_empty bytes ≡ false
    pub inside : at ≤ length good.description.fields
    pub joins : Joins at bytes good.description
    pub written : leaves (accepted n) after ≡ delivered (stored (put at joins.fields good.description)) out

  module _ (good : Good table) where
    abbrev count : ℕ
    count = length good.description.fields

    put_records : is_empty bytes ≡ false → at ≤ count → (joins : Dec (Joins at bytes good.description))
        → leaves (accepted n) after ≡ by_records joins out → PutDone
    put_records given inside (yes j) h =
        record { good = good; given = given; inside = inside; joins = j; written = h }
    put_records given inside (no none_do) h = absurd (not_refused n 33 0 after out h)

    put_place : (joins : Dec (Joins at bytes good.description)) (b : Bool) → (is_empty bytes || ltb count at) ≡ b
        → leaves (accepted n) after ≡ cond b (leaves (refused 30 0) out) (by_records joins out) → PutDone
    put_place joins true e h = absurd (not_refused n 29 0 after out h)
    put_place joins false e h =
        let far = ltb count at in
        put_records (or_false_left (is_empty bytes) far e) (ltb-false count at (or_false_right (is_empty bytes) far e))
        joins h

  pub put_done : PutsFields table at bytes out (leaves (accepted n) after) → PutDone
  unfolding put_outcome
  put_done p = go (good_decidable table) (p (good_decidable table) (joins_decidable at bytes))
    where
      go : (good : Dec (Good table)) → leaves (accepted n) after
          ≡ by_table good (λ d. put_outcome at bytes d (joins_decidable at bytes d) out) (leaves not_good out) → PutDone
      go (yes good) h =
          let d = good.description in
          put_place good (joins_decidable at bytes d) (is_empty bytes || ltb (length d.fields) at) refl h
      go (no bad) h = absurd (not_refused n 20 0 after out h)

pub put_good : PutGood
put_good table bytes out after at n p =
    let c = put_done table bytes out after at n p in
    let d = put at c.joins.fields c.good.description in
    (c.good, written_good d out after n c.joins.within c.written, c.joins, refl)
