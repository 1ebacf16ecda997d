-- What cutting and putting in give, by tests of the bytes: it is what is promised, whatever the decisions. [02, R-4]
use mathlib.Core.Path.{◌≡◌, refl, ap, sym, subst, ◌∙◌}
use mathlib.Core.Bool.{Bool, true, false, cond, ◌&&◌, ◌||◌}
use mathlib.Core.List.{List}
use Prim.Native.Nat.{ℕ}
use lib.Dec.{ltb}
use lib.ListN.{length}
use Rattle.base.specs.Lists.{same, is_empty}
use Rattle.base.proofs.Lists.{and_both, not_both, same_true, same_self}
use Rattle.base.proofs.Breaks.{and_true}
use Rattle.rules.specs.Fields.{Field, Description}
use Rattle.rules.specs.Editions.{current}
use Rattle.rules.specs.Within.{Within}
use Rattle.rules.specs.Stored.{records, stored, Good}
use Rattle.rules.specs.Edits.{cut, put, first_reader}
use Rattle.rules.specs.Answers.{refused}
use Rattle.rules.specs.Promises.{
  Outcome,
  leaves,
  delivered,
  not_good,
  by_table,
  is_run,
  unless_read,
  by_limits,
  cut_outcome,
  CutsFields,
  Joins,
  by_records,
  put_outcome,
  PutsFields,
}
use Rattle.laws.proofs.Decidable.{within_decidable, good_decidable}
use Rattle.laws.proofs.WithinTest.{is_within, within, outside, inside_in}
use Rattle.laws.proofs.GoodTest.{is_good_in, told_by}
use Rattle.laws.proofs.Readers.{described_in}
use Rattle.laws.proofs.Joining.{number_at, fields_in, only_fields, same_bytes, joins_decidable}
use Rattle.laws.proofs.EditsSettled.{by_table_lem}

-- what a table's description gives, or 21
abbrev edited_in : List ℕ → (Description → Outcome) → List ℕ → Outcome
edited_in table result out = cond (is_good_in current table) (result (described_in current table)) (leaves not_good out)

edited_told : (table : List ℕ) (f g : Description → Outcome) (out : List ℕ) → ((d : Description) → f d ≡ g d)
    → (good : Dec (Good table)) → edited_in table f out ≡ by_table good g (leaves not_good out)
edited_told table f g out same good =
    told_by current table f (leaves not_good out) good ∙ by_table_lem table f g (leaves not_good out) same good good

-- ── cutting ──

abbrev pub limits_told : Description → List ℕ → Outcome
limits_told d out = cond (is_within d) (delivered (stored d) out) (leaves (refused 34 0) out)

limits_told_lem : (d : Description) (out : List ℕ) (fits : Dec (Within d)) → limits_told d out ≡ by_limits fits out
limits_told_lem d out fits = go (is_within d) refl fits
  where
    go : (b : Bool) → is_within d ≡ b → (fits : Dec (Within d))
        → cond b (delivered (stored d) out) (leaves (refused 34 0) out) ≡ by_limits fits out
    go true h (yes w) = refl
    go true h (no beyond) = absurd (beyond (within d h))
    go false h (yes w) = absurd (outside d h w)
    go false h (no beyond) = refl

abbrev pub cut_told : ℕ → ℕ → Description → List ℕ → Outcome
cut_told first last d out =
    cond (is_run first last d.fields)
    (unless_read (first_reader first last d.fields) out (limits_told (cut first last d) out))
    (leaves (refused 30 0) out)

abbrev pub cut_in : List ℕ → ℕ → ℕ → List ℕ → Outcome
cut_in table first last out = edited_in table (λ d. cut_told first last d out) out

pub by_cut : (first last : ℕ) (out : List ℕ) (d : Description) (fits : Dec (Within (cut first last d)))
    → cut_told first last d out ≡ cut_outcome first last d fits out
unfolding cut_outcome
by_cut first last out d fits =
    ap (λ (o : Outcome). cond (is_run first last d.fields) (unless_read (first_reader first last d.fields) out o)
    (leaves (refused 30 0) out)) (limits_told_lem (cut first last d) out fits)

pub cut_told_lem : (table : List ℕ) (first last : ℕ) (out : List ℕ) → CutsFields table first last out
    (cut_in table first last out)
cut_told_lem table first last out good fits =
    edited_told table (λ d. cut_told first last d out) (λ d. cut_outcome first last d (fits (cut first last d)) out) out
    (λ d. by_cut first last out d (fits (cut first last d))) good

pub cut_only : (table : List ℕ) (first last : ℕ) (out : List ℕ) (o : Outcome) → CutsFields table first last out o
    → o ≡ cut_in table first last out
cut_only table first last out o p =
    let good = good_decidable table in
    let fits = within_decidable current in
    p good fits ∙ sym (cut_told_lem table first last out good fits)

-- ── putting in ──

-- the bytes are the records of the fields that are read from them, with which the description is within the limits
abbrev pub is_joining : ℕ → List ℕ → Description → Bool
is_joining at bytes d =
    same (records (number_at bytes) 0 (fields_in bytes)) bytes && is_within (put at (fields_in bytes) d)

joining : (at : ℕ) (bytes : List ℕ) (d : Description) → is_joining at bytes d ≡ true → Joins at bytes d
joining at bytes d h =
    let e = and_true (same (records (number_at bytes) 0 (fields_in bytes)) bytes) _ h in record {
      fields = fields_in bytes;
      numbers = number_at bytes;
      are_stored = same_true _ _ e.0;
      within = within (put at (fields_in bytes) d) e.1;
    }

not_joining : (at : ℕ) (bytes : List ℕ) (d : Description) → is_joining at bytes d ≡ false → Joins at bytes d → ⊥
not_joining at bytes d h j =
    let q = sym (only_fields at bytes d j) in
    let s = subst (λ (fs : List (Field ℕ)). records (number_at bytes) 0 fs ≡ bytes) q (same_bytes at bytes d j) in
    let w = subst (λ (fs : List (Field ℕ)). Within (put at fs d)) q j.within in
    not_both (is_joining at bytes d)
    (and_both _ _ (ap (λ (l : List ℕ). same l bytes) s ∙ same_self bytes) (inside_in current _ w)) h

abbrev pub records_told : ℕ → List ℕ → Description → List ℕ → Outcome
records_told at bytes d out =
    cond (is_joining at bytes d) (delivered (stored (put at (fields_in bytes) d)) out) (leaves (refused 34 0) out)

records_told_lem : (at : ℕ) (bytes : List ℕ) (d : Description) (out : List ℕ) (joins : Dec (Joins at bytes d))
    → records_told at bytes d out ≡ by_records joins out
records_told_lem at bytes d out joins = go (is_joining at bytes d) refl joins
  where
    go : (b : Bool) → is_joining at bytes d ≡ b → (joins : Dec (Joins at bytes d))
        → cond b (delivered (stored (put at (fields_in bytes) d)) out) (leaves (refused 34 0) out)
        ≡ by_records joins out
    go true h (yes j) =
        ap (λ (fs : List (Field ℕ)). delivered (stored (put at fs d)) out) (only_fields at bytes d j)
    go true h (no none_do) = absurd (none_do (joining at bytes d h))
    go false h (yes j) = absurd (not_joining at bytes d h j)
    go false h (no none_do) = refl

abbrev pub put_told : ℕ → List ℕ → Description → List ℕ → Outcome
put_told at bytes d out =
    cond (is_empty bytes || ltb (length d.fields) at) (leaves (refused 30 0) out) (records_told at bytes d out)

abbrev pub put_in : List ℕ → ℕ → List ℕ → List ℕ → Outcome
put_in table at bytes out = edited_in table (λ d. put_told at bytes d out) out

pub by_put : (at : ℕ) (bytes out : List ℕ) (d : Description) (joins : Dec (Joins at bytes d))
    → put_told at bytes d out ≡ put_outcome at bytes d joins out
unfolding put_outcome
by_put at bytes out d joins =
    ap (λ (o : Outcome). cond (is_empty bytes || ltb (length d.fields) at) (leaves (refused 30 0) out) o)
    (records_told_lem at bytes d out joins)

pub put_told_lem : (table : List ℕ) (at : ℕ) (bytes out : List ℕ) → PutsFields table at bytes out
    (put_in table at bytes out)
put_told_lem table at bytes out good joins =
    edited_told table (λ d. put_told at bytes d out) (λ d. put_outcome at bytes d (joins d) out) out
    (λ d. by_put at bytes out d (joins d)) good

pub put_only : (table : List ℕ) (at : ℕ) (bytes out : List ℕ) (o : Outcome) → PutsFields table at bytes out o
    → o ≡ put_in table at bytes out
put_only table at bytes out o p =
    let good = good_decidable table in
    let joins = joins_decidable at bytes in
    p good joins ∙ sym (put_told_lem table at bytes out good joins)
