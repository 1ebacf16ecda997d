-- Bytes that are whole records of fields are those of one list of fields: whether they can be put in is decidable.
use mathlib.Core.Path.{◌≡◌, refl, ap, sym, subst, ◌∙◌}
use mathlib.Core.Bool.{Bool}
use mathlib.Core.List.{List, [], ◌∷◌, ◌++◌, map, append_assoc, List-discrete}
use mathlib.Core.Option.{none}
use Prim.Native.Nat.{ℕ, zero, suc, ◌+◌, ◌%◌, ◌≤◌, ◌<◌}
use native.Mathlib.Omega.{arith}
use native.Mathlib.Decide.{ℕ_discrete, map_dec}
use native.Mathlib.Nat.{zero-add}
use lib.ListN.{length, length-append, take, drop}
use Rattle.base.specs.Lists.{first_break}
use Rattle.base.proofs.Breaks.{first_break_cons}
use Rattle.rules.specs.Trees.{le2}
use Rattle.rules.specs.Fields.{Field, Description}
use Rattle.rules.specs.Editions.{current}
use Rattle.rules.specs.Within.{keeps_form, keeps_size, Within}
use Rattle.rules.specs.Stored.{field_body, stored_field_in, stored_field, records_in, records}
use Rattle.rules.specs.Edits.{renumbered, opened, put}
use Rattle.rules.specs.Promises.{Joins}
use Rattle.laws.proofs.Readers.{and_then, read_two, read_field}
use Rattle.laws.proofs.ReadsNumbers.{read_two_le2}
use Rattle.laws.proofs.ReadsFields.{read_field_stored}
use Rattle.laws.proofs.Numbers.{le2_mod, records_by}
use Rattle.laws.proofs.Decidable.{both_decidable, within_decidable}
use Rattle.laws.proofs.RunReads.{kept_parts}

-- ── the fields of records ──

-- those of at most n records
unfoldable pub read_records : ℕ → List ℕ → List (Field ℕ)
read_records zero s = []
read_records (suc n) [] = []
read_records (suc n) (b ∷ s) = and_then (read_field current (b ∷ s)) (λ f r. f ∷ read_records n r)

-- those of the records that bytes are
abbrev pub fields_in : List ℕ → List (Field ℕ)
fields_in bytes = read_records (length bytes) bytes

-- a record has a first byte
record_step : (n m : ℕ) (f : Field ℕ) (r : List ℕ) → read_records (suc n) (stored_field m f ++ r)
    ≡ and_then (read_field current (stored_field m f ++ r)) (λ g q. g ∷ read_records n q)
unfolding read_records stored_field_in le2
record_step n m f r = refl

record_some : (m : ℕ) (f : Field ℕ) → 0 < length (stored_field m f)
unfolding stored_field_in le2
record_some m f = omega arith

-- fields whose form and sizes are kept
abbrev Sound : List (Field ℕ) → List (Field ℕ) → Type 0
Sound before l = (first_break keeps_form before l ≡ none) × (first_break keeps_size before l ≡ none)

records_read : (n : ℕ) (numbers : ℕ → ℕ) (i : ℕ) (before l : List (Field ℕ)) → Sound before l
    → length (records numbers i l) ≤ n → read_records n (records numbers i l) ≡ l
unfolding records_in read_records
records_read zero numbers i before [] sound h = refl
records_read (suc n) numbers i before [] sound h = refl
records_read zero numbers i before (f ∷ l) sound h =
    absurd (omega (
      arith,
      record_some (numbers i) f,
      length-append (stored_field (numbers i) f) (records numbers (suc i) l),
    ))
records_read (suc n) numbers i before (f ∷ l) sound h =
    let e = first_break_cons keeps_form before f l sound.0 in
    let s = first_break_cons keeps_size before f l sound.1 in
    let m = numbers i in
    let r = records numbers (suc i) l in
    let k : length r ≤ n = omega (arith, record_some m f, length-append (stored_field m f) r) in
    record_step n m f r
    ∙ ap (λ (p : Field ℕ × List ℕ). p.0 ∷ read_records n p.1) (read_field_stored current m f e.0 s.0 r)
    ∙ ap (λ (q : List (Field ℕ)). f ∷ q) (records_read n numbers (suc i) (before ++ (f ∷ [])) l (e.1, s.1) k)

-- ── the numbers of records ──

-- that of the record of an index
unfoldable pub number_at : List ℕ → ℕ → ℕ
number_at s zero = (read_two (drop 4 s)).0
number_at s (suc i) = number_at (read_field current s).1 i

skip_four : (a b : ℕ) (r : List ℕ) → drop 4 (le2 a ++ (le2 b ++ r)) ≡ r
unfolding le2
skip_four a b r = refl

number_read : (n : ℕ) (f : Field ℕ) (r : List ℕ) → (read_two (drop 4 (stored_field n f ++ r))).0 ≡ n % 65536
unfolding stored_field_in
number_read n f r =
    let bound : n % 65536 < 65536 = omega arith in
    let body = field_body f ++ r in
    let behind : drop 4 (stored_field n f ++ r) ≡ le2 n ++ body = simp (append_assoc, skip_four) in
    ap (λ (l : List ℕ). (read_two l).0) (behind ∙ ap (λ (l : List ℕ). l ++ body) (sym (le2_mod n)))
    ∙ ap (λ (p : ℕ × List ℕ). p.0) (read_two_le2 (n % 65536) bound body)

numbers_read : (numbers : ℕ → ℕ) (i : ℕ) (before l : List (Field ℕ)) → Sound before l → (j : ℕ) → j < length l
    → number_at (records numbers i l) j ≡ numbers (i + j) % 65536
unfolding records_in number_at
numbers_read numbers i before [] sound j lt = absurd (omega arith)
numbers_read numbers i before (f ∷ l) sound zero lt =
    let z : i + 0 ≡ i = omega arith in
    rw z (number_read (numbers i) f (records numbers (suc i) l))
numbers_read numbers i before (f ∷ l) sound (suc j) lt =
    let e = first_break_cons keeps_form before f l sound.0 in
    let s = first_break_cons keeps_size before f l sound.1 in
    let z : i + suc j ≡ suc i + j = omega arith in
    let r = records numbers (suc i) l in
    ap (λ (p : Field ℕ × List ℕ). number_at p.1 j) (read_field_stored current (numbers i) f e.0 s.0 r)
    ∙ rw z (numbers_read numbers (suc i) (before ++ (f ∷ [])) l (e.1, s.1) j (omega arith))

-- with the numbers that are read the records are the same
numbers_again : (numbers : ℕ → ℕ) (before l : List (Field ℕ)) → Sound before l
    → records (number_at (records numbers 0 l)) 0 l ≡ records numbers 0 l
numbers_again numbers before l sound =
    records_by (number_at (records numbers 0 l)) numbers 0 l
    (λ j lt. let e = rw zero-add at (numbers_read numbers 0 before l sound j lt) in
    rw zero-add (ap le2 e ∙ le2_mod (numbers j)))

-- ── records that join ──

module _ (at : ℕ) (bytes : List ℕ) (d : Description) where
  -- the fields that are put in keep what each field keeps
  put_kept : (keeps : List (Field ℕ) → Field ℕ → Bool) (gs : List (Field ℕ))
      → first_break keeps [] (put at gs d).fields ≡ none
      → first_break keeps (take at (map (renumbered (opened at (length gs))) d.fields)) gs ≡ none
  unfolding put
  put_kept keeps gs h =
      let old = map (renumbered (opened at (length gs))) d.fields in
      (kept_parts keeps (take at old) gs (drop at old) (kept_parts keeps [] (take at old) (gs ++ drop at old) h).1).0

  put_sound : (gs : List (Field ℕ)) → Within (put at gs d)
      → Sound (take at (map (renumbered (opened at (length gs))) d.fields)) gs
  put_sound gs w = (put_kept keeps_form gs w.form, put_kept keeps_size gs w.size)

  pub only_fields : (j : Joins at bytes d) → fields_in bytes ≡ j.fields
  only_fields j =
      let s = records j.numbers 0 j.fields in
      ap fields_in (sym j.are_stored)
      ∙ records_read (length s) j.numbers 0 _ j.fields (put_sound j.fields j.within) (omega arith)

  -- the bytes are the records of one list of fields
  pub joins_fields : (i j : Joins at bytes d) → i.fields ≡ j.fields
  joins_fields i j = sym (only_fields i) ∙ only_fields j

  pub same_bytes : (j : Joins at bytes d) → records (number_at bytes) 0 j.fields ≡ bytes
  same_bytes j =
      subst (λ (s : List ℕ). records (number_at s) 0 j.fields ≡ s) j.are_stored
      (numbers_again j.numbers _ j.fields (put_sound j.fields j.within))

  pub joins_decidable : Dec (Joins at bytes d)
  joins_decidable =
      map_dec
      (λ p. record { fields = fields_in bytes; numbers = number_at bytes; are_stored = p.0; within = p.1 })
      (λ j. (rw (only_fields j) (same_bytes j), rw (only_fields j) j.within))
      (both_decidable (List-discrete ℕ_discrete (records (number_at bytes) 0 (fields_in bytes)) bytes)
      (within_decidable current (put at (fields_in bytes) d)))
