-- The first and the last record of a table, where they stand, and how long a table is at most.
use mathlib.Core.Path.{◌≡◌, sym, ◌∙◌, ap}
use mathlib.Core.Bool.{true}
use mathlib.Core.List.{List, [], ◌∷◌, ◌++◌, append-nil}
use mathlib.Core.Option.{none}
use Prim.Native.Nat.{ℕ, suc, ◌+◌, ◌*◌, ◌≤◌}
use native.Mathlib.Omega.{arith}
use lib.Dec.{leb, eqb}
use lib.ListN.{length, length-append}
use lib.Seq.{drop-length}
use borrow.Author.Tests.{le-leb, eqb-true, eq-eqb}
use Rattle.base.specs.Lists.{between, first_break}
use Rattle.laws.specs.Places.{Stands, IsBytes, two_at}
use Rattle.base.proofs.Lists.{and_left, and_right, and_both, between_true}
use Rattle.laws.proofs.Places.{stands_none, stands_all}
use Rattle.base.proofs.Breaks.{first_break_cons}
use Rattle.rules.specs.Limits.{fields_most}
use Rattle.rules.specs.Trees.{le2}
use Rattle.rules.specs.Fields.{Field, Description}
use Rattle.rules.specs.Within.{is_row_width, keeps_form, keeps_size, Within}
use Rattle.rules.specs.References.{readers}
use Rattle.rules.specs.Stored.{counted, record_of, stored_field, records, records_in, head_body, stored_with, stored_in}
use Rattle.rules.specs.Stored.{stored}
use Rattle.laws.proofs.PlacesOfNumbers.{length_le2}
use Rattle.laws.proofs.ReadsFields.{label_length}
use Rattle.laws.proofs.Unique.{row_bound, count_bound}
use Rattle.packets.specs.Parts.{record_most, table_most, span_at}
use Rattle.packets.specs.PartsStand.{In}
use Rattle.packets.specs.FieldTest.{bytes_in}
use Rattle.packets.specs.TableTest.{head_test, last_test}
use Rattle.packets.proofs.PartsLaws.{counted_in, counted_build}
use Rattle.packets.proofs.RecordLaws.{two_front, front_two, moved}
use Rattle.laws.proofs.FieldSizes.{length_counted, field_sizes, body_size, record_size}
use Rattle.packets.proofs.PartBytes.{bytes_stand, bytes_are, in_length}
use Rattle.packets.proofs.TableSteps.{HeadIs}
use Rattle.rules.specs.Editions.{current}

-- ── the first record ──

pub head_length : (d : Description) → length (head_body d) ≡ 6 + length d.name
unfolding head_body
head_length d =
    let r = le2 d.row_width in
    let c = le2 (length d.fields) in
    omega (
      arith,
      length-append r (c ++ counted d.name),
      length-append c (counted d.name),
      length_le2 d.row_width,
      length_le2 (length d.fields),
      length_counted d.name,
    )

pub head_stands : (s : List ℕ) (d : Description) → IsBytes s → HeadIs s → two_at s 4 ≡ d.row_width
    → two_at s 6 ≡ length d.fields → bytes_in s (span_at s 8) ≡ d.name
    → Stands s 0 (record_of 1 (head_body d)) (10 + two_at s 8)
unfolding head_body
head_stands s d b h row count name =
    let end = 10 + two_at s 8 in
    let le = h.end in
    let i : In s (span_at s 8) d.name = rw name at (bytes_stand s (span_at s 8) (omega arith)) in
    let q₄ = counted_build s 8 end d.name b (omega arith) (omega arith) i in
    let q₃ = front_two s 6 end (length d.fields) _ b (omega arith) count q₄ in
    let q₂ = front_two s 4 end d.row_width _ b (omega arith) row q₃ in
    let q₁ = front_two s 2 end 1 _ b (omega arith) h.kind q₂ in
    let size : two_at s 0 ≡ 4 + length (head_body d) =
    omega (arith, h.size, head_length d, in_length s (span_at s 8) d.name i) in
    front_two s 0 end (4 + length (head_body d)) _ b (omega arith) size q₁

-- what the first record says of the description
pub record HeadOf (s : List ℕ) (d : Description) (end : ℕ) : Type 0 where
  pub test : head_test s ≡ true
  pub row : two_at s 4 ≡ d.row_width
  pub count : two_at s 6 ≡ length d.fields
  pub next : end ≡ 10 + two_at s 8

pub head_found : (s : List ℕ) (d : Description) (end : ℕ) → Within d → end ≤ length s
    → Stands s 0 (record_of 1 (head_body d)) end → HeadOf s d end
unfolding head_body head_test
head_found s d end w le st =
    let len = label_length d.name w.name in
    let hl = head_length d in
    let q₁ = two_front s 0 end (4 + length (head_body d)) _ (omega arith) st in
    let q₂ = two_front s 2 end 1 _ (omega arith) q₁.1 in
    let q₃ = two_front s 4 end d.row_width _ (row_bound d.row_width w.row) q₂.1 in
    let q₄ = two_front s 6 end (length d.fields) _ (count_bound current (length d.fields) w.count) q₃.1 in
    let q₅ = counted_in s 8 end d.name (omega arith) q₄.1 in
    let next : end ≡ 10 + two_at s 8 = omega (arith, q₅.1) in
    let size : two_at s 0 ≡ 10 + two_at s 8 = omega (arith, q₁.0, hl, in_length s (span_at s 8) d.name q₅.0) in
    record {
      test = and_both (leb (10 + two_at s 8) (length s)) _ (le-leb (10 + two_at s 8) (length s) (omega arith))
          (and_both (eqb (two_at s 0) (10 + two_at s 8)) _ (eq-eqb _ _ size)
          (and_both (eqb (two_at s 2) 1) _ (eq-eqb _ _ q₂.0)
          (and_both (is_row_width (two_at s 4)) _ (rw q₃.0 w.row)
          (and_both (between 1 (two_at s 6) fields_most) _ (rw q₄.0 w.count)
          (rw (bytes_are s (span_at s 8) d.name q₅.0) w.name)))));
      row = q₃.0;
      count = q₄.0;
      next = next;
    }

-- ── the last record ──

pub last_stands : (s : List ℕ) (at : ℕ) → IsBytes s → last_test s at ≡ true → Stands s at (record_of 5 []) (length s)
unfolding last_test
last_stands s at b h =
    let e : length s ≡ at + 4 = eqb-true (length s) (at + 4) (and_left (eqb (length s) (at + 4)) _ h) in
    let r = and_right (eqb (length s) (at + 4)) _ h in
    let f = eqb-true _ _ (and_left (eqb (two_at s at) 4) _ r) in
    let g = eqb-true _ _ (and_right (eqb (two_at s at) 4) _ r) in
    let n = moved s (length s) (at + 2 + 2) (length s) [] (omega arith) (stands_none s (length s)) in
    front_two s at (length s) 4 _ b (omega arith) f (front_two s (at + 2) (length s) 5 [] b (omega arith) g n)

pub last_found : (s : List ℕ) (at : ℕ) → Stands s at (record_of 5 []) (length s) → last_test s at ≡ true
unfolding last_test
last_found s at st =
    let q₁ = two_front s at (length s) 4 _ (omega arith) st in
    let q₂ = two_front s (at + 2) (length s) 5 [] (omega arith) q₁.1 in
    let n : length s ≡ at + 4 = omega (arith, q₂.1.end) in
    and_both (eqb (length s) (at + 4)) _ (eq-eqb _ _ n)
    (and_both (eqb (two_at s at) 4) _ (eq-eqb _ _ q₁.0) (eq-eqb _ _ q₂.0))

-- ── the whole ──

pub whole_is : (s w : List ℕ) → Stands s 0 w (length s) → w ≡ s
whole_is s w p = sym (append-nil w) ∙ ap (λ (r : List ℕ). w ++ r) (sym (drop-length s)) ∙ sym p.text

pub whole_stands : (s w : List ℕ) → w ≡ s → Stands s 0 w (length s)
whole_stands s w e = rw e (stands_all s)

fields_length : (numbers : ℕ → ℕ) (k : ℕ) (before l : List (Field ℕ)) → first_break keeps_form before l ≡ none
    → first_break keeps_size before l ≡ none
    → length (records numbers k l) ≤ record_most * length l
unfolding records_in
fields_length numbers k before [] form size = omega arith
fields_length numbers k before (f ∷ l) form size =
    let a = first_break_cons keeps_form before f l form in
    let b = first_break_cons keeps_size before f l size in
    let r = fields_length numbers (suc k) (before ++ (f ∷ [])) l a.1 b.1 in
    let one = stored_field (numbers k) f in
    let z = body_size f (field_sizes f a.0 b.0) in
    omega (arith, length-append one (records numbers (suc k) l), record_size (numbers k) f, z, r)

-- whatever the numbers are
pub table_length : (numbers : ℕ → ℕ) (d : Description) → Within d → length (stored_with current numbers d) ≤ table_most
unfolding stored_with
table_length numbers d w =
    let head = record_of 1 (head_body d) in
    let fields = records numbers 0 d.fields in
    let last = record_of 5 [] in
    let c = between_true 1 (length d.fields) fields_most w.count in
    omega (
      arith,
      length-append head (fields ++ last),
      length-append fields last,
      length-append (le2 (4 + length (head_body d))) (le2 1 ++ head_body d),
      length-append (le2 1) (head_body d),
      length_le2 (4 + length (head_body d)),
      length_le2 1,
      head_length d,
      label_length d.name w.name,
      fields_length numbers 0 [] d.fields w.form w.size,
      length-append (le2 4) (le2 5 ++ []),
      length-append (le2 5) [],
      length_le2 4,
      length_le2 5,
      c,
    )

pub stored_length_lem : (d : Description) → Within d → (s : List ℕ) → stored d ≡ s → length s ≤ table_most
unfolding stored_in
stored_length_lem d w s is = rw is at (table_length (readers d.fields) d w)
