-- A stored table stores one description: what it stores is read again.
use mathlib.Core.Path.{◌≡◌, sym, ◌∙◌, ap}
use mathlib.Core.Bool.{true, ◌||◌}
use mathlib.Core.List.{[], append_assoc}
use Prim.Native.Nat.{ℕ, ◌<◌}
use native.Mathlib.Omega.{arith}
use lib.Dec.{leb, eqb}
use lib.ListN.{length}
use borrow.Author.Tests.{leb-true, eqb-true}
use Rattle.base.specs.Lists.{between}
use Rattle.base.proofs.Breaks.{and_true, or_true}
use Rattle.rules.specs.Editions.{Edition}
use Rattle.rules.specs.Fields.{Description}
use Rattle.rules.specs.Names.{is_label}
use Rattle.rules.specs.Within.{is_row_width, keeps_form, keeps_size, Keeps, WithinIn}
use Rattle.rules.specs.References.{readers}
use Rattle.rules.specs.Stored.{head_body, stored_with, stored_in}
use Rattle.rules.specs.Results.{StoredUnique}
use Rattle.laws.proofs.Readers.{described_in}
use Rattle.laws.proofs.ReadsNumbers.{read_two_le2, skip_le2, read_counted_counted}
use Rattle.laws.proofs.ReadsFields.{label_length, read_fields_stored}

pub row_bound : (w : ℕ) → is_row_width w ≡ true → w < 65536
row_bound w h =
    or_true (eqb w 8) (eqb w 16 || eqb w 32)
    (λ e. omega (arith, eqb-true w 8 e))
    (or_true (eqb w 16) (eqb w 32) (λ e. omega (arith, eqb-true w 16 e)) (λ e. omega (arith, eqb-true w 32 e)))
    h

pub count_bound : (e : Edition) (n : ℕ) → between 1 n e.fields ≡ true → n < 65536
count_bound e n h =
    omega (
      arith,
      leb-true n e.fields (and_true (leb 1 n) (leb n e.fields) h).1,
      leb-true e.fields 256
          e.few,
    )

-- a description that is stored truly, within the limits or not
pub record Sound (d : Description) : Type 0 where
  pub name : is_label d.name ≡ true
  pub row : is_row_width d.row_width ≡ true
  pub count : length d.fields < 65536
  pub form : Keeps keeps_form d.fields
  pub size : Keeps keeps_size d.fields

-- whatever the numbers are
pub described_sound : (e : Edition) (numbers : ℕ → ℕ) (d : Description) → Sound d
    → described_in e (stored_with e numbers d) ≡ d
unfolding described_in stored_with head_body
described_sound e numbers d s =
    let name : length d.name < 65536 = omega (arith, label_length d.name s.name) in
    simp (
      append_assoc,
      skip_le2,
      read_two_le2 d.row_width (row_bound d.row_width s.row),
      read_two_le2 (length d.fields) s.count,
      read_counted_counted d.name name,
      read_fields_stored e numbers 0 [] d.fields s.form s.size,
    )

pub described_with : (e : Edition) (numbers : ℕ → ℕ) (d : Description) → WithinIn e d
    → described_in e (stored_with e numbers d) ≡ d
described_with e numbers d w =
    described_sound e numbers d (record {
      name = w.name;
      row = w.row;
      count = count_bound e (length d.fields) w.count;
      form = w.form;
      size = w.size;
    })

pub described_stored : (e : Edition) (d : Description) → WithinIn e d → described_in e (stored_in e d) ≡ d
unfolding stored_in
described_stored e d w = described_with e (readers d.fields) d w

-- two descriptions within the limits that have one stored table are equal
pub stored_unique : StoredUnique
stored_unique e c d v w h = sym (described_stored e c v) ∙ ap (described_in e) h ∙ described_stored e d w
