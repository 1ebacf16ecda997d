-- Where a stored table's fields begin, and how many there are.
use mathlib.Core.Path.{◌≡◌, refl, ◌∙◌}
use mathlib.Core.List.{List, [], ◌++◌}
use Prim.Native.Nat.{ℕ, ◌+◌, ◌<◌, ◌≤◌}
use native.Mathlib.Omega.{arith}
use native.Mathlib.Nat.{zero-add}
use lib.ListN.{length, length-append}
use borrow.Author.Tests.{leb-true}
use lib.Dec.{leb}
use Rattle.laws.specs.Places.{Stands, two_at}
use Rattle.laws.proofs.Places.{stands_all, stands_left, stands_right}
use Rattle.base.proofs.Breaks.{and_true}
use Rattle.rules.specs.Limits.{fields_most}
use Rattle.rules.specs.Trees.{le2}
use Rattle.rules.specs.Fields.{Description}
use Rattle.rules.specs.Within.{Within}
use Rattle.rules.specs.References.{readers}
use Rattle.rules.specs.Stored.{record_of, counted, head_body, records, stored, stored_in, stored_with}
use Rattle.laws.proofs.PlacesOfNumbers.{length_le2, stands_two}
use Rattle.laws.proofs.ReadsFields.{label_length}
use Rattle.packets.proofs.TableParts.{head_length}

pub count_most : (d : Description) → Within d → length d.fields ≤ fields_most
count_most d w = leb-true _ _ (and_true (leb 1 (length d.fields)) (leb (length d.fields) fields_most)
    w.count).1

-- ── the first record ──

module _ (d : Description) (s : List ℕ) (is : stored d ≡ s) where
  whole : Stands s 0 (record_of 1 (head_body d) ++ (records (readers d.fields) 0 d.fields ++ record_of 5 []))
      (length s)
  unfolding stored_in stored_with
  whole = rw is (stands_all s)

  -- a number of the first record, behind the bytes w
  number_in : (w : List ℕ) (n : ℕ) (r : List ℕ) → record_of 1 (head_body d) ≡ w ++ (le2 n ++ r) → n < 65536
      → two_at s (length w) ≡ n
  number_in w n r e h =
      let a = record_of 1 (head_body d) in
      let p : Stands s 0 a (0 + length a) = stands_left s 0 (length s) a _ whole in
      let q : Stands s 0 (w ++ (le2 n ++ r)) (0 + length (w ++ (le2 n ++ r))) = rw e at p in
      let t = rw zero-add at (stands_right s 0 _ w (le2 n ++ r) q) in
      stands_two s (length w) _ n (stands_left s (length w) _ (le2 n) r t) h

  pub head_first : Within d → two_at s 0 ≡ length (record_of 1 (head_body d))
  head_first w =
      let l = label_length d.name w.name in
      let h = head_length d in
      number_in [] (4 + length (head_body d)) (le2 1 ++ head_body d) refl (omega arith)
      ∙ simp (length-append, length_le2) (omega arith)

  pub head_count : Within d → two_at s 6 ≡ length d.fields
  unfolding head_body le2
  head_count w =
      let n = count_most d w in
      number_in
      (le2 (4 + length (head_body d)) ++ (le2 1 ++ le2 d.row_width))
      (length d.fields)
      (counted d.name)
      refl
      (omega arith)

  pub fields_stand : Within d → Stands s (two_at s 0) (records (readers d.fields) 0 d.fields ++ record_of 5 [])
      (length s)
  fields_stand w =
      rw (head_first w, ← zero-add (length (record_of 1 (head_body d))))
      (stands_right s 0 (length s) (record_of 1 (head_body d)) _ whole)
