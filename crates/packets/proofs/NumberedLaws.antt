-- A table that is right but for its numbers gets the true ones.
use mathlib.Core.Path.{◌≡◌, refl, sym, subst, ap, ap₂, ◌∙◌}
use mathlib.Core.Bool.{true, false}
use mathlib.Core.List.{List, [], ◌∷◌, ◌++◌, append-nil}
use mathlib.Core.Option.{none}
use Prim.Native.Nat.{ℕ, ◌+◌, ◌-◌, ◌<◌, ◌≤◌}
use native.Mathlib.Omega.{arith}
use native.Mathlib.Nat.{zero-add}
use lib.Dec.{leb, ltb}
use lib.ListN.{length, take, drop, get_or, length-drop}
use lib.Seq.{take_all, drop-length, take-append_seam, drop-append_seam}
use borrow.Rule.Slice.PartMut.{put_mid, Post-is}
use borrow.Author.Tests.{le-leb, lt-leb, lt-ltb}
use Rattle.base.specs.Lists.{all, first_break}
use Rattle.base.proofs.Lists.{and_both, not_both}
use Rattle.base.proofs.Breaks.{first_break_cons}
use Rattle.laws.specs.Places.{IsBytes, two_at}
use Rattle.laws.proofs.Numbers.{le2_mod}
use Rattle.rules.specs.Trees.{le2}
use Rattle.rules.specs.Fields.{Field}
use Rattle.rules.specs.References.{readers}
use Rattle.rules.specs.Within.{keeps_form, keeps_size}
use Rattle.rules.specs.Stored.{record_of, field_body, head_body, records, stored_with, stored_in}
use Rattle.references.specs.Numbers.{numbered}
use Rattle.references.proofs.NumberLaws.{numbered_records}
use Rattle.packets.specs.Parts.{table_most}
use Rattle.packets.specs.CountsTest.{reads_from, Tallied}
use Rattle.packets.specs.TableTest.{head_test, fields_test, shape_test}
use Rattle.packets.specs.Conversions.{NumbersTable}
use Rattle.laws.proofs.FieldSizes.{field_sizes, body_size}
use Rattle.packets.proofs.TableLaws.{shape_sound, shape_complete, standing, standing_kept}

-- the records' lengths fit into two bytes
pub all_fit : (before fs : List (Field ℕ)) → first_break keeps_form before fs ≡ none
    → first_break keeps_size before fs ≡ none → all (λ f. ltb (6 + length (field_body f)) 65536) fs ≡ true
unfolding all
all_fit before [] hf hs = refl
all_fit before (f ∷ fs) hf hs =
    let kf = first_break_cons keeps_form before f fs hf in
    let ks = first_break_cons keeps_size before f fs hs in
    let z = body_size f (field_sizes f kf.0 ks.0) in
    and_both (ltb (6 + length (field_body f)) 65536) _ (lt-ltb (6 + length (field_body f)) 65536 (omega (arith, z)))
    (all_fit (before ++ (f ∷ [])) fs kf.1 ks.1)

module _ (s : List ℕ) where
  abbrev from : ℕ
  from = 10 + two_at s 8

  -- right but for its numbers
  pub shape_is : length s ≤ table_most → head_test s ≡ true → fields_test s ≡ true → shape_test s ≡ true
  unfolding shape_test
  shape_is short head fields =
      and_both (leb (length s) table_most) _ (le-leb _ _ short) (and_both (head_test s) _ head fields)

  pub numbers_put : (counts : List ℕ) → IsBytes s → shape_test s ≡ true → Tallied s (two_at s 6) from counts
      → two_at s 6 ≤ length counts
      → NumbersTable true s (take from s ++ numbered (two_at s 6) counts (drop from s))
  unfolding stored_in stored_with
  numbers_put counts b shape t room =
      let q = shape_sound (standing s) s b (standing_kept s) shape in
      let d = q.description in
      let w = q.within in
      let head = record_of 1 (head_body d) in
      let rest_of = records (standing s) 0 d.fields ++ record_of 5 [] in
      let is : head ++ rest_of ≡ s = q.is_stored in
      let front : take from s ≡ head =
      ap₂ {C = List ℕ} (λ (n : ℕ) (l : List ℕ). take n l) (sym q.first) (sym is) ∙ take-append_seam head rest_of in
      let back : drop from s ≡ rest_of =
      ap₂ {C = List ℕ} (λ (n : ℕ) (l : List ℕ). drop n l) (sym q.first) (sym is) ∙ drop-append_seam head rest_of in
      let true_numbers : (j : ℕ) → j < length d.fields → le2 (get_or counts j 0) ≡ le2 (readers d.fields (0 + j)) =
      λ j lt.
      ap le2 (t j (omega (arith, lt, q.count, room))) ∙ le2_mod (reads_from s 0 (two_at s 6) from j)
      ∙ ap le2 (q.counted j ∙ ap (readers d.fields) (sym (zero-add j))) in
      let put : numbered (two_at s 6) counts (drop from s)
      ≡ records (readers d.fields) 0 d.fields ++ record_of 5 [] =
      ap₂ {C = List ℕ} (λ (n : ℕ) (l : List ℕ). numbered n counts l) (sym q.count) back
      ∙ numbered_records counts (standing s) (readers d.fields) 0 d.fields (record_of 5 [])
      (all_fit [] d.fields w.form w.size) true_numbers in
      (d, w, (standing s, is), sym (ap₂ {C = List ℕ} (λ (a c : List ℕ). a ++ c) front put))

  -- as the code puts them: into the part from the first field's record to the end
  pub numbers_there : (counts part : List ℕ) (at n : ℕ) → at ≡ from → n ≡ two_at s 6 → from ≤ length s → IsBytes s
      → shape_test s ≡ true → Tallied s (two_at s 6) from counts → two_at s 6 ≤ length counts
      → part ≡ numbered n counts (take (length s - at) (drop at s))
      → NumbersTable true s (put_mid at (length s - at) s part)
  numbers_there counts part at n a k le b shape t room is =
      let rest_of : take (length s - from) (drop from s) ≡ drop from s =
      take_all (length s - from) (drop from s) (omega (arith, length-drop from s)) in
      let here : part ≡ numbered (two_at s 6) counts (drop from s) =
      is ∙ rw (a, k) (ap (numbered (two_at s 6) counts) rest_of) in
      let end : drop (length s) s ≡ [] = drop-length s in
      let whole : put_mid at (length s - at) s part ≡ take from s ++ part =
      rw a (ap (λ (l : List ℕ). take from s ++ (part ++ l)) (Post-is from (length s) s le ∙ end)
      ∙ ap (λ (l : List ℕ). take from s ++ l) (append-nil part)) in
      subst (NumbersTable true s) (sym (whole ∙ ap (λ (l : List ℕ). take from s ++ l) here))
      (numbers_put counts b shape t room)

  pub numbers_not : (after : List ℕ) → shape_test s ≡ false → NumbersTable false s after
  numbers_not after h d w numbers is = not_both (shape_test s) (shape_complete numbers s d w is) h

  -- the tests one by one
  pub long_not : table_most < length s → shape_test s ≡ false
  unfolding shape_test
  long_not h = rw (lt-leb _ _ h) refl

  pub head_not : length s ≤ table_most → head_test s ≡ false → shape_test s ≡ false
  unfolding shape_test
  head_not short h = rw (le-leb _ _ short, h) refl

  pub fields_not : length s ≤ table_most → head_test s ≡ true → fields_test s ≡ false → shape_test s ≡ false
  unfolding shape_test
  fields_not short head h = rw (le-leb _ _ short, head, h) refl
