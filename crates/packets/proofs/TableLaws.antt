-- The test of a table holds exactly where the table is good.
use mathlib.Core.Path.{◌≡◌, refl, sym, subst, ap, ◌∙◌}
use mathlib.Core.Bool.{true, false}
use mathlib.Core.List.{List, [], ◌++◌}
use Prim.Native.Nat.{ℕ, ◌+◌, ◌%◌, ◌<◌, ◌≤◌}
use native.Mathlib.Omega.{arith}
use native.Mathlib.Nat.{zero-add}
use lib.Dec.{leb}
use lib.ListN.{length, get_or}
use borrow.Author.Tests.{le-leb}
use Rattle.base.specs.Lists.{any}
use Rattle.laws.specs.Places.{Stands, IsBytes, two_at}
use Rattle.base.proofs.Lists.{and_left, and_right, and_both, not_both}
use Rattle.laws.proofs.OperatorLaws.{keeps_known}
use Rattle.laws.proofs.Places.{stands_join, stands_left, stands_right}
use Rattle.laws.proofs.Counting.{readers_are}
use Rattle.laws.proofs.Numbers.{le2_mod, records_by}
use Rattle.std.specs.Prelude.{Ok, Err}
use Rattle.rules.specs.declared.TableRefusal.{TableRefusal}
use Rattle.rules.specs.Trees.{le2}
use Rattle.rules.specs.Editions.{current}
use Rattle.rules.specs.Fields.{Field, Description}
use Rattle.rules.specs.References.{readers}
use Rattle.rules.specs.Within.{Within}
use Rattle.rules.specs.Stored.{record_of, records, head_body, stored_with, stored_in, Good}
use Rattle.rules.specs.Answers.{of_table}
use Rattle.rules.specs.Promises.{ChecksTable}
use Rattle.std.specs.Prelude.{Option, Some, None}
use Rattle.packets.specs.Parts.{table_most, span_at}
use Rattle.packets.specs.FieldTest.{bytes_in}
use Rattle.packets.specs.NamesTest.{places_from, names_test}
use Rattle.packets.specs.CountsTest.{reads_from, numbers_test}
use Rattle.packets.specs.TableTest.{walk_at, head_test, last_test, after_fields, fields_test, table_test, shape_test}
use Rattle.packets.proofs.WalkLaws.{FieldsIn, KeptAt, walk_sound, walk_complete}
use Rattle.packets.proofs.NameLaws.{number_nth, names_sound, names_complete}
use Rattle.packets.proofs.CountSteps.{kept_true, true_kept}
use Rattle.packets.proofs.CountLaws.{reads_stored}
use Rattle.packets.proofs.TableSteps.{HeadIs, head_is_lem}
use Rattle.packets.proofs.TableParts.{
  head_stands,
  HeadOf,
  head_found,
  last_stands,
  last_found,
  whole_is,
  whole_stands,
  table_length,
}

abbrev walked : List ℕ → Option ℕ
walked s = walk_at (two_at s 4) (two_at s 6) [] 0 false s (10 + two_at s 8)

-- ── sound ──

-- the description of a table that is right but for its numbers
pub record Shaped (s : List ℕ) (numbers : ℕ → ℕ) : Type 0 where
  pub description : Description
  pub within : Within description
  pub is_stored : stored_with current numbers description ≡ s
  pub first : length (record_of 1 (head_body description)) ≡ 10 + two_at s 8
  pub count : length description.fields ≡ two_at s 6
  pub counted : (i : ℕ) → reads_from s 0 (two_at s 6) (10 + two_at s 8) i ≡ readers description.fields i

shaped_of : (numbers : ℕ → ℕ) (s : List ℕ) (at : ℕ) (l : List (Field ℕ)) → IsBytes s → HeadIs s
    → length l ≡ two_at s 6 → FieldsIn numbers 0 (two_at s 4) [] 0 s (10 + two_at s 8) at l → last_test s at ≡ true
    → names_test s (two_at s 6) (10 + two_at s 8) ≡ true → Shaped s numbers
unfolding stored_with
shaped_of numbers s at l b h count fields last names =
    let from = 10 + two_at s 8 in
    let d : Description = record { name = bytes_in s (span_at s 8); row_width = two_at s 4; fields = l } in
    let head = head_stands s d b h refl (sym count) refl in
    let tail = stands_join s from at (length s) (records numbers 0 l) (record_of 5 []) fields.stands
    (last_stands s at b last) in
    record {
      description = d;
      within = record {
        name = h.name;
        row = h.row;
        count = rw count h.count;
        form = fields.form;
        operators = keeps_known [] l;
        size = fields.size;
        names = names_sound numbers s l from at fields.form fields.size fields.stands (rw count names);
        types = fields.types;
        rests = fields.rests;
        rows = fields.rows;
      };
      is_stored = whole_is s (stored_with current numbers d)
          (stands_join s 0 from (length s) (record_of 1 (head_body d)) _ head tail);
      first = omega (arith, head.end);
      count = count;
      counted = λ i.
          rw (← count) (reads_stored numbers 0 s [] l fields.form fields.size from at fields.stands i)
          ∙ readers_are l i;
    }

pub shape_sound : (numbers : ℕ → ℕ) (s : List ℕ) → IsBytes s → KeptAt numbers 0 s (two_at s 6) (10 + two_at s 8)
    → shape_test s ≡ true → Shaped s numbers
unfolding shape_test any
shape_sound numbers s b kept h =
    let r = and_right (leb (length s) table_most) _ h in
    go (head_is_lem s (and_left (head_test s) _ r)) (walked s) refl (and_right (head_test s) _ r)
  where
    go : HeadIs s → (x : Option ℕ) → walked s ≡ x → after_fields s x ≡ true → Shaped s numbers
    go head (Some at) e f =
        let q = walk_sound numbers 0 (two_at s 4) (two_at s 6) [] 0 s (10 + two_at s 8) at b kept e in
        shaped_of numbers s at q.0 b head q.1 q.2 (and_left (last_test s at) _ f)
        (and_right (last_test s at) _ f)
    go head None e f = absurd (not_both false f refl)

-- tables of like numbers
pub stored_by : (a b : ℕ → ℕ) (d : Description)
    → ((j : ℕ) → j < length d.fields → le2 (a j) ≡ le2 (b j)) → stored_with current a d ≡ stored_with current b d
unfolding stored_with
stored_by a b d h =
    ap (λ (l : List ℕ). record_of 1 (head_body d) ++ (l ++ record_of 5 []))
    (records_by a b 0 d.fields (λ j lt. let z : 0 + j ≡ j = zero-add j in rw z (h j lt)))

-- the numbers that stand in the records
abbrev pub standing : List ℕ → ℕ → ℕ
standing s i = two_at s (get_or (places_from s (two_at s 6) (10 + two_at s 8)) i 0 + 4)

pub standing_kept : (s : List ℕ) → KeptAt (standing s) 0 s (two_at s 6) (10 + two_at s 8)
standing_kept s j lt = let z : 0 + j ≡ j = zero-add j in rw z refl

pub table_sound : (s : List ℕ) → IsBytes s → table_test s ≡ true → Good s
unfolding table_test shape_test stored_in
table_sound s b h =
    let short = and_left (leb (length s) table_most) _ h in
    let r = and_right (leb (length s) table_most) _ h in
    let head = and_left (head_test s) _ r in
    let fields = and_left (fields_test s) _ (and_right (head_test s) _ r) in
    let numbers = and_right (fields_test s) _ (and_right (head_test s) _ r) in
    let q = shape_sound (standing s) s b (standing_kept s)
    (and_both (leb (length s) table_most) _ short (and_both (head_test s) _ head fields)) in
    let d = q.description in
    let true_number : (j : ℕ) → j < length d.fields → le2 (readers d.fields j) ≡ le2 (standing s j) = λ j lt.
    let z : 0 + j ≡ j = zero-add j in
    let e = kept_true s _ _ 0 (two_at s 6) numbers j (omega (arith, q.count, lt)) in
    let e' : standing s j ≡ reads_from s 0 (two_at s 6) (10 + two_at s 8) j % 65536 = rw z at e in
    sym (ap le2 e' ∙ le2_mod (reads_from s 0 (two_at s 6) (10 + two_at s 8) j) ∙ ap le2 (q.counted j)) in
    record {
      description = d;
      within = q.within;
      is_stored = stored_by (readers d.fields) (standing s) d true_number ∙ q.is_stored;
    }

-- ── complete ──

module _ (numbers : ℕ → ℕ) (s : List ℕ) (d : Description) (w : Within d) (is : stored_with current numbers d ≡ s) where
  -- where the records stand, and what is found there
  record Found : Type 0 where
    at : ℕ
    head : HeadOf s d (10 + two_at s 8)
    fields : Stands s (10 + two_at s 8) (records numbers 0 d.fields) at
    last : last_test s at ≡ true
    end : at ≤ length s

  found : Found
  unfolding stored_with
  found =
      let l = d.fields in
      let head = record_of 1 (head_body d) in
      let st = whole_stands s (stored_with current numbers d) is in
      let from = 0 + length head in
      let at = from + length (records numbers 0 l) in
      let right = stands_right s 0 (length s) head _ st in
      let fields = stands_left s from (length s) (records numbers 0 l) (record_of 5 []) right in
      let last = stands_right s from (length s) (records numbers 0 l) (record_of 5 []) right in
      let end : at ≤ length s = omega (arith, last.end) in
      let h = head_found s d from w (omega arith) (stands_left s 0 (length s) head _ st) in
      let e = h.next in
      record {
        at = 10 + two_at s 8 + length (records numbers 0 l);
        head = subst (HeadOf s d) e h;
        fields = subst (λ (a : ℕ). Stands s a (records numbers 0 l) (a + length (records numbers 0 l))) e fields;
        last = subst (λ (a : ℕ). last_test s (a + length (records numbers 0 l)) ≡ true) e (last_found s at last);
        end = omega (arith, end, e);
      }

  pub shape_complete : shape_test s ≡ true
  unfolding shape_test any
  shape_complete =
      let l = d.fields in
      let f = found in
      let h = f.head in
      let from = 10 + two_at s 8 in
      let walk : walk_at d.row_width (length l) [] 0 false s from ≡ Some f.at =
      walk_complete numbers 0 d.row_width [] 0 s from f.at l f.end (record {
        stands = f.fields;
        form = w.form;
        size = w.size;
        types = w.types;
        rests = w.rests;
        rows = w.rows;
      }) in
      let names = names_complete numbers s l from f.at w.form w.size f.fields w.names in
      let names' : names_test s (two_at s 6) from ≡ true = rw h.count names in
      let walk' : walked s ≡ Some f.at = rw (h.row, h.count) walk in
      let after : after_fields s (walked s) ≡ true = rw walk'
      (and_both (last_test s f.at) _ f.last names') in
      let most : length s ≤ table_most = rw (← is) (table_length numbers d w) in
      and_both (leb (length s) table_most) _ (le-leb _ _ most) (and_both (head_test s) _ h.test after)

  -- the numbers that stand there
  pub number_stands : (j : ℕ) → j < two_at s 6 → standing s j ≡ numbers j % 65536
  number_stands j lt =
      let f = found in
      let c = f.head.count in
      rw c (number_nth numbers s d.fields (10 + two_at s 8) f.at w.form w.size f.fields j
      (omega (arith, c, lt)))

  pub reads_there : (i : ℕ) → reads_from s 0 (two_at s 6) (10 + two_at s 8) i ≡ readers d.fields i
  reads_there i =
      let f = found in
      rw f.head.count (reads_stored numbers 0 s [] d.fields w.form w.size (10 + two_at s 8) f.at
      f.fields i) ∙ readers_are d.fields i

pub table_complete : (s : List ℕ) → Good s → table_test s ≡ true
unfolding table_test shape_test stored_in
table_complete s g =
    let d = g.description in
    let n = readers d.fields in
    let shape = shape_complete n s d g.within g.is_stored in
    let r = and_right (leb (length s) table_most) _ shape in
    let kept : numbers_test s (two_at s 6) (10 + two_at s 8) ≡ true =
    true_kept s _ _ 0 (two_at s 6) (λ j lt.
    let z : 0 + j ≡ j = zero-add j in
    rw z (number_stands n s d g.within g.is_stored j lt
    ∙ ap (λ (m : ℕ). m % 65536) (sym (reads_there n s d g.within g.is_stored j)))) in
    and_both (leb (length s) table_most) _ (and_left (leb (length s) table_most) _ shape)
    (and_both (head_test s) _ (and_left (head_test s) _ r)
    (and_both (fields_test s) _ (and_right (head_test s) _ r) kept))

-- ── the answer ──

pub accepts : (s : List ℕ) → IsBytes s → table_test s ≡ true → ChecksTable s (of_table (Ok (length s)))
unfolding of_table
accepts s b h (yes good) = refl
accepts s b h (no bad) = absurd (bad (table_sound s b h))

pub refuses : (s : List ℕ) → table_test s ≡ false → ChecksTable s (of_table (Err TableRefusal.NotGood))
unfolding of_table
refuses s h (yes good) = absurd (not_both (table_test s) (table_complete s good) h)
refuses s h (no bad) = refl
