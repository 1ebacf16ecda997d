-- From the steps of converting to its promise.
use mathlib.Core.Path.{◌≡◌, refl, sym, subst, ap, ap₂, ◌∙◌}
use mathlib.Core.Bool.{Bool, true, false, not}
use mathlib.Core.List.{List, [], ◌∷◌, ◌++◌}
use mathlib.Core.Option.{Option, none, some, map, none-ne-some, some-injective}
use Prim.Native.Nat.{ℕ, suc, ◌+◌, ◌*◌, ◌<◌, ◌≤◌}
use native.Mathlib.Omega.{arith}
use native.Mathlib.Nat.{zero-add}
use lib.ListN.{length, take, drop, get_or, length-append, length-drop, take-append-drop, get_or-append}
use lib.Seq.{length-take-le, take-append_seam, drop-append_seam, get_or-take, get_or-drop}
use Rattle.base.specs.Lists.{all, first_break}
use Rattle.base.proofs.Lists.{and_left, and_right, and_both, between_true, not_both}
use borrow.Author.Tests.{not-true, not-false}
use Rattle.base.proofs.Breaks.{first_break_cons}
use Rattle.laws.specs.Places.{Stands, IsBytes, two_at}
use Rattle.laws.proofs.Places.{stands_left}
use Rattle.laws.proofs.PlacesOfNumbers.{length_le2}
use Rattle.laws.proofs.ReadsFields.{label_length}
use Rattle.laws.proofs.Unique.{described_with}
use Rattle.laws.proofs.Readers.{described_in}
use Rattle.laws.proofs.Numbers.{front_same}
use Rattle.laws.proofs.Converted.{uncounted_widens}
use Rattle.laws.proofs.Earlier.{within_by, within_more}
use Rattle.std.specs.Prelude.{Ok, Err}
use Rattle.rules.specs.declared.ConversionRefusal.{ConversionRefusal}
use Rattle.rules.specs.Trees.{le2}
use Rattle.rules.specs.Editions.{current, uncounted}
use Rattle.rules.specs.Fields.{Field, Description}
use Rattle.rules.specs.References.{readers}
use Rattle.rules.specs.Within.{keeps_form, keeps_size, keeps_operators_in, Within}
use Rattle.rules.specs.Stored.{record_of, kind_in, field_body, head_body, stored_field_in, records_in, records}
use Rattle.rules.specs.Stored.{stored_with, stored_in, stored, GoodIn}
use Rattle.rules.specs.Answers.{accepted, of_conversion}
use Rattle.rules.specs.Promises.{leaves, delivered, ConvertsTable}
use Rattle.writing.specs.Delivery.{delivery_answer}
use Rattle.packets.specs.TableTest.{head_test}
use Rattle.std.specs.Prelude.{Option as Returned, Some, None}
use Rattle.packets.specs.Conversions.{old_most, widen_from, widen_table, WidensTo, NumbersTable, adds_any}
use Rattle.laws.proofs.FieldSizes.{field_sizes, body_size}
use Rattle.packets.proofs.TableSteps.{head_is_lem}
use Rattle.packets.proofs.TableParts.{head_length, HeadOf, head_found, whole_stands, stored_length_lem}
use Rattle.packets.proofs.TableHead.{head_count, fields_stand}
use Rattle.packets.proofs.WidenLaws.{widen_records, widen_back}
use Rattle.packets.proofs.PlainLaws.{is_plain_field, adds_stored}

-- ── an old good table ──

-- the numbers do not matter, as none is kept
pub old_alike : (a b : ℕ → ℕ) (k l : ℕ) (fs : List (Field ℕ))
    → records_in uncounted a k fs ≡ records_in uncounted b l fs
unfolding records_in stored_field_in
old_alike a b k l [] = refl
old_alike a b k l (f ∷ fs) =
    ap (λ (r : List ℕ). record_of (kind_in uncounted f.width) (field_body f) ++ r) (old_alike a b (suc k) (suc l) fs)

old_records : (numbers : ℕ → ℕ) (k : ℕ) (before fs : List (Field ℕ)) → first_break keeps_form before fs ≡ none
    → first_break keeps_size before fs ≡ none → length (records_in uncounted numbers k fs) ≤ 424 * length fs
unfolding records_in stored_field_in
old_records numbers k before [] hf hs = omega arith
old_records numbers k before (f ∷ fs) hf hs =
    let kf = first_break_cons keeps_form before f fs hf in
    let ks = first_break_cons keeps_size before f fs hs in
    let z = body_size f (field_sizes f kf.0 ks.0) in
    let body = field_body f in
    let kind = kind_in uncounted f.width in
    omega (
      arith,
      z,
      length-append (record_of kind body) (records_in uncounted numbers (suc k) fs),
      length-append (le2 (4 + length body)) (le2 kind ++ body),
      length-append (le2 kind) body,
      length_le2 (4 + length body),
      length_le2 kind,
      old_records numbers (suc k) (before ++ (f ∷ [])) fs kf.1 ks.1,
    )

head_size : (d : Description) → length (record_of 1 (head_body d)) ≡ 10 + length d.name
head_size d =
    omega (
      arith,
      length-append (le2 (4 + length (head_body d))) (le2 1 ++ head_body d),
      length-append (le2 1) (head_body d),
      length_le2 (4 + length (head_body d)),
      length_le2 1,
      head_length d,
    )

module _ (table : List ℕ) (old : GoodIn uncounted table) where
  abbrev d : Description
  d = old.description

  abbrev n : ℕ → ℕ
  n = readers d.fields

  abbrev head : List ℕ
  head = record_of 1 (head_body d)

  abbrev behind : List ℕ
  behind = records_in uncounted n 0 d.fields ++ record_of 5 []

  now_within : Within d
  now_within = within_more uncounted current uncounted_widens d old.within

  is : head ++ behind ≡ table
  unfolding stored_in stored_with
  is = old.is_stored

  old_head : HeadOf table d (length head)
  old_head =
      let st = whole_stands table (head ++ behind) is in
      let z = zero-add (length head) in
      let size : length head ≤ length table = omega (arith, ap length is, length-append head behind) in
      let h = stands_left table 0 (length table) head behind st in
      head_found table d (length head) now_within size (subst (λ (e : ℕ). Stands table 0 head e) z h)

  pub old_short : length table ≤ old_most
  old_short =
      let c = between_true 1 (length d.fields) 64 old.within.count in
      omega (
        arith,
        c,
        ap length is,
        length-append head behind,
        length-append (records_in uncounted n 0 d.fields) (record_of 5 []),
        head_size d,
        label_length d.name old.within.name,
        old_records n 0 [] d.fields old.within.form old.within.size,
        length-append (le2 4) (le2 5 ++ []),
        length-append (le2 5) [],
        length_le2 4,
        length_le2 5,
      )

  pub old_test : head_test table ≡ true
  old_test = old_head.test

  pub old_few : two_at table 6 ≤ 64
  old_few =
      let c = between_true 1 (length d.fields) 64 old.within.count in
      omega (arith, c, old_head.count)

  -- with the number 0 in each record it is a table of the same description
  pub old_widens : widen_table table ≡ some (stored_with current (λ i. 0) d)
  unfolding widen_table stored_with
  old_widens =
      let h = old_head in
      let size : two_at table 0 ≡ length head = omega (arith, (head_is_lem table h.test).size, h.next) in
      let back : drop (two_at table 0) table ≡ behind =
      ap₂ {C = List ℕ} (λ (m : ℕ) (l : List ℕ). drop m l) size (sym is) ∙ drop-append_seam head behind in
      let front : take (two_at table 0) table ≡ head =
      ap₂ {C = List ℕ} (λ (m : ℕ) (l : List ℕ). take m l) size (sym is) ∙ take-append_seam head behind in
      rw (
        front,
        back,
        h.count,
        widen_records n 0 [] d.fields (record_of 5 []) old.within.form
            old.within.size,
      ) refl

-- ── a table that was widened ──

two_same : (a l : List ℕ) (n at : ℕ) → at + 2 ≤ n → n ≤ length a → two_at (take n a ++ l) at ≡ two_at a at
unfolding two_at
two_same a l n at le low =
    let size = length-take-le n a low in
    let one : (i : ℕ) → i < n → get_or (take n a ++ l) i 0 ≡ get_or a i 0 = λ i lt.
    get_or-append (take n a) l 0 i (omega (arith, size, lt)) ∙ get_or-take n a i 0 lt in
    ap₂ {C = ℕ} (λ (x y : ℕ). x + 256 * y) (one at (omega arith)) (one (at + 1) (omega arith))

-- operators that are all known are kept
plain_kept : (before fs : List (Field ℕ)) → all is_plain_field fs ≡ true
    → first_break (keeps_operators_in uncounted) before fs ≡ none
unfolding all first_break
plain_kept before [] h = refl
plain_kept before (f ∷ fs) h =
    rw (and_left (is_plain_field f) (all is_plain_field fs) h)
    (plain_kept (before ++ (f ∷ [])) fs (and_right (is_plain_field f) (all is_plain_field fs) h))

kept_plain : (before fs : List (Field ℕ)) → first_break (keeps_operators_in uncounted) before fs ≡ none
    → all is_plain_field fs ≡ true
unfolding all
kept_plain before [] h = refl
kept_plain before (f ∷ fs) h =
    let k = first_break_cons (keeps_operators_in uncounted) before f fs h in
    and_both (is_plain_field f) (all is_plain_field fs) k.0 (kept_plain (before ++ (f ∷ [])) fs k.1)

module _ (table : List ℕ) (b : IsBytes table) (low : length table ≤ old_most) (test : head_test table ≡ true)
    (numbers : ℕ → ℕ) (c : Description) (w : Within c) where
  abbrev size : ℕ
  size = two_at table 0

  abbrev records_of : List ℕ
  records_of = records numbers 0 c.fields ++ record_of 5 []

  -- what was widened to a table of c is the old table of c
  was_old : widen_table table ≡ some (stored_with current numbers c) → stored_with uncounted numbers c ≡ table
  unfolding widen_table stored_with
  was_old e = go (widen_from (two_at table 6) (drop size table)) refl e
    where
      go : (y : Option (List ℕ)) → widen_from (two_at table 6) (drop size table) ≡ y
          → map (λ (l : List ℕ). take size table ++ l) y ≡ some (record_of 1 (head_body c) ++ records_of)
          → record_of 1 (head_body c) ++ (records_in uncounted numbers 0 c.fields ++ record_of 5 []) ≡ table
      go none is h = absurd (none-ne-some _ h)
      go (some v) is h =
          let head = record_of 1 (head_body c) in
          let whole : take size table ++ v ≡ head ++ records_of = some-injective _ _ h in
          let t = head_is_lem table test in
          let st = whole_stands (head ++ records_of) (head ++ records_of) refl in
          let z = zero-add (length head) in
          let hf = head_found (head ++ records_of) c (length head) w
          (omega (arith, length-append head records_of))
          (subst (λ (i : ℕ). Stands (head ++ records_of) 0 head i) z
          (stands_left (head ++ records_of) 0 (length (head ++ records_of)) head records_of st)) in
          let at_zero : two_at (head ++ records_of) 0 ≡ size =
          ap (λ (l : List ℕ). two_at l 0) (sym whole)
          ∙ two_same table v size 0 (omega (arith, t.size)) (omega (arith, t.size, t.end)) in
          let at_six : two_at (head ++ records_of) 6 ≡ two_at table 6 =
          ap (λ (l : List ℕ). two_at l 6) (sym whole)
          ∙ two_same table v size 6 (omega (arith, t.size)) (omega (arith, t.size, t.end)) in
          let first : length head ≡ size =
          omega (arith, at_zero, hf.next, (head_is_lem (head ++ records_of) hf.test).size) in
          let front_size = length-take-le size table (omega (arith, t.size, t.end)) in
          let q = front_same (take size table) head v records_of (front_size ∙ sym first) whole in
          let count : two_at table 6 ≡ length c.fields = sym at_six ∙ hf.count in
          let len = length-drop size table in
          let back = widen_back numbers 0 [] c.fields (drop size table) (record_of 5 [])
          (λ i. rw (get_or-drop size table i 0) (b (size + i))) (omega (arith, len, low)) w.form w.size
          (ap (λ (m : ℕ). widen_from m (drop size table)) (sym count) ∙ is ∙ ap some q.1) in
          sym (sym (take-append-drop size table)
          ∙ ap₂ {C = List ℕ} (λ (x y : List ℕ). x ++ y) q.0 back)

  pub old_good : widen_table table ≡ some (stored_with current numbers c) → two_at table 6 ≤ 64
      → all is_plain_field c.fields ≡ true → GoodIn uncounted table
  unfolding stored_in stored_with
  old_good e few plain =
      let is = was_old e in
      let st = whole_stands table (stored_with uncounted numbers c) is in
      let head = record_of 1 (head_body c) in
      let z = zero-add (length head) in
      let hf = head_found table c (length head) w
      (omega (arith, ap length is, length-append head (records_in uncounted numbers 0 c.fields ++ record_of 5 [])))
      (subst (λ (i : ℕ). Stands table 0 head i) z (stands_left table 0 (length table) head _ st)) in
      record {
        description = c;
        within = within_by current uncounted c w (omega (arith, few, hf.count)) (plain_kept [] c.fields plain);
        is_stored = ap (λ (l : List ℕ). head ++ (l ++ record_of 5 []))
            (old_alike (readers c.fields) numbers 0 0 c.fields) ∙ is;
      }

-- ── the outcome ──

module _ (table out : List ℕ) where
  abbrev Refused : Type 0
  Refused = ConvertsTable table out (leaves (of_conversion (Err ConversionRefusal.NotGood)) out)

  refused_by_lem : (GoodIn uncounted table → ⊥) → Refused
  unfolding of_conversion
  refused_by_lem bad (yes old) = absurd (bad old)
  refused_by_lem bad (no b) = refl

  pub refused_long_lem : old_most < length table → Refused
  refused_long_lem lt = refused_by_lem (λ old. let le = old_short table old in omega (arith, le, lt))

  pub refused_head : head_test table ≡ false → Refused
  refused_head h = refused_by_lem (λ old. not_both (head_test table) (old_test table old) h)

  pub refused_many : 64 < two_at table 6 → Refused
  refused_many lt = refused_by_lem (λ old. let le = old_few table old in omega (arith, le, lt))

  pub refused_widen : widen_table table ≡ none → Refused
  refused_widen e = refused_by_lem (λ old. none-ne-some _ (sym e ∙ old_widens table old))

  -- of a table that was widened, and numbered
  module _ (w : List ℕ) (is : widen_table table ≡ some w) where
    as_old : (old : GoodIn uncounted table) → w ≡ stored_with current (λ i. 0) old.description
    as_old old = some-injective _ _ (sym is ∙ old_widens table old)

    pub refused_shape : (after : List ℕ) → NumbersTable false w after → Refused
    refused_shape after bad =
        refused_by_lem (λ old. bad old.description
        (within_more uncounted current uncounted_widens old.description old.within) (λ i. 0) (sym (as_old old)))

    module _ (after : List ℕ) (right : NumbersTable true w after) where
      abbrev c : Description
      c = right.0

      -- it is that of the old table
      same : (old : GoodIn uncounted table) → c ≡ old.description
      same old =
          sym (described_with current right.2.0 c right.1)
          ∙ ap (described_in current) (right.2.1 ∙ as_old old)
          ∙ described_with current (λ i. 0) old.description
          (within_more uncounted current uncounted_widens old.description old.within)

      -- what is found of its operators
      adds_are : adds_any after ≡ not (all is_plain_field c.fields)
      adds_are =
          let within = right.1 in
          let st = right.3 in
          rw (head_count c after st within)
          (adds_stored (readers c.fields) after c.fields (two_at after 0) (length after) (record_of 5 [])
          within.form within.size (stored_length_lem c within after st) (fields_stand c after st within))

      all_plain : (old : GoodIn uncounted table) → all is_plain_field c.fields ≡ true
      all_plain old =
          rw (same old) (kept_plain [] old.description.fields old.within.operators)

      pub refused_added : adds_any after ≡ true → Refused
      refused_added h =
          refused_by_lem (λ old.
          not_both (all is_plain_field c.fields) (all_plain old)
          (not-true (all is_plain_field c.fields) (sym adds_are ∙ h)))

      pub accepted_old : IsBytes table → length table ≤ old_most → head_test table ≡ true → two_at table 6 ≤ 64
          → adds_any after ≡ false → ConvertsTable table out (delivered after out)
      accepted_old b low test few h (yes old) =
          ap (λ (l : List ℕ). delivered l out) (sym right.3 ∙ ap stored (same old))
      accepted_old b low test few h (no bad) =
          absurd (bad (old_good table b low test right.2.0 c right.1
          (is ∙ ap some (sym right.2.1)) few
          (not-false (all is_plain_field c.fields) (sym adds_are ∙ h))))

-- ── the steps of the code ──

-- the bytes that were widened to
bytes_some : (x : Option (List ℕ)) (r : Returned ℕ) (after : List ℕ) (n : ℕ) → r ≡ Some n → WidensTo x r after
    → (x ≡ some (take n after)) × (n ≤ length after)
bytes_some none (Some m) after n e h = absurd h
bytes_some none None after n e h = let z : ◌≡◌ {A = ℕ} 0 1 = cc in absurd (omega arith)
bytes_some (some w) (Some m) after n e h =
    let k : m ≡ n = cc in
    let t : take n after ≡ w = rw k at h.0 in
    let q = ap length t in
    let l = length_take_most n after in
    (ap some (sym t), omega (arith, q, k, h.1, l))
  where
    length_take_most : (n : ℕ) (l : List ℕ) → length (take n l) ≤ length l
    length_take_most n l = omega (arith, length-append (take n l) (drop n l), ap length (take-append-drop n l))
bytes_some (some w) None after n e h = absurd h

bad_none : (x : Option (List ℕ)) (r : Returned ℕ) (after : List ℕ) → r ≡ None → WidensTo x r after → x ≡ none
bad_none none r after e h = refl
bad_none (some w) (Some n) after e h = let z : ◌≡◌ {A = ℕ} 0 1 = cc in absurd (omega arith)
bad_none (some w) None after e h = absurd h

pub by_bad : (table out scratch : List ℕ) {r : Returned ℕ} → WidensTo (widen_table table) r scratch → r ≡ None
    → ConvertsTable table out (leaves (of_conversion (Err ConversionRefusal.NotGood)) out)
by_bad table out scratch {r} h e = refused_widen table out (bad_none (widen_table table) r scratch e h)

-- the part of the scratch that was written
pub widened_part : (table scratch : List ℕ) (n : ℕ) {r : Returned ℕ} → WidensTo (widen_table table) r scratch
    → r ≡ Some n
    → (widen_table table ≡ some (take n scratch)) × (n ≤ length scratch)
widened_part table scratch n {r} h e = bytes_some (widen_table table) r scratch n e h

module _ (table out w : List ℕ) (is : widen_table table ≡ some w) (after : List ℕ) {x : Bool}
    (numbered_to : NumbersTable x w after) where
  known : (b : Bool) → x ≡ b → NumbersTable b w after
  known b f = subst (λ (c : Bool). NumbersTable c w after) f numbered_to

  pub by_shape : x ≡ false → ConvertsTable table out (leaves (of_conversion (Err ConversionRefusal.NotGood)) out)
  by_shape f = refused_shape table out w is after (known false f)

  module _ (t : x ≡ true) {y : Bool} (added : y ≡ adds_any after) where
    pub by_added : y ≡ true → ConvertsTable table out (leaves (of_conversion (Err ConversionRefusal.NotGood)) out)
    by_added f = refused_added table out w is after (known true t) (sym added ∙ f)

    pub by_all : y ≡ false → IsBytes table → length table ≤ old_most → head_test table ≡ true → two_at table 6 ≤ 64
        → ConvertsTable table out (delivered after out)
    by_all f b low test few = accepted_old table out w is after (known true t) b low test few (sym added ∙ f)

-- what was delivered
pub with_room : (table out after whole : List ℕ) (n : ℕ) {z : Bool} → ConvertsTable table out (delivered whole out)
    → leaves (delivery_answer z whole) after ≡ delivered whole out → z ≡ true → n ≡ length whole
    → ConvertsTable table out (leaves (of_conversion (Ok n)) after)
unfolding of_conversion
with_room table out after whole n p d e k good =
    ap (λ (m : ℕ). leaves (accepted m) after) k ∙ rw e at d ∙ p good

pub without_room : (table out after whole : List ℕ) {z : Bool} → ConvertsTable table out (delivered whole out)
    → leaves (delivery_answer z whole) after ≡ delivered whole out → z ≡ false
    → ConvertsTable table out (leaves (of_conversion (Err ConversionRefusal.NoRoom)) after)
unfolding of_conversion
without_room table out after whole p d e good = rw e at d ∙ p good
