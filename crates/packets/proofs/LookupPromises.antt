-- From the walk over records to the promises on a table's fields: how many, by name and by index.
use mathlib.Core.Path.{◌≡◌, refl}
use mathlib.Core.Bool.{true, false≢true}
use mathlib.Core.List.{List, [], ◌∷◌}
use mathlib.Core.Option.{Option, none, some}
use Prim.Native.Nat.{ℕ, zero, suc, ◌+◌, ◌<◌, ◌≤◌}
use native.Mathlib.Omega.{arith}
use lib.ListN.{length, get_elem?}
use native.Mathlib.Nat.{zero-add}
use borrow.Author.Tests.{lt-ltb, le-ltb, eq-eqb, ne_eqb}
use Rattle.base.specs.Lists.{if_any}
use Rattle.laws.specs.Places.{two_at}
use Rattle.laws.proofs.Places.{stands_some}
use Rattle.laws.proofs.Counting.{readers_fit}
use Rattle.std.specs.Prelude.{Ok, Err}
use Rattle.rules.specs.declared.TableRefusal.{TableRefusal}
use Rattle.rules.specs.declared.FieldRefusal.{FieldRefusal}
use Rattle.rules.specs.Names.{is_short}
use Rattle.rules.specs.Fields.{Field}
use Rattle.rules.specs.References.{readers}
use Rattle.rules.specs.Stored.{record_of, stored_name, Good}
use Rattle.rules.specs.Answers.{of_table, of_field}
use Rattle.rules.specs.Reading.{Part, no_part}
use Rattle.rules.specs.Promises.{FindsField, CountsFields, TellsKind, CountsReaders}
use Rattle.rules.specs.Promises.{label_of, label_by, short_part, short_by}
use Rattle.writing.specs.declared.spans.Span.{Span}
use Rattle.std.specs.Prelude.{Result, Ok, Err, MatchResult}
use Rattle.packets.specs.declared.records.Parts.{Parts}
use Rattle.packets.specs.Parts.{table_most, span_of, ending, parts_at}
use Rattle.packets.specs.PartsStand.{In}
use Rattle.packets.specs.Lookups.{place_from, find_from}
use Rattle.packets.specs.Found.{Finds, span_in, label_in, filled_span, short_in, kind_in, readers_in}
use Rattle.packets.specs.Found.{OnBytes, OnLabel, OnShort}
use Rattle.packets.proofs.TableHead.{head_first, head_count, fields_stand}
use Rattle.packets.proofs.TableParts.{stored_length_lem}
use Rattle.packets.proofs.LinesStored.{label_inside}
use Rattle.packets.proofs.LookupStored.{find_stored, Placed, place_stored}

-- ── the index of a name ──

module _ (table name : List ℕ) where
  pub index_bad : (Good table → ⊥) → FindsField table name (of_field (Err FieldRefusal.NotGood))
  unfolding of_field
  index_bad bad (yes g) = absurd (bad g)
  index_bad bad (no b) = refl

  pub index_found : Good table → FindsField table name
      (of_field (find_from table name 0 (two_at table 6) (two_at table 0)))
  index_found g (no b) = absurd (b g)
  index_found g (yes k) =
      let d = k.description in
      let w = k.within in
      let l : length table ≤ table_most = stored_length_lem d w table k.is_stored in
      rw (head_count d table k.is_stored w)
      (find_stored (readers d.fields) table (length table) (record_of 5 []) l 0 name d.fields [] 0 (two_at table 0)
      w.form w.size
      (fields_stand d table k.is_stored w))

-- ── the number of fields ──

module _ (table : List ℕ) where
  pub count_bad : (e : TableRefusal) → (Good table → ⊥) → CountsFields table (of_table (Err e))
  unfolding of_table
  count_bad TableRefusal.NotGood bad (yes k) = absurd (bad k)
  count_bad TableRefusal.NotGood bad (no b) = refl

  pub count_told : Good table → CountsFields table (of_table (Ok (two_at table 6)))
  unfolding of_table
  count_told g (yes k) = rw (head_count k.description table k.is_stored k.within)
  count_told g (no b) = absurd (b g)

-- ── the field of an index ──

beyond : (fs : List (Field ℕ)) (k : ℕ) → length fs ≤ k → get_elem? fs k ≡ none
beyond [] zero h = refl
beyond [] (suc k) h = refl
beyond (f ∷ fs) zero h = absurd (omega arith)
beyond (f ∷ fs) (suc k) h = beyond fs k (omega arith)

-- a short name's part, behind the label
short_span : (s : List ℕ) (p : Span) (label : Part) (o : Option (List ℕ)) → if_any is_short o ≡ true
    → In s p (stored_name o) → p.at ≡ label.start + label.size + 2
    → (ending (filled_span p) ≤ length s)
    × (filled_span p ≡ span_of (short_part label o).start (short_part label o).size)
unfolding filled_span is_short
short_span s p label none h i a = rw (eq-eqb p.len 0 (omega (arith, i.end))) (omega arith, refl)
short_span s p label (some []) h i a = absurd (false≢true h)
short_span s p label (some (x ∷ w)) h i a =
    let n : p.len ≡ length (x ∷ w) = omega (arith, i.end) in
    let inside = stands_some s p.at (ending p) x w i in
    let z : p.len ≡ 0 → ⊥ = λ e. omega arith in
    rw (ne_eqb p.len 0 z) (inside, λ j. record { at = a j; len = n j })

module _ (table bytes : List ℕ) (part : Dec (Good table) → Part) where
  -- the empty part
  pub none_on : ((good : Dec (Good table)) → part good ≡ no_part) → OnBytes table bytes part (span_of 0 0)
  none_on h = record { is = λ good. rw (h good); within = omega arith }

-- what the code makes of a part of what is found
pub span_told : (span : Parts → Span) (r : Result Parts FieldRefusal) (u : Span)
    → MatchResult r (λ p. u ≡ span p) (λ _. u ≡ span_of 0 0) → u ≡ span_in span r
span_told span (Ok p) u h = h
span_told span (Err e) u h = h

module _ (table : List ℕ) (i : ℕ) where
  abbrev here : ℕ
  here = place_from table i (two_at table 0)

  outside : (k : Good table) → two_at table 6 ≤ i → get_elem? k.description.fields i ≡ none
  outside k h =
      let c = head_count k.description table k.is_stored k.within in
      beyond k.description.fields i (omega (arith, c))

  -- the number of references to each field
  abbrev numbers : Good table → ℕ → ℕ
  numbers k = readers k.description.fields

  pub placed : (k : Good table) → i < two_at table 6 → Placed (numbers k) table (length table) (record_of 5 [])
      (stored_length_lem k.description k.within table k.is_stored) 0 k.description.fields i
      (two_at table 0)
  placed k h =
      let d = k.description in
      let w = k.within in
      place_stored (numbers k) table (length table) (record_of 5 []) _ 0 d.fields [] i (two_at table 0) w.form
      w.size
      (fields_stand d table k.is_stored w) (omega (arith, head_count d table k.is_stored w))

  -- a part of the record, where each decision has it or none
  span_on : (part : Dec (Good table) → Part) (span : Parts → Span) → ((b : Good table → ⊥) → part (no b) ≡ no_part)
      → ((k : Good table) → two_at table 6 ≤ i → part (yes k) ≡ no_part)
      → ((k : Good table) → i < two_at table 6 → (ending (span (parts_at table here)) ≤ length table)
      × (span (parts_at table here) ≡ span_of (part (yes k)).start (part (yes k)).size))
      → (r : Result Parts FieldRefusal) → Finds table i r → OnBytes table table part (span_in span r)
  span_on part span bad out found (Err FieldRefusal.NotGood) h = none_on table table part go
    where
      go : (good : Dec (Good table)) → part good ≡ no_part
      go (yes k) = absurd (h k)
      go (no b) = bad b
  span_on part span bad out found (Err FieldRefusal.Unknown) h = none_on table table part go
    where
      go : (good : Dec (Good table)) → part good ≡ no_part
      go (yes k) = out k h.1
      go (no b) = bad b
  span_on part span bad out found (Ok p) h =
      rw h.2 (record { is = go; within = (found h.0 h.1).0 })
    where
      go : (good : Dec (Good table)) → span (parts_at table here) ≡ span_of (part good).start (part good).size
      go (yes k) = (found k h.1).1
      go (no b) = absurd (b h.0)

  -- ── kind ──

  pub kind_told : (r : Result Parts FieldRefusal) → Finds table i r → TellsKind table i (of_field (kind_in r))
  unfolding of_field
  kind_told (Err FieldRefusal.NotGood) bad (yes k) = absurd (bad k)
  kind_told (Err FieldRefusal.NotGood) bad (no b) = refl
  kind_told (Err FieldRefusal.Unknown) h (yes k) = rw (outside k h.1)
  kind_told (Err FieldRefusal.Unknown) h (no b) = absurd (b h.0)
  kind_told (Ok p) h (yes k) =
      let q = placed k h.1 in rw (q.element, h.2, q.parts_are.kind)
  kind_told (Ok p) h (no b) = absurd (b h.0)

  -- ── readers ──

  pub readers_told : (r : Result Parts FieldRefusal) → Finds table i r → CountsReaders table i (of_field (readers_in r))
  unfolding of_field parts_at
  readers_told (Err FieldRefusal.NotGood) bad (yes k) = absurd (bad k)
  readers_told (Err FieldRefusal.NotGood) bad (no b) = refl
  readers_told (Err FieldRefusal.Unknown) h (yes k) =
      let c = head_count k.description table k.is_stored k.within in
      rw (le-ltb i (length k.description.fields) (omega (arith, c, h.1))) refl
  readers_told (Err FieldRefusal.Unknown) h (no b) = absurd (b h.0)
  readers_told (Ok p) h (yes k) =
      let d = k.description in
      let c = head_count d table k.is_stored k.within in
      let q = (placed k h.1).number_is in
      let fit = readers_fit d k.within i in
      let z : 0 + i ≡ i = zero-add i in
      let n : two_at table (here + 4) ≡ readers d.fields i = omega (arith, rw z at q, fit) in
      rw (lt-ltb i (length d.fields) (omega (arith, c, h.1)), h.2, n) refl
  readers_told (Ok p) h (no b) = absurd (b h.0)

  -- ── label ──

  label_facts : (k : Good table) (h : i < two_at table 6)
      → ((parts_at table here).label.at ≡ (label_of k.description i (some (placed k h).field)).start)
      × ((parts_at table here).label.len ≡ length (placed k h).field.label)
  unfolding parts_at
  label_facts k h =
      let q = placed k h in
      let first = head_first k.description table k.is_stored k.within in
      (omega (arith, q.place_is, first), omega (arith, q.parts_are.label.end))

  label_found : (k : Good table) → i < two_at table 6
      → (ending (parts_at table here).label ≤ length table)
      × ((parts_at table here).label ≡ span_of (label_by (yes k) i).start (label_by (yes k) i).size)
  unfolding label_by
  label_found k h =
      let q = placed k h in
      let e = label_facts k h in (
        label_inside table _ _ q.field.label q.label_is q.parts_are.label,
        rw (q.element, label_by) (λ j. record { at = e.0 j; len = e.1 j }),
      )

  pub label_on : (r : Result Parts FieldRefusal) → Finds table i r → OnLabel table i (label_in r)
  unfolding label_by
  label_on = span_on _ (λ p. p.label) (λ b. refl) (λ k h. rw (outside k h)) label_found

  -- ── short name ──

  short_found : (k : Good table) → i < two_at table 6
      → (ending (filled_span (parts_at table here).short) ≤ length table)
      × (filled_span (parts_at table here).short ≡ span_of (short_by (yes k) i).start (short_by (yes k) i).size)
  unfolding short_by parts_at
  short_found k h =
      let q = placed k h in
      let e = label_facts k h in
      let label = label_of k.description i (some q.field) in
      let a : (parts_at table here).short.at ≡ label.start + label.size + 2 = omega (arith, e.0, e.1) in
      rw (q.element, short_by)
      (short_span table (parts_at table here).short label q.field.short q.short_is q.parts_are.short a)

  pub short_on : (r : Result Parts FieldRefusal) → Finds table i r → OnShort table i (short_in r)
  unfolding short_by
  short_on = span_on _ (λ p. filled_span p.short) (λ b. refl) (λ k h. rw (outside k h)) short_found
