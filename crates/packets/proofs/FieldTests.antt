-- The tests of a record hold where it stores a field that keeps its rules, and only there.
use mathlib.Core.Path.{◌≡◌, refl, sym, ◌∙◌}
use mathlib.Core.Bool.{true}
use mathlib.Core.List.{List, ◌++◌}
use mathlib.Core.Option.{Option, none, some}
use Prim.Native.Nat.{ℕ, ◌+◌, ◌≤◌}
use native.Mathlib.Omega.{arith}
use lib.Dec.{leb, eqb}
use lib.ListN.{length}
use borrow.Author.Tests.{leb-true, le-leb, eqb-true, eq-eqb}
use Rattle.base.specs.Lists.{all, between, if_any, list_of}
use Rattle.laws.specs.Places.{Stands, IsBytes, two_at}
use Rattle.base.proofs.Lists.{and_left, and_right, and_both}
use Rattle.base.proofs.Lists as lists
use Rattle.base.proofs.Breaks as breaks
use Rattle.rules.specs.declared.ValueType.TheVariants.{YesNo}
use Rattle.rules.specs.Names.{is_label, is_short}
use Rattle.rules.specs.Trees.{Tree, is_small, is_in_range, has_type}
use Rattle.rules.specs.Fields.{Width, Field, width_trees, trees}
use Rattle.rules.specs.Within.{is_width, is_formed, width_has_type}
use Rattle.rules.specs.Stored.{stored_field, stored_name, stored_maybe}
use Rattle.laws.proofs.ReadsFields.{formed_parts}
use Rattle.writing.specs.declared.spans.Span.{Span}
use Rattle.packets.specs.declared.records.Parts.{Parts}
use Rattle.packets.specs.StoredTrees.{marked}
use Rattle.packets.specs.Parts.{parts_at}
use Rattle.packets.specs.PartsStand.{In, PartsStand}
use Rattle.packets.specs.FieldTest.{
  bytes_in,
  Inside,
  maybe_test,
  width_test,
  trees_test,
  bounds_test,
  short_test,
  form_test,
}
use Rattle.packets.proofs.FieldBounds.{field_bounds}
use Rattle.packets.proofs.RecordLaws.{record_parts, record_build}
use Rattle.packets.proofs.FieldSteps.{parts_inside}
use Rattle.packets.proofs.PartBytes.{bytes_stand, bytes_are, MaybeIn, maybe_sound, maybe_complete, maybe_stands}
use Rattle.packets.proofs.FieldParts.{short_sound, short_complete, WidthIn, width_sound, width_complete}

-- what the tests of a record's form and trees say of its field: marks are of what may be read before it, and with it
pub record Keeps (marks own : List ℕ) (f : Field ℕ) : Type 0 where
  pub formed : is_formed f ≡ true
  pub small : all is_small (trees f) ≡ true
  pub width : width_has_type (marked marks) f.width ≡ true
  pub constraint : if_any (has_type (marked own) YesNo) f.constraint ≡ true
  pub condition : if_any (has_type (marked marks) YesNo) f.condition ≡ true

-- ── trees that may be missing ──

module _ (s marks : List ℕ) (p : Span) where
  maybe_typed : (o : Option (Tree ℕ)) → MaybeIn s marks p o → if_any (has_type (marked marks) YesNo) o ≡ true
  maybe_typed none h = refl
  maybe_typed (some t) h = h.typed

  maybe_range : (o : Option (Tree ℕ)) → MaybeIn s marks p o → all is_in_range (list_of o) ≡ true
  unfolding all
  maybe_range none h = refl
  maybe_range (some t) h = and_both (is_in_range t) true h.range refl

  maybe_small : (o : Option (Tree ℕ)) → MaybeIn s marks p o → all is_small (list_of o) ≡ true
  unfolding all
  maybe_small none h = refl
  maybe_small (some t) h = and_both (is_small t) true h.small refl

  maybe_in : (o : Option (Tree ℕ)) → if_any (has_type (marked marks) YesNo) o ≡ true
      → all is_in_range (list_of o) ≡ true
      → all is_small (list_of o) ≡ true → In s p (stored_maybe o) → MaybeIn s marks p o
  maybe_in none a b c d = d
  maybe_in (some t) a b c d = record {
    typed = a;
    range = breaks.all_one is_in_range t b;
    small = breaks.all_one is_small t c;
    stands = d;
  }

-- ── a field ──

module _ (s marks own : List ℕ) (p : Parts) where
  field_of : (label : is_label (bytes_in s p.label) ≡ true) (inside : Inside s p)
      → (short : (o : Option (List ℕ)) × (if_any is_short o ≡ true) × In s p.short (stored_name o))
      → (width : (w : Width ℕ) × WidthIn s marks p w)
      → (constraint : (o : Option (Tree ℕ)) × MaybeIn s own p.constraint o)
      → (condition : (o : Option (Tree ℕ)) × MaybeIn s marks p.condition o)
      → (f : Field ℕ) × PartsStand s p f × Keeps marks own f
  field_of label inside (n, ns, nt) (w, wi) (a, ai) (b, bi) =
      let f : Field ℕ = record {
        label = bytes_in s p.label;
        short = n;
        width = w;
        constraint = a;
        condition = b;
      } in
      let range = lists.all_append is_in_range (width_trees w) (list_of a ++ list_of b) wi.range
      (lists.all_append is_in_range (list_of a) (list_of b) (maybe_range s own p.constraint a ai)
      (maybe_range s marks p.condition b bi)) in (
        f,
        record {
          kind = wi.kind;
          label = bytes_stand s p.label inside.label;
          short = nt;
          width = wi.stands;
          constraint = maybe_stands s own p.constraint a ai;
          condition = maybe_stands s marks p.condition b bi;
        },
        record {
          formed = and_both (is_label (bytes_in s p.label)) _ label
              (and_both (if_any is_short n) _ ns (and_both (is_width w) _ wi.formed range));
          small = lists.all_append is_small (width_trees w) (list_of a ++ list_of b) wi.small
              (lists.all_append is_small (list_of a) (list_of b) (maybe_small s own p.constraint a ai)
              (maybe_small s marks p.condition b bi));
          width = wi.typed;
          constraint = maybe_typed s own p.constraint a ai;
          condition = maybe_typed s marks p.condition b bi;
        },
      )

  pub field_sound : IsBytes s → Inside s p → between 12 p.kind 14 ≡ true → form_test s p ≡ true
      → trees_test s marks own p ≡ true → (f : Field ℕ) × PartsStand s p f × Keeps marks own f
  unfolding form_test trees_test
  field_sound b inside k form tree =
      let r = and_right (is_label (bytes_in s p.label)) _ form in
      let m = and_right (width_test s marks p) _ tree in
      field_of (and_left (is_label (bytes_in s p.label)) _ form) inside
      (short_sound s p.short inside.short (and_left (short_test s p.short) _ r))
      (width_sound s marks p b k (and_right (short_test s p.short) _ r) (and_left (width_test s marks p) _ tree))
      (maybe_sound s own p.constraint b (and_left (maybe_test s own p.constraint) _ m))
      (maybe_sound s marks p.condition b (and_right (maybe_test s own p.constraint) _ m))

  pub field_complete : (f : Field ℕ) → PartsStand s p f → Keeps marks own f
      → (form_test s p ≡ true) × (trees_test s marks own p ≡ true) × (between 12 p.kind 14 ≡ true)
  unfolding form_test trees_test
  field_complete f st h =
      let c = list_of f.constraint in
      let d = list_of f.condition in
      let e = formed_parts f h.formed in
      let range = breaks.all_append is_in_range (width_trees f.width) (c ++ d) e.3 in
      let ranges = breaks.all_append is_in_range c d range.1 in
      let size = breaks.all_append is_small (width_trees f.width) (c ++ d) h.small in
      let sizes = breaks.all_append is_small c d size.1 in
      let w = width_complete s marks p f.width (record {
        kind = st.kind;
        stands = st.width;
        formed = e.2;
        range = range.0;
        small = size.0;
        typed = h.width;
      }) in
      let l : is_label (bytes_in s p.label) ≡ true = rw (bytes_are s p.label f.label st.label) e.0 in (
        and_both (is_label (bytes_in s p.label)) _ l
            (and_both (short_test s p.short) _ (short_complete s p.short f.short e.1 st.short) w.0),
        and_both (width_test s marks p) _ w.1
            (and_both (maybe_test s own p.constraint) _
            (maybe_complete s own p.constraint f.constraint
            (maybe_in s own p.constraint f.constraint h.constraint ranges.0 sizes.0 st.constraint))
            (maybe_complete s marks p.condition f.condition
            (maybe_in s marks p.condition f.condition h.condition ranges.1 sizes.1 st.condition))),
        w.2,
      )

-- ── a record ──

module _ (s marks own : List ℕ) (at : ℕ) where
  pub record_sound : IsBytes s → bounds_test s at (parts_at s at) ≡ true → form_test s (parts_at s at) ≡ true
      → trees_test s marks own (parts_at s at) ≡ true
      → (f : Field ℕ) × PartsStand s (parts_at s at) f × Keeps marks own f
      × Stands s at (stored_field (two_at s (at + 4)) f) (parts_at s at).next
  unfolding bounds_test
  record_sound b h form tree =
      let p = parts_at s at in
      let le = leb-true _ _ (and_left (leb p.next (length s)) _ h) in
      let r = and_right (leb p.next (length s)) _ h in
      let e = eqb-true _ _ (and_left (eqb (at + two_at s at) p.next) _ r) in
      let k = and_right (eqb (at + two_at s at) p.next) _ r in
      let q = field_sound s marks own p b (parts_inside s at le) k form tree in
      (q.0, q.1, q.2, record_build s at q.0 b le e q.1)

  pub record_complete : (n : ℕ) (f : Field ℕ) (next : ℕ) → Keeps marks own f → Stands s at (stored_field n f) next
      → next ≤ length s
      → (bounds_test s at (parts_at s at) ≡ true) × (form_test s (parts_at s at) ≡ true)
      × (trees_test s marks own (parts_at s at) ≡ true) × PartsStand s (parts_at s at) f × ((parts_at s at).next ≡ next)
  unfolding bounds_test
  record_complete n f next h st le =
      let p = parts_at s at in
      let q = record_parts s at next n f (field_bounds f h.formed h.small) st in
      let r = field_complete s marks own p f q.0 h in
      let m : p.next ≤ length s = omega (arith, q.1, le) in
      let e : at + two_at s at ≡ p.next = q.2 ∙ sym q.1 in (
        and_both (leb p.next (length s)) _ (le-leb _ _ m)
            (and_both (eqb (at + two_at s at) p.next) _ (eq-eqb _ _ e) r.2),
        r.0,
        r.1,
        q.0,
        q.1,
      )
