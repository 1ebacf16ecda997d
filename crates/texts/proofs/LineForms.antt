-- Facts of one field line: its form by its parts, its names as they are held, room for it.
use Rattle.std.specs.Prelude.{Option as CodeOption, None, Some}
use Rattle.texts.specs.declared.stored_trees.StoredTree.{StoredTree}
use Rattle.texts.specs.HeldRecords.{is_small_maybe}
use Rattle.texts.specs.StoredTrees.{form_length}
use Rattle.std.specs.Prelude.{Option as Held}
use mathlib.Core.Path.{◌≡◌, refl, ap, sym, ◌∙◌, subst}
use mathlib.Core.Bool.{Bool, true, false, cond, ◌&&◌, ◌||◌}
use mathlib.Core.List.{List, []}
use mathlib.Core.Option.{Option, none, some}
use Prim.Native.Nat.{ℕ, suc, ◌+◌, ◌≤◌, ◌<◌}
use native.Mathlib.Omega.{arith}
use lib.Dec.{ltb, leb}
use lib.ListN.{length, take, get_or, set, length-set, length-map}
use lib.Seq.{length-take-le}
use borrow.Author.Tests.{leb-true, leb-false}
use Rattle.base.specs.Lists.{all, any, if_any, head_is}
use Rattle.base.proofs.Lists.{and_left, and_right, or_false_right}
use Rattle.rules.specs.Limits.{fields_most, label_most, short_most, depth_most, stored_most}
use Rattle.rules.specs.Answers.{Answer, refused}
use Rattle.rules.specs.Names.{is_short, is_letter, is_word_byte}
use Rattle.rules.specs.Trees.{is_small}
use Rattle.rules.specs.Fields.{Form, is_rest, trees}
use Rattle.rules.specs.Stored.{stored_name}
use Rattle.names.specs.Repeats.{pad_to}
use Rattle.text_laws.specs.LineReader.{read_form}
use Rattle.text_laws.specs.Lowest.{lower, broken}
use Rattle.text_laws.specs.Judging.{face, faces, rules, is_open}
use Rattle.text_laws.specs.Fold as fold
use Rattle.text_laws.proofs.FormExact.{form_sound}
use Rattle.texts.specs.declared.kinds.Width.{Width as CodeWidth}
use Rattle.texts.specs.declared.kinds.Width.TheVariants.{Fixed, Measured, Rest}
use Rattle.texts.specs.Kinds as kind
use Rattle.texts.specs.Kinds.{tree_of, tree_length}
use Rattle.texts.specs.HeldNames.{Names, Started, HeldAs, Kept}
use Rattle.texts.specs.NameStarts.{start_in}
use Rattle.texts.specs.HeldParts.{LineBytes, PartsHeld}
use Rattle.texts.specs.HeldRecords.{is_small_as, field_size, Writable}
use Rattle.texts.specs.Noted.{place_of, note_of}
use Rattle.texts.specs.States.{Named, NamedWith, later_note, is_many_as, is_full_as, line_refused, line_kept}
use Rattle.texts.specs.HeldAreas.{record_most}
use Rattle.texts.specs.States.{Room, Counts}
use Rattle.texts.specs.declared.notes.Note.{Note}
use Rattle.texts.specs.declared.line_parts.Parts.{Parts}
use Rattle.texts.specs.declared.states.Reading.{Reading}
use Rattle.laws.proofs.ReadsFields.{formed_names}
use Rattle.texts.proofs.HeldClashes.{NamesFormed}
use Rattle.texts.proofs.HeldArrays.{snoc_each, held_more}
use Rattle.texts.proofs.LineRules.{rest_kind_lem, element_in}
use Rattle.texts.proofs.PartRules.{sizes_are}
use Rattle.texts.proofs.PartBytes.{size_sum, width_bound, short_length}
use Rattle.texts.proofs.RowSteps.{label_most_lem}

-- ── its record ──

short_most_lem : (o : Option (List ℕ)) → if_any is_short o ≡ true → length (stored_name o) ≤ short_most
unfolding is_short
short_most_lem none h = omega arith
short_most_lem (some w) h =
    leb-true (length w) short_most
    (and_left (leb (length w) short_most) _ (and_right (all is_word_byte w) _ (and_right (head_is is_letter w) _ h)))

small_most : (t : StoredTree) → is_small_as t ≡ true → t.len ≤ stored_most
small_most t h = leb-true t.len stored_most (and_right (leb t.depth depth_most) (leb t.len stored_most) h)

maybe_most : (r : CodeOption StoredTree) → is_small_maybe r ≡ true → form_length r ≤ stored_most
maybe_most None h = omega arith
maybe_most (Some t) h = small_most t h

width_most : (w : CodeWidth) → is_small_maybe (tree_of w) ≡ true → tree_length w ≤ stored_most
width_most (Fixed m) h = omega arith
width_most (Measured u t) h = small_most t h
width_most Rest h = omega arith

module _ (names : Names) (n : ℕ) (s : List ℕ) (x : Form) (v : LineBytes) (p : Parts)
    (is : PartsHeld names n s x v p) (small : all is_small (trees x) ≡ true) where
  trees_small : (is_small_maybe (tree_of p.width) && (is_small_maybe p.constraint
      && is_small_maybe p.condition)) ≡ true
  trees_small = sizes_are p _ refl names n s x v is ∙ small

  pub parts_writable : Writable (length s) p
  parts_writable =
      let a = is_small_maybe (tree_of p.width) in
      let b = is_small_maybe p.constraint in
      let c = is_small_maybe p.condition in
      let bc = and_right a (b && c) trees_small in
      record {
        label = is.label_fits;
        short = is.short_fits;
        width = width_most p.width (and_left a (b && c) trees_small);
        constraint = maybe_most p.constraint (and_left b c bc);
        condition = maybe_most p.condition (and_right b c bc);
      }

  pub field_most : NamesFormed x → field_size p ≤ record_most
  field_most formed =
      let w = parts_writable in
      omega (
        arith,
        size_sum p,
        width_bound p.width w.width,
        w.constraint,
        w.condition,
        length-take-le p.label s is.label_fits,
        ap length is.label,
        held_short_length,
        label_most_lem x.label formed.0,
        short_most_lem x.short formed.1,
      )
    where
      held_short_length : length (stored_name x.short) ≡ p.short.len
      held_short_length = short_length names n s x v p is is.short_fits

-- ── its names ──

module _ (s : List ℕ) (x : Form) (p : Parts) {names : Names} {n : ℕ} {v : LineBytes}
    (is : PartsHeld names n s x v p) where
  pub named_with : (f : fold.Found) (r : Reading) → Counts f r → r.fields < fields_most → n ≡ r.fields
      → {labels labels' : List (List ℕ)} → Named (faces f.judged.fields) labels names
      → labels' ≡ set labels r.fields (pad_to label_most (take p.label s)) → NamedWith f x labels' names
  named_with f r c lt at {labels} {labels'} h a =
      let before = faces f.judged.fields in
      let m : r.fields ≡ length before = c.fields ∙ sym (length-map f.judged.fields face) in
      let v = pad_to label_most (take p.label s) in
      let l = length-set labels r.fields v in
      let room = h.room.1 in
      let own = is.own (
        omega (arith, at, lt, room.0),
        omega (arith, at, lt, room.1),
        omega (arith, at, lt, room.2),
      ) in
      record {
        label = rw (a ∙ ap (λ (k : ℕ). set labels k v) m) (held_more before x (λ y. pad_to label_most y.label) labels
            (omega (arith, m, lt, h.room.0)) h.label v (ap (pad_to label_most) is.label));
        name = snoc_each (λ i y. HeldAs names i y) before x h.name
            (subst (λ (k : ℕ). HeldAs names k x) (at ∙ m) own);
        room = ((let z = ap length a in omega (arith, z, l, h.room.0)), room);
      }

started_kept : {names names' : Names} {n : ℕ} → Kept names n names' → (i : ℕ) → i < n → Started names i
    → Started names' i
started_kept {names} {names'} k i lt h = (
  λ some.
      let v = get_or names.shorts i [] in
      let p = h.0 (subst (λ (u : List ℕ). get_or u 0 0 ≡ 0 → ⊥) (k.shorts i lt) some) in
      let q = (k.starts v).0 in
      rw (k.shorts i lt) (let z : start_in names'.starts v ≤ i = omega (arith, p, q) in z),
  λ some.
      let v = get_or names.words i [] in
      let p = h.1 (subst (λ (u : List ℕ). get_or u 0 0 ≡ 0 → ⊥) (k.words i lt) some) in
      let q = (k.starts v).0 in
      rw (k.words i lt) (let z : start_in names'.starts v ≤ i = omega (arith, p, q) in z),
)

-- the names of a line that is not kept leave those of the fields as they were
pub named_kept : (l : List Form) (n : ℕ) {labels : List (List ℕ)} {names names' : Names} → length l ≡ n
    → Kept names n names' → Named l labels names → Named l labels names'
named_kept l n e k h = record {
  label = h.label;
  name = λ i y z.
      let lt : i < n = (let q = element_in l i y z in omega (arith, q, e)) in
      let g = h.name i y z in
      record {
        short = k.shorts i lt ∙ g.short;
        word = k.words i lt ∙ g.word;
        mark = k.marks i lt ∙ g.mark;
        starts = started_kept k i lt g.starts;
      };
  room = (h.room.0, k.room fields_most h.room.1);
}

-- ── 6 ──

module _ (f : fold.Found) (x : Form) where
  pub six_kept : all is_small (trees x) ≡ true
      → broken 6 (suc f.lines) (rules f.cells) (faces f.judged.fields) x ≡ later_note f x
  unfolding broken
  six_kept h = rw h refl

  pub six_broken : all is_small (trees x) ≡ false
      → broken 6 (suc f.lines) (rules f.cells) (faces f.judged.fields) x ≡ some (refused 6 (suc f.lines))
  unfolding broken
  six_broken h = rw h refl

module _ (f : fold.Found) (r : Reading) (x : Form) (c : Counts f r) where
  -- the refusal of a line that keeps 6
  pub form_note : all is_small (trees x) ≡ true → {o : Option Answer} → o ≡ later_note f x
      → lower (note_of r.note) o
      ≡ lower f.judged.lowest (broken 6 (suc f.lines) (rules f.cells) (faces f.judged.fields) x)
  form_note small e = rw (c.lowest, e, six_kept f x small) refl

  -- and of one that does not
  pub large_note : all is_small (trees x) ≡ false
      → lower (note_of r.note) (some (refused 6 (r.lines + 1)))
      ≡ lower f.judged.lowest (broken 6 (suc f.lines) (rules f.cells) (faces f.judged.fields) x)
  large_note large =
      let n : r.lines + 1 ≡ suc f.lines = (let q = c.lines in omega (arith, q)) in
      rw (c.lowest, n, six_broken f x large) refl

  -- the rest field is this one, or was listed before
  pub rests_here : {names : Names} {n : ℕ} {s : List ℕ} {v : LineBytes} (p : Parts)
      → PartsHeld names n s x v p
      → (r.rested || kind.is_rest p.width) ≡ (any is_rest (faces f.judged.fields) || is_rest x)
  rests_here {names} {n} {s} {v} p is =
      rw (c.rested, rest_kind_lem names n x.width p.width v.width is.width) refl

pub line_formed : (l : List ℕ) (x : Form) → read_form l ≡ some x → NamesFormed x
line_formed l x e = formed_names x (form_sound l x e).formed

-- behind it nothing is kept
pub shut_six : (a : Option Answer) (p : ℕ) → is_open (lower a (some (refused 6 p))) ≡ false
shut_six none p = refl
shut_six (some a) p = go (ltb 6 a.number) refl
  where
    go : (b : Bool) → ltb 6 a.number ≡ b → is_open (cond b (some (refused 6 p)) (some a)) ≡ false
    go true e = refl
    go false e = e

-- ── room ──

pub full_room : (r : Reading) → is_full_as r ≡ false → r.count < fields_most
full_room r e = leb-false fields_most r.count (or_false_right (is_many_as r.note) (leb fields_most r.count) e)

pub room_refused : (r : Reading) (a : Held Note) → Room r → r.count < fields_most
    → place_of a ≤ r.lines + 1 → Room (line_refused r a)
room_refused r a h lt p = record {
  width = h.width;
  name = h.name;
  row = h.row;
  front = h.front;
  cells = h.cells;
  slots = h.slots;
  cell = h.cell;
  count = omega (arith, lt);
  fields = (let q = h.fields in omega (arith, q));
  end = h.end;
  placed = omega (arith, p);
}

pub room_kept : (r : Reading) (cell end : ℕ) (rested : Bool) (a : Held Note) → Room r → r.count < fields_most
    → cell ≤ r.slots → r.end ≤ end → end ≤ r.end + record_most → place_of a ≤ r.lines + 1
    → Room (line_kept r cell end rested a)
room_kept r cell end rested a h lt le up most p = record {
  width = h.width;
  name = h.name;
  row = h.row;
  front = (let q = h.front in omega (arith, q, up));
  cells = h.cells;
  slots = h.slots;
  cell = le;
  count = omega (arith, lt);
  fields = (let q = h.fields in omega (arith, q));
  end = (let q = h.end in omega (arith, q, most));
  placed = omega (arith, p);
}
