-- The bytes that the code writes of a field line are its record.
use mathlib.Core.Path.{◌≡◌, refl, ap, ap₂, sym, ◌∙◌}
use mathlib.Core.Bool.{true}
use mathlib.Core.List.{List, [], ◌++◌, append_assoc}
use mathlib.Core.Option.{Option, none, some, map}
use Prim.Native.Nat.{ℕ, ◌+◌, ◌-◌, ◌≤◌}
use native.Mathlib.Omega.{arith}
use native.Mathlib.Nat.{sub-zero}
use lib.ListN.{length, take, length-append}
use lib.Seq.{length-take-le}
use borrow.Author.Tests.{lt-ltb}
use Rattle.std.specs.Prelude.{Option as CodeOption}
use Rattle.writing.specs.Writes.{Writes}
use Rattle.writing.proofs.Writing.{writes_join}
use Rattle.rules.specs.Limits.{text_most, stored_most}
use Rattle.rules.specs.Trees.{Tree, le2, stored_tree}
use Rattle.rules.specs.Fields.{Width, fixed, measured, rest, Form}
use Rattle.rules.specs.Stored.{stored_field_in, counted, kind_number, stored_width, stored_name, stored_maybe}
use Rattle.rules.specs.Stored.{field_body}
use Rattle.text_laws.specs.Resolving.{rename_tree, rename_width}
use Rattle.writing.specs.Puts.{placed, put}
use Rattle.texts.specs.declared.stored_trees.StoredTree.{StoredTree}
use Rattle.texts.specs.HeldNames.{Names}
use Rattle.texts.specs.Kinds.{kind_code, tree_length}
use Rattle.texts.specs.Resolved.{indexed}
use Rattle.texts.specs.StoredTrees.{look_up, form_length, TreeBytes, held, StoredIs}
use Rattle.texts.specs.HeldParts.{MaybeHeld, WidthHeld, LineBytes, PartsHeld}
use Rattle.texts.specs.HeldRecords.{tree_bytes, width_bytes, width_size, name_bytes}
use Rattle.texts.specs.HeldRecords.{body_bytes, field_size, field_bytes, Writable, BytesRoom}
use Rattle.texts.specs.HeldAreas.{record_most}
use Rattle.texts.specs.States.{plain_field, is_short_record}
use Rattle.texts.specs.declared.kinds.Width.{Width as CodeWidth}
use Rattle.texts.specs.declared.kinds.Width.TheVariants.{Fixed, Measured, Rest}
use Rattle.texts.specs.declared.line_parts.Parts.{Parts}
use Rattle.texts.proofs.TreeTypes.{part_of, part_span, part_length}
use Rattle.texts.proofs.PartSteps.{short_text_lem}
use Rattle.texts.proofs.RecordSizes.{stored_renamed, stored_length_lem, two_length, counted_length}
use Rattle.texts.proofs.RecordLaws.{two_writes, counted_writes, two_end, counted_end}

-- ── the bytes are those of the record ──

-- the stored form is not too long, and there is room for it
pub held_bytes : (names : Names) (n : ℕ) (v : Tree (List ℕ)) (t : TreeBytes) → StoredIs names n v t
    → t.len ≤ length t.bytes → take t.len t.bytes ≡ stored_tree (λ i. i) (rename_tree (look_up names n) v)
held_bytes names n v t h le =
    h.bytes (omega (arith, h.len, le)) ∙ sym (stored_renamed (look_up names n) v)

maybe_bytes : (names : Names) (n : ℕ) (o : Option (Tree (List ℕ))) (r : CodeOption StoredTree) (b : List ℕ)
    → MaybeHeld names n o r b → form_length r ≤ length b
    → tree_bytes (form_length r) b ≡ counted (stored_maybe (map (rename_tree (look_up names n)) o))
maybe_bytes names n none r b h le = rw h refl
maybe_bytes names n (some v) r b h le =
    rw h.1 (ap counted (held_bytes names n v (held h.0 b) h.2 (omega (arith, ap form_length h.1, le))))

width_bytes_lem : (names : Names) (n : ℕ) (v : Width (List ℕ)) (w : CodeWidth) (b : List ℕ)
    → WidthHeld names n v w b → tree_length w ≤ length b
    → width_bytes b w ≡ stored_width (rename_width (look_up names n) v)
width_bytes_lem names n (fixed m) w b h le = rw h refl
width_bytes_lem names n (measured u v) w b h le =
    rw h.1 (ap (λ (l : List ℕ). le2 u ++ counted l)
    (held_bytes names n v (held h.0 b) h.2 (omega (arith, ap tree_length h.1, le))))
width_bytes_lem names n rest w b h le = rw h refl

width_kind : (names : Names) (n : ℕ) (v : Width (List ℕ)) (w : CodeWidth) (b : List ℕ)
    → WidthHeld names n v w b → kind_code w ≡ kind_number (rename_width (look_up names n) v)
width_kind names n (fixed m) w b h = rw h refl
width_kind names n (measured u v) w b h = rw h.1 refl
width_kind names n rest w b h = rw h refl

-- ── what is written, part by part ──

pub size_sum : (p : Parts)
    → field_size p ≡ 14 + p.label + p.short.len + width_size p.width + form_length p.constraint + form_length
    p.condition
unfolding field_size
size_sum p = refl

pub writable_text : (p : Parts) {m : ℕ} → Writable m p → m ≤ text_most → Writable text_most p
writable_text p w le = record {
  label = omega (arith, w.label, le);
  short = omega (arith, w.short, le);
  width = w.width;
  constraint = w.constraint;
  condition = w.condition;
}

pub width_bound : (w : CodeWidth) → tree_length w ≤ stored_most → width_size w ≤ 4 + stored_most
width_bound (Fixed m) le = omega arith
width_bound (Measured u t) le = omega (arith, le)
width_bound Rest le = omega arith

pub tree_put : (len : ℕ) (b : List ℕ) {before after : List ℕ} {at next : ℕ} → len ≤ length b
    → at + (2 + len) ≤ length before → placed next after ≡ put before at (counted (take (len - 0) b))
    → (next ≡ at + (2 + len)) × Writes before at (tree_bytes len b) after next
tree_put len b {before} {after} {at} {next} le room e =
    let l = length-take-le len b le in
    let q : placed next after ≡ put before at (tree_bytes len b) = rw (sub-zero len) at e in
    let w = counted_writes (take len b) (omega (arith, l, room)) q in
    (omega (arith, w.end, counted_length (take len b), l), w)

module _ (w : CodeWidth) (b before : List ℕ) (at : ℕ) (room : at + width_size w ≤ length before) where
  pub width_fixed : (m : ℕ) {after : List ℕ} {next : ℕ} → w ≡ Fixed m → placed next after ≡ put before at (le2 m)
      → (next ≡ at + width_size w) × Writes before at (width_bytes b w) after next
  width_fixed m k e =
      let v = two_writes m (omega (arith, ap width_size k, room)) e in
      rw k (two_end m v, v)

  module _ (u : ℕ) (t : StoredTree) (k : w ≡ Measured u t) {mid : List ℕ} {next : ℕ}
      (e : placed next mid ≡ put before at (le2 u)) where
    unit_put : Writes before at (le2 u) mid next
    unit_put = two_writes u (omega (arith, ap width_size k, room)) e

    pub width_two : next + (2 + t.len) ≤ length mid
    width_two = omega (arith, ap width_size k, two_end u unit_put, unit_put.kept, room)

    pub width_measured : {after : List ℕ} {end : ℕ} → end ≡ next + (2 + t.len)
        → Writes mid next (tree_bytes t.len b) after end
        → (end ≡ at + width_size w) × Writes before at (width_bytes b w) after end
    width_measured q v = rw k (omega (arith, two_end u unit_put, q), writes_join unit_put v)

pub names_put : (line : List ℕ) (p : Parts) {before mid after : List ℕ} {at next end : ℕ}
    → Writable (length line) p → at + (4 + p.label + p.short.len) ≤ length before
    → placed next mid ≡ put before at (counted (take (p.label - 0) line))
    → placed end after ≡ put mid next (counted (part_of line p.short))
    → (end ≡ at + (4 + p.label + p.short.len)) × Writes before at (name_bytes line p) after end
names_put line p {before} {mid} {after} {at} {next} {end} h room e f =
    let a = length-take-le p.label line h.label in
    let b = part_length line p.short h.short in
    let q : placed next mid ≡ put before at (counted (take p.label line)) = rw (sub-zero p.label) at e in
    let w = counted_writes (take p.label line) (omega (arith, a, room)) q in
    let m = counted_end (take p.label line) w in
    let v = counted_writes (part_of line p.short) (omega (arith, a, b, room, m, w.kept)) f in
    let k = counted_end (part_of line p.short) v in (
      omega (arith, m, k, a, b),
      writes_join w (rw (part_span line p.short) at v),
    )

-- ── the record of the form ──

some_length : (names : Names) (n : ℕ) (v : Tree (List ℕ)) (t : TreeBytes) → StoredIs names n v t
    → length (stored_tree (λ i. i) (rename_tree (look_up names n) v)) ≡ t.len
some_length names n v t h =
    ap length (stored_renamed (look_up names n) v) ∙ stored_length_lem (look_up names n) v ∙ sym h.len

maybe_length : (names : Names) (n : ℕ) (o : Option (Tree (List ℕ))) (r : CodeOption StoredTree) (b : List ℕ)
    → MaybeHeld names n o r b
    → length (counted (stored_maybe (map (rename_tree (look_up names n)) o))) ≡ 2 + form_length r
maybe_length names n none r b h = omega (arith, ap form_length h, counted_length [])
maybe_length names n (some v) r b h =
    omega (
      arith,
      ap form_length h.1,
      counted_length (stored_tree (λ i. i) (rename_tree (look_up names n) v)),
      some_length names n v (held h.0 b) h.2,
    )

width_length : (names : Names) (n : ℕ) (v : Width (List ℕ)) (w : CodeWidth) (b : List ℕ)
    → WidthHeld names n v w b → length (stored_width (rename_width (look_up names n) v)) ≡ width_size w
width_length names n (fixed m) w b h = rw h (two_length m)
width_length names n (measured u v) w b h =
    let t = stored_tree (λ i. i) (rename_tree (look_up names n) v) in
    omega (
      arith,
      ap width_size h.1,
      length-append (le2 u) (counted t),
      two_length u,
      counted_length t,
      some_length names n v (held h.0 b) h.2,
    )
width_length names n rest w b h = rw h refl

pub short_length : (names : Names) (n : ℕ) (line : List ℕ) (x : Form) (v : LineBytes) (p : Parts)
    → PartsHeld names n line x v p → p.short.at + p.short.len ≤ length line
    → length (stored_name x.short) ≡ p.short.len
short_length names n line x v p h le =
    ap length (sym (short_text_lem line x.short p.short h.short) ∙ sym (part_span line p.short))
    ∙ part_length line p.short le

module _ (names : Names) (n : ℕ) (line : List ℕ) (x : Form) (v : LineBytes) (p : Parts)
    (h : PartsHeld names n line x v p) (w : Writable (length line) p) (room : BytesRoom v) where
  parts_are : body_bytes line v p ≡ (counted x.label ++ counted (stored_name x.short))
      ++ (stored_width (rename_width (look_up names n) x.width)
      ++ (counted (stored_maybe (indexed names n x).constraint)
      ++ counted (stored_maybe (indexed names n x).condition)))
  parts_are =
      rw (
        h.label,
        short_text_lem line x.short p.short h.short,
        width_bytes_lem names n x.width p.width v.width h.width (omega (arith, w.width, room.width)),
        maybe_bytes names (n + 1) x.constraint p.constraint v.constraint h.constraint
            (omega (arith, w.constraint, room.constraint)),
        maybe_bytes names n x.condition p.condition v.condition h.condition
            (omega (arith, w.condition, room.condition)),
      )
      refl

  body_is : body_bytes line v p ≡ field_body (indexed names n x)
  unfolding field_body
  body_is =
      parts_are ∙ append_assoc (counted x.label) (counted (stored_name x.short))
      (stored_width (rename_width (look_up names n) x.width)
      ++ (counted (stored_maybe (indexed names n x).constraint)
      ++ counted (stored_maybe (indexed names n x).condition)))

  size_is : field_size p ≡ 6 + length (field_body (indexed names n x))
  unfolding field_body
  size_is =
      let a = counted x.label in
      let b = counted (stored_name x.short) in
      let u = stored_width (rename_width (look_up names n) x.width) in
      let c = counted (stored_maybe (indexed names n x).constraint) in
      let d = counted (stored_maybe (indexed names n x).condition) in
      omega (
        arith,
        size_sum p,
        length-append a (b ++ (u ++ (c ++ d))),
        length-append b (u ++ (c ++ d)),
        length-append u (c ++ d),
        length-append c d,
        counted_length x.label,
        ap length (sym h.label),
        length-take-le p.label line w.label,
        counted_length (stored_name x.short),
        short_length names n line x v p h w.short,
        width_length names n x.width p.width v.width h.width,
        maybe_length names (n + 1) x.constraint p.constraint v.constraint h.constraint,
        maybe_length names n x.condition p.condition v.condition h.condition,
      )

  pub record_bytes : field_bytes line v p ≡ plain_field (indexed names n x)
  unfolding stored_field_in
  record_bytes =
      let kind = width_kind names n x.width p.width v.width h.width in
      let body = field_body (indexed names n x) in
      let size : field_size p ≡ 4 + length (le2 0 ++ body) =
      omega (arith, size_is, length-append (le2 0) body, two_length 0) in
      ap₂ (λ (m : ℕ) (l : List ℕ). le2 m ++ l) size
      (ap₂ (λ (k : ℕ) (l : List ℕ). le2 k ++ (le2 0 ++ l)) kind body_is)

  pub record_short : field_size p ≤ record_most → is_short_record (indexed names n x) ≡ true
  record_short le =
      let body = field_body (indexed names n x) in
      lt-ltb (6 + length body) 65536 (omega (arith, size_is, le))
