-- Other indexes put into stored records: the records are then those of the fields with other indexes.
use mathlib.Core.Path.{◌≡◌, refl, sym, ap, ap₂, ◌∙◌}
use mathlib.Core.List.{List, [], ◌∷◌, ◌++◌, map, append_assoc}
use mathlib.Core.Option.{Option, none, some}
use Prim.Native.Nat.{ℕ, suc, ◌+◌, ◌-◌, ◌≤◌}
use native.Mathlib.Omega.{arith}
use lib.ListN.{length, drop, length-append}
use lib.Seq.{take-append_seam, drop-append_seam}
use borrow.Author.Tests.{le-ltb, ne_eqb}
use Rattle.base.specs.Lists.{first_break}
use Rattle.base.proofs.Breaks.{first_break_cons}
use Rattle.laws.specs.Places.{Stands, two_at}
use Rattle.laws.proofs.Places.{drop_more}
use Rattle.laws.proofs.PlacesOfNumbers.{length_le2}
use Rattle.laws.proofs.FieldSizes.{length_counted, record_size}
use Rattle.laws.proofs.RenumberedLaws.{mapped_length}
use Rattle.rules.specs.Trees.{Tree, le2}
use Rattle.rules.specs.Fields.{Width, fixed, measured, rest, Field}
use Rattle.rules.specs.Within.{keeps_form, keeps_size}
use Rattle.rules.specs.Edits.{renumbered_tree, renumbered_maybe, renumbered_width, renumbered}
use Rattle.rules.specs.Stored.{
  counted,
  kind_number,
  stored_expression,
  stored_width,
  stored_name,
  stored_maybe,
  field_body,
  stored_field,
  stored_field_in,
  records,
  records_in,
}
use Rattle.references.specs.Renumbered.{renumbered_from, renumbered_bytes}
use Rattle.references.proofs.RenumberLaws.{renumber_stored}
use Rattle.writing.specs.declared.spans.Span.{Span}
use Rattle.packets.specs.Parts.{table_most, span_of, ending, width_at, parts_at}
use Rattle.packets.specs.PartsStand.{WidthStands}
use Rattle.packets.specs.Shifts.{part_shifted, record_shifted, shifted_from}
use Rattle.packets.proofs.FieldBounds.{field_bounds}
use Rattle.packets.proofs.RecordLaws.{Bounds, record_parts}
use Rattle.packets.proofs.PartBytes.{in_length}
use Rattle.packets.proofs.ShiftSteps.{shift_none}

-- ── lengths ──

maybe_length : (g : ℕ → ℕ) (o : Option (Tree ℕ)) → length (stored_maybe (renumbered_maybe g o)) ≡ length
    (stored_maybe o)
maybe_length g none = refl
maybe_length g (some t) = mapped_length g t

measured_length : (u : ℕ) (w : List ℕ) → length (le2 u ++ counted w) ≡ 4 + length w
measured_length u w = omega (arith, length-append (le2 u) (counted w), length_le2 u, length_counted w)

width_length : (g : ℕ → ℕ) (w : Width ℕ) → length (stored_width (renumbered_width g w)) ≡ length (stored_width w)
width_length g (fixed n) = refl
width_length g (measured u t) =
    omega (
      arith,
      measured_length u (stored_expression t),
      measured_length u (stored_expression (renumbered_tree g t)),
      mapped_length g t,
    )
width_length g rest = refl

-- ── one part ──

-- a width's expression, where the width stands at a place
abbrev AtWidth : Span → ℕ → Width ℕ → Type 0
AtWidth p a (fixed n) = p.len ≡ 0
AtWidth p a (measured u t) = (p.at ≡ a + 4) × (p.len ≡ length (stored_expression t))
AtWidth p a rest = p.len ≡ 0

module _ (g : ℕ → ℕ) where
  -- where its bytes stand between others
  some_shifted : (X w Y : List ℕ) (a n : ℕ) → a ≡ length X → n ≡ length w → (length w ≡ 0 → ⊥)
      → part_shifted g (span_of a n) (X ++ (w ++ Y)) ≡ X ++ (renumbered_bytes g w ++ Y)
  unfolding part_shifted
  some_shifted X w Y a n at len z =
      let all_of = X ++ (w ++ Y) in
      let size : length all_of ≡ length X + (length w + length Y) =
      length-append X (w ++ Y) ∙ ap (λ (m : ℕ). length X + m) (length-append w Y) in
      let here : length X ≤ length all_of = omega (arith, size) in
      let fits : length w ≤ length all_of - length X = omega (arith, size) in
      let back : drop (length X + length w) all_of ≡ Y =
      drop_more all_of (length X) w Y (drop-append_seam X (w ++ Y)) in
      rw (
        at,
        len,
        ne_eqb (length w) 0 z,
        le-ltb (length all_of) (length X) here,
        le-ltb (length all_of - length X) (length w) fits,
        take-append_seam X (w ++ Y),
        drop-append_seam X (w ++ Y),
        take-append_seam w Y,
        back,
      ) refl

  span_shifted : (X w Y : List ℕ) (a n : ℕ) → a ≡ length X → n ≡ length w
      → part_shifted g (span_of a n) (X ++ (w ++ Y)) ≡ X ++ (renumbered_bytes g w ++ Y)
  unfolding renumbered_from
  span_shifted X [] Y a n at len = sym (shift_none g (X ++ Y) (span_of a n) len)
  span_shifted X (x ∷ w) Y a n at len = some_shifted X (x ∷ w) Y a n at len (λ e. omega (arith, e))

  part_shifted_lem : (X w Y : List ℕ) (p : Span) → p.at ≡ length X → p.len ≡ length w
      → part_shifted g p (X ++ (w ++ Y)) ≡ X ++ (renumbered_bytes g w ++ Y)
  unfolding part_shifted
  part_shifted_lem X w Y p at len = span_shifted X w Y p.at p.len at len

  -- an expression with its length in front
  maybe_bytes : (o : Option (Tree ℕ)) → renumbered_bytes g (stored_maybe o) ≡ stored_maybe (renumbered_maybe g o)
  unfolding renumbered_from
  maybe_bytes none = refl
  maybe_bytes (some t) = renumber_stored g t

  counted_shifted : (X Y : List ℕ) (o : Option (Tree ℕ)) (p : Span) → p.at ≡ length X + 2
      → p.len ≡ length (stored_maybe o)
      → part_shifted g p (X ++ (counted (stored_maybe o) ++ Y))
      ≡ X ++ (counted (stored_maybe (renumbered_maybe g o)) ++ Y)
  counted_shifted X Y o p at len =
      let w = stored_maybe o in
      let v = stored_maybe (renumbered_maybe g o) in
      let front = le2 (length w) in
      let join : (l : List ℕ) → X ++ ((front ++ l) ++ Y) ≡ (X ++ front) ++ (l ++ Y) =
      λ l. simp append_assoc refl in
      let e : length (X ++ front) ≡ length X + 2 = omega (arith, length-append X front, length_le2 (length w)) in
      ap (part_shifted g p) (join w)
      ∙ part_shifted_lem (X ++ front) w Y p (at ∙ sym e) len
      ∙ ap (λ (l : List ℕ). (X ++ front) ++ (l ++ Y)) (maybe_bytes o)
      ∙ sym (join v)
      ∙ ap (λ (n : ℕ). X ++ ((le2 n ++ v) ++ Y)) (sym (maybe_length g o))

  width_shifted : (X Y : List ℕ) (w : Width ℕ) (p : Span) → AtWidth p (length X) w
      → part_shifted g p (X ++ (stored_width w ++ Y)) ≡ X ++ (stored_width (renumbered_width g w) ++ Y)
  width_shifted X Y (fixed n) p h = sym (shift_none g (X ++ (le2 n ++ Y)) p h)
  width_shifted X Y (measured u t) p h =
      let join : (l : List ℕ) → X ++ ((le2 u ++ l) ++ Y) ≡ (X ++ le2 u) ++ (l ++ Y) =
      λ l. simp append_assoc refl in
      let e : p.at ≡ length (X ++ le2 u) + 2 = omega (arith, h.0, length-append X (le2 u), length_le2 u) in
      ap (part_shifted g p) (join (counted (stored_expression t)))
      ∙ counted_shifted (X ++ le2 u) Y (some t) p e h.1
      ∙ sym (join (counted (stored_expression (renumbered_tree g t))))
  width_shifted X Y rest p h = sym (shift_none g (X ++ Y) p h)

-- ── one record ──

-- what stands before a field's width in its record
abbrev head : ℕ → ℕ → ℕ → Field ℕ → List ℕ
head size kind n f =
    le2 size ++ (le2 kind ++ (le2 n ++ (counted f.label ++ counted (stored_name f.short))))

kind_stays : (g : ℕ → ℕ) (w : Width ℕ) → kind_number (renumbered_width g w) ≡ kind_number w
kind_stays g (fixed n) = refl
kind_stays g (measured u t) = refl
kind_stays g rest = refl

module _ (f : Field ℕ) where
  abbrev width_bytes : List ℕ
  width_bytes = stored_width f.width

  abbrev constraint_bytes : List ℕ
  constraint_bytes = counted (stored_maybe f.constraint)

  abbrev condition_bytes : List ℕ
  condition_bytes = counted (stored_maybe f.condition)

  abbrev head_of : ℕ → List ℕ
  head_of n = head (6 + length (field_body f)) (kind_number f.width) n f

  record_joined : (n : ℕ) → stored_field n f ≡ head_of n ++ (width_bytes ++ (constraint_bytes ++ condition_bytes))
  unfolding stored_field_in field_body
  record_joined n =
      let size : 4 + length (le2 n ++ field_body f) ≡ 6 + length (field_body f) =
      omega (arith, length-append (le2 n) (field_body f), length_le2 n) in
      rw size (simp append_assoc refl)

  record_length : (n : ℕ) → length (stored_field n f)
      ≡ length (head_of n) + (length width_bytes + (length constraint_bytes + length condition_bytes))
  record_length n =
      let c = constraint_bytes in
      let k = condition_bytes in
      ap length (record_joined n)
      ∙ length-append (head_of n) (width_bytes ++ (c ++ k))
      ∙ ap (λ (m : ℕ). length (head_of n) + m)
      (length-append width_bytes (c ++ k) ∙ ap (λ (m : ℕ). length width_bytes + m) (length-append c k))

-- the three expressions of a field, one behind the other
module _ (g : ℕ → ℕ) (X Y : List ℕ) (f : Field ℕ) (tree constraint condition : Span) where
  three_shifted : AtWidth tree (length X) f.width
      → constraint.at ≡ length X + length (width_bytes f) + 2
      → constraint.len ≡ length (stored_maybe f.constraint)
      → condition.at ≡ length X + length (width_bytes f) + length (constraint_bytes f) + 2
      → condition.len ≡ length (stored_maybe f.condition)
      → part_shifted g condition (part_shifted g constraint (part_shifted g tree
      (X ++ (width_bytes f ++ (constraint_bytes f ++ (condition_bytes f ++ Y))))))
      ≡ X ++ (stored_width (renumbered_width g f.width)
      ++ (counted (stored_maybe (renumbered_maybe g f.constraint))
      ++ (counted (stored_maybe (renumbered_maybe g f.condition)) ++ Y)))
  three_shifted w at₁ len₁ at₂ len₂ =
      let c = constraint_bytes f in
      let k = condition_bytes f in
      let w' = stored_width (renumbered_width g f.width) in
      let c' = counted (stored_maybe (renumbered_maybe g f.constraint)) in
      let k' = counted (stored_maybe (renumbered_maybe g f.condition)) in
      let size₁ : length (X ++ w') ≡ length X + length (width_bytes f) =
      length-append X w' ∙ ap (λ (m : ℕ). length X + m) (width_length g f.width) in
      let same : length c' ≡ length c = omega (
        arith,
        length_counted (stored_maybe f.constraint),
        length_counted (stored_maybe (renumbered_maybe g f.constraint)),
        maybe_length g f.constraint,
      ) in
      let e₁ : constraint.at ≡ length (X ++ w') + 2 = omega (arith, at₁, size₁) in
      let e₂ : condition.at ≡ length ((X ++ w') ++ c') + 2 =
      omega (arith, at₂, size₁, same, length-append (X ++ w') c') in
      ap (λ (s : List ℕ). part_shifted g condition (part_shifted g constraint s))
      (width_shifted g X (c ++ (k ++ Y)) f.width tree w ∙ sym (append_assoc X w' (c ++ (k ++ Y))))
      ∙ ap (part_shifted g condition)
      (counted_shifted g (X ++ w') (k ++ Y) f.constraint constraint e₁ len₁
      ∙ sym (append_assoc (X ++ w') c' (k ++ Y)))
      ∙ counted_shifted g ((X ++ w') ++ c') Y f.condition condition e₂ len₂
      ∙ append_assoc (X ++ w') c' (k' ++ Y)
      ∙ append_assoc X w' (c' ++ (k' ++ Y))

-- where a record's width stands, by the place of its constraint
width_place : (s : List ℕ) (at a : ℕ) (w : Width ℕ) → two_at s (at + 2) ≡ kind_number w
    → WidthStands s (parts_at s at).number (parts_at s at).tree w
    → (parts_at s at).constraint.at ≡ a + length (stored_width w) + 2 → AtWidth (parts_at s at).tree a w
unfolding parts_at width_at
width_place s at a (fixed n) k i e = rw k refl
width_place s at a (measured u t) k i e =
    let p = parts_at s at in
    let len : p.tree.len ≡ length (stored_expression t) = in_length s p.tree (stored_expression t) i.1 in
    let next : p.constraint.at ≡ ending p.tree + 2 = rw k refl in
    (omega (arith, len, next, e, measured_length u (stored_expression t)), len)
width_place s at a rest k i e = rw k refl

-- a list that stands behind another
stands_behind : (pre w post : List ℕ) → Stands (pre ++ (w ++ post)) (length pre) w (length pre + length w)
stands_behind pre w post =
    let e = drop-append_seam pre (w ++ post) in
    record {
      text = e ∙ ap (λ (l : List ℕ). w ++ l) (sym (drop_more (pre ++ (w ++ post)) (length pre) w post e));
      end = refl;
    }

-- lengths and head of a field with other indexes
body_stays : (g : ℕ → ℕ) (f : Field ℕ) → length (field_body (renumbered g f)) ≡ length (field_body f)
unfolding field_body renumbered
body_stays g f = simp (
  length-append,
  width_length g f.width,
  maybe_length g f.constraint,
  maybe_length g f.condition,
)

head_stays : (g : ℕ → ℕ) (n : ℕ) (f : Field ℕ) → head_of (renumbered g f) n ≡ head_of f n
unfolding renumbered
head_stays g n f =
    ap₂ {C = List ℕ} (λ (size kind : ℕ). head size kind n f)
    (ap (λ (m : ℕ). 6 + m) (body_stays g f)) (kind_stays g f.width)

-- a record between other bytes, part by part
record_between : (n : ℕ) (f : Field ℕ) (pre post : List ℕ)
    → pre ++ (stored_field n f ++ post)
    ≡ (pre ++ head_of f n) ++ (width_bytes f ++ (constraint_bytes f ++ (condition_bytes f ++ post)))
record_between n f pre post = rw (record_joined f n) (simp append_assoc refl)

-- its three expressions with other indexes
record_shifted_lem : (g : ℕ → ℕ) (n : ℕ) (f : Field ℕ) (pre post : List ℕ) → Bounds f
    → record_shifted g (parts_at (pre ++ (stored_field n f ++ post)) (length pre)) (pre ++ (stored_field n f ++ post))
    ≡ pre ++ (stored_field n (renumbered g f) ++ post)
unfolding parts_at renumbered
record_shifted_lem g n f pre post b =
    let s = pre ++ (stored_field n f ++ post) in
    let here = length pre in
    let p = parts_at s here in
    let f' = renumbered g f in
    let q = record_parts s here (here + length (stored_field n f)) n f b (stands_behind pre (stored_field n f) post) in
    let X = pre ++ head_of f n in
    let size = length-append pre (head_of f n) in
    let sizes = record_length f n in
    let c = in_length s p.constraint (stored_maybe f.constraint) q.0.constraint in
    let k = in_length s p.condition (stored_maybe f.condition) q.0.condition in
    let cs = length_counted (stored_maybe f.constraint) in
    let ks = length_counted (stored_maybe f.condition) in
    let next₁ : p.next ≡ p.condition.at + p.condition.len = refl in
    let next₂ : p.condition.at ≡ p.constraint.at + p.constraint.len + 2 = refl in
    let at₂ : p.condition.at ≡ length X + length (width_bytes f) + length (constraint_bytes f) + 2 =
    omega (arith, next₁, q.1, size, sizes, k, ks) in
    let at₁ : p.constraint.at ≡ length X + length (width_bytes f) + 2 = omega (arith, next₂, at₂, c, cs) in
    let w = width_place s here (length X) f.width q.0.kind q.0.width at₁ in
    ap (record_shifted g p) (record_between n f pre post)
    ∙ three_shifted g X post f p.tree p.constraint p.condition w at₁ c at₂ k
    ∙ ap (λ (h : List ℕ). (pre ++ h) ++ (width_bytes f' ++ (constraint_bytes f' ++ (condition_bytes f' ++ post))))
    (sym (head_stays g n f))
    ∙ sym (record_between n f' pre post)

record_stays : (g : ℕ → ℕ) (n : ℕ) (f : Field ℕ) → length (stored_field n (renumbered g f)) ≡ length (stored_field n f)
record_stays g n f = omega (arith, record_size n f, record_size n (renumbered g f), body_stays g f)

-- ── all records ──

pub renumbered_length : (g : ℕ → ℕ) (numbers : ℕ → ℕ) (k : ℕ) (fs : List (Field ℕ))
    → length (records numbers k (map (renumbered g) fs)) ≡ length (records numbers k fs)
unfolding records_in
renumbered_length g numbers k [] = refl
renumbered_length g numbers k (f ∷ fs) =
    length-append (stored_field (numbers k) (renumbered g f)) (records numbers (suc k) (map (renumbered g) fs))
    ∙ ap₂ {C = ℕ} (λ (a b : ℕ). a + b) (record_stays g (numbers k) f) (renumbered_length g numbers (suc k) fs)
    ∙ sym (length-append (stored_field (numbers k) f) (records numbers (suc k) fs))

pub shifted_stored : (g : ℕ → ℕ) (numbers : ℕ → ℕ) (k : ℕ) (pre : List ℕ) (before fs : List (Field ℕ)) (post : List ℕ)
    → first_break keeps_form before fs ≡ none → first_break keeps_size before fs ≡ none
    → length pre + length (records numbers k fs) ≤ table_most
    → shifted_from g (length fs) (length pre) (pre ++ (records numbers k fs ++ post))
    ≡ pre ++ (records numbers k (map (renumbered g) fs) ++ post)
unfolding shifted_from records_in
shifted_stored g numbers k pre before [] post hf hs le = refl
shifted_stored g numbers k pre before (f ∷ fs) post hf hs le =
    let kf = first_break_cons keeps_form before f fs hf in
    let ks = first_break_cons keeps_size before f fs hs in
    let n = numbers k in
    let b = field_bounds f kf.0 ks.0 in
    let here = stored_field n f in
    let others = records numbers (suc k) fs in
    let here' = stored_field n (renumbered g f) in
    let others' = records numbers (suc k) (map (renumbered g) fs) in
    let s = pre ++ (here ++ (others ++ post)) in
    let start : length pre ≤ table_most = omega (arith, le) in
    let place : (parts_at s (length pre)).next ≡ length (pre ++ here') =
    (record_parts s (length pre) (length pre + length here) n f b (stands_behind pre here (others ++ post))).1
    ∙ ap (λ (m : ℕ). length pre + m) (sym (record_stays g n f))
    ∙ sym (length-append pre here') in
    let after : record_shifted g (parts_at s (length pre)) s ≡ (pre ++ here') ++ (others ++ post) =
    record_shifted_lem g n f pre (others ++ post) b ∙ sym (append_assoc pre here' (others ++ post)) in
    let fits : length (pre ++ here') + length others ≤ table_most =
    omega (arith, le, length-append pre here', record_stays g n f, length-append here others) in
    let ih = shifted_stored g numbers (suc k) (pre ++ here') (before ++ (f ∷ [])) fs post kf.1 ks.1 fits in
    rw (append_assoc here others post, append_assoc here' others' post, le-ltb table_most (length pre) start)
    (ap₂ {C = List ℕ} (shifted_from g (length fs)) place after ∙ ih ∙ append_assoc pre here' (others' ++ post))
