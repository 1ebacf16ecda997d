-- A kept cell held against the parts of a field line.
use mathlib.Core.Path.{◌≡◌, refl, ap, sym, ◌∙◌}
use mathlib.Core.Bool.{Bool, true, false, ◌&&◌, ◌||◌}
use mathlib.Core.List.{List, ◌++◌}
use Prim.Native.Nat.{ℕ, ◌+◌, ◌-◌}
use native.Mathlib.Omega.{arith}
use lib.Dec.{eqb}
use lib.ListN.{length, take, drop, get_or}
use Rattle.base.specs.Lists.{any, same}
use Rattle.rules.specs.Names.{is_label}
use Rattle.rules.specs.Fields.{Width, fixed, measured, rest, Form, field_names}
use Rattle.rules.specs.Frames.{Slot}
use Rattle.rules.specs.Spelling.{is_place_for}
use Rattle.texts.specs.HeldNames.{Names}
use Rattle.texts.specs.PartPlaces.{span_in}
use Rattle.texts.specs.Slots.{stored_slot}
use Rattle.texts.specs.HeldParts.{WidthHeld, LineBytes, PartsHeld}
use Rattle.texts.specs.HeldRecords.{is_named_by, is_placed_by, PartShows}
use Rattle.texts.specs.declared.kinds.Width.{Width as CodeWidth}
use Rattle.texts.specs.declared.line_parts.Parts.{Parts}
use Rattle.texts.proofs.CellNames.{short_is}
use Rattle.texts.proofs.SlotLaws.{slot_length, slot_long, slot_bits, slot_text}

width_is : (names : Names) (n : ℕ) (c : Slot) (v : Width (List ℕ)) (w : CodeWidth) (b : List ℕ)
    → WidthHeld names n v w b → is_placed_by c.long c.bits w ≡ is_place_for c v
width_is names n c (fixed m) w b h = rw h refl
width_is names n c (measured u m) w b h = rw h.1 refl
width_is names n c rest w b h = rw h refl

module _ (cells line : List ℕ) (at end : ℕ) (p : Parts)
    (ends : (c : Slot) (behind : List ℕ) → drop at cells ≡ stored_slot c ++ behind → end ≡ at + length (stored_slot c))
  where
    abbrev pub named : Bool
    named = is_named_by (take (end - (at + 3)) (drop (at + 3) cells)) line p

    same_named : (c : Slot) (behind : List ℕ) (names : Names) (n : ℕ) (x : Form) (v : LineBytes)
        → drop at cells ≡ stored_slot c ++ behind → is_label c.text ≡ true → PartsHeld names n line x v p
        → named ≡ any (same c.text) (field_names x)
    same_named c behind names n x v e h o =
        let m : end - (at + 3) ≡ length c.text = omega (arith, ends c behind e, slot_length c) in
        ap (λ (k : ℕ). is_named_by (take k (drop (at + 3) cells)) line p) m
        ∙ ap (λ (w : List ℕ). is_named_by w line p) (slot_text cells at c behind e)
        ∙ ap (λ (l : List ℕ). same c.text l || same c.text (span_in line p.short)) o.label
        ∙ short_is c.text line x.label p.short h x.short o.short

    pub part_not : (y : Bool) → y ≡ named → y ≡ false → PartShows cells at line p false
    part_not y e z c behind names n x v d h o =
        let q : any (same c.text) (field_names x) ≡ false = sym (same_named c behind names n x v d h o) ∙ sym e ∙ z in
        ap (λ (b : Bool). b && is_place_for c x.width) (sym q)

    pub part_yes : (y r : Bool) → y ≡ named → y ≡ true
        → r ≡ is_placed_by (eqb (get_or cells at 0) 1) (get_or cells (at + 1) 0) p.width → PartShows cells at line p r
    part_yes y r e z f c behind names n x v d h o =
        let q : any (same c.text) (field_names x) ≡ true = sym (same_named c behind names n x v d h o) ∙ sym e ∙ z in
        f
        ∙ ap (λ (b : Bool). is_placed_by b (get_or cells (at + 1) 0) p.width) (slot_long cells at c behind d)
        ∙ ap (λ (k : ℕ). is_placed_by c.long k p.width) (slot_bits cells at c behind d)
        ∙ width_is names n c x.width p.width v.width o.width
        ∙ ap (λ (b : Bool). b && is_place_for c x.width) (sym q)
