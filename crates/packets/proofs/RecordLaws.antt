-- A field's whole record: its parts stand where its lengths say, and parts that stand so make up the record.
use mathlib.Core.Path.{◌≡◌, refl, sym, ◌∙◌, ap}
use mathlib.Core.List.{List, ◌++◌}
use Prim.Native.Nat.{ℕ, ◌+◌, ◌%◌, ◌<◌, ◌≤◌}
use native.Mathlib.Omega.{arith}
use lib.ListN.{length, length-append}
use Rattle.laws.specs.Places.{Stands, IsBytes, two_at}
use Rattle.laws.proofs.Places.{stands_join, stands_left, stands_right}
use Rattle.laws.proofs.PlacesOfNumbers.{length_le2, stands_two, two_stands}
use Rattle.laws.proofs.Numbers.{le2_mod}
use Rattle.rules.specs.Trees.{le2}
use Rattle.rules.specs.Fields.{Width, fixed, measured, rest, Field}
use Rattle.rules.specs.Stored.{
  counted,
  kind_number,
  stored_width,
  stored_name,
  stored_maybe,
  field_body,
  stored_field,
  stored_field_in,
}
use Rattle.packets.specs.Parts.{ending, span_at, width_at, parts_at}
use Rattle.packets.specs.PartsStand.{In, WidthStands, PartsStand}
use Rattle.packets.proofs.PartsLaws.{counted_in, counted_build, WidthBounds, width_in, width_build}

-- the lengths that are stored in two bytes
pub record Bounds (f : Field ℕ) : Type 0 where
  pub label : length f.label < 65536
  pub short : length (stored_name f.short) < 65536
  pub width : WidthBounds f.width
  pub constraint : length (stored_maybe f.constraint) < 65536
  pub condition : length (stored_maybe f.condition) < 65536
  pub body : 6 + length (field_body f) < 65536

kind_small : (w : Width ℕ) → kind_number w < 65536
kind_small (fixed n) = omega arith
kind_small (measured u t) = omega arith
kind_small rest = omega arith

-- a number in two bytes in front
module _ (s : List ℕ) (a b n : ℕ) (l : List ℕ) where
  pub two_front : n < 65536 → Stands s a (le2 n ++ l) b → (two_at s a ≡ n) × Stands s (a + 2) l b
  two_front h p =
      let e : a + length (le2 n) ≡ a + 2 = rw (length_le2 n) in (
        stands_two s a (a + length (le2 n)) n (stands_left s a b (le2 n) l p) h,
        rw e at (stands_right s a b
            (le2 n) l p),
      )

  pub front_two : IsBytes s → a + 2 ≤ length s → two_at s a ≡ n → Stands s (a + 2) l b → Stands s a (le2 n ++ l) b
  front_two h le e p = stands_join s a (a + 2) b (le2 n) l (rw e at (two_stands s a h le)) p

  -- of a number of any size its remainder
  pub remainder_front : Stands s a (le2 n ++ l) b → (two_at s a ≡ n % 65536) × Stands s (a + 2) l b
  unfolding le2
  remainder_front p =
      let q = stands_left s a b (le2 n) l p in
      let e : a + length (le2 n) ≡ a + 2 = rw (length_le2 n) in (
        stands_two s a (a + length (le2 n)) (n % 65536) (rw (← le2_mod n) at q) (omega arith),
        rw e at (stands_right s a b (le2 n) l p),
      )

-- a counted list in front
module _ (s : List ℕ) (a b : ℕ) (l r : List ℕ) where
  counted_front : length l < 65536 → Stands s a (counted l ++ r) b
      → In s (span_at s a) l × Stands s (ending (span_at s a)) r b
  counted_front h p =
      let q = counted_in s a (a + length (counted l)) l h (stands_left s a b (counted l) r p) in
      (q.0, rw (sym q.1) at (stands_right s a b (counted l) r p))

  front_counted : IsBytes s → a + 2 ≤ length s → In s (span_at s a) l → Stands s (ending (span_at s a)) r b
      → Stands s a (counted l ++ r) b
  front_counted h le p q =
      stands_join s a (ending (span_at s a)) b (counted l) r (counted_build s a (ending (span_at s a)) l h le refl p) q

-- a width in front
module _ (s : List ℕ) (a b : ℕ) (w : Width ℕ) (r : List ℕ) where
  width_front : WidthBounds w → Stands s a (stored_width w ++ r) b
      → WidthStands s (width_at s (kind_number w) a).number (width_at s (kind_number w) a).tree w
      × Stands s (width_at s (kind_number w) a).next r b
  width_front h p =
      let q = width_in s a (a + length (stored_width w)) w h (stands_left s a b (stored_width w) r p) in
      (q.0, rw (sym q.1) at (stands_right s a b (stored_width w) r p))

  front_width : IsBytes s → (width_at s (kind_number w) a).next ≤ length s
      → WidthStands s (width_at s (kind_number w) a).number (width_at s (kind_number w) a).tree w
      → Stands s (width_at s (kind_number w) a).next r b → Stands s a (stored_width w ++ r) b
  front_width h le p q =
      stands_join s a (width_at s (kind_number w) a).next b (stored_width w) r (width_build s a _ w h le p refl) q

-- what stands at a place that may be written in another way
pub moved : (s : List ℕ) (a m b : ℕ) (l : List ℕ) → a ≡ m → Stands s a l b → Stands s m l b
moved s a m b l e p = rw e at p

pub record_parts : (s : List ℕ) (at next n : ℕ) (f : Field ℕ) → Bounds f → Stands s at (stored_field n f) next
    → PartsStand s (parts_at s at) f × ((parts_at s at).next ≡ next) × (at + two_at s at ≡ next)
    × (two_at s (at + 4) ≡ n % 65536)
unfolding stored_field_in field_body parts_at
record_parts s at next number f b p =
    let k = kind_number f.width in
    let size : length (le2 number ++ field_body f) ≡ 2 + length (field_body f) =
    length-append (le2 number) (field_body f) ∙ ap (λ (m : ℕ). m + length (field_body f)) (length_le2 number) in
    let q₀ = two_front s at next _ _ (omega (arith, size, b.body)) p in
    let q₁ = two_front s (at + 2) next k _ (kind_small f.width) q₀.1 in
    let r₀ = moved s (at + 2 + 2) (at + 4) next _ (omega arith) q₁.1 in
    let m₁ = remainder_front s (at + 4) next number _ r₀ in
    let r₁ = moved s (at + 4 + 2) (at + 6) next _ (omega arith) m₁.1 in
    let l = span_at s (at + 6) in
    let q₂ = counted_front s (at + 6) next _ _ b.label r₁ in
    let n = span_at s (ending l) in
    let q₃ = counted_front s (ending l) next _ _ b.short q₂.1 in
    let w = width_at s k (ending n) in
    let q₄ = width_front s (ending n) next f.width _ b.width q₃.1 in
    let c = span_at s w.next in
    let q₅ = counted_front s w.next next _ _ b.constraint q₄.1 in
    let q₆ = counted_in s (ending c) next _ b.condition q₅.1 in
    rw q₁.0 (
      record {
        kind = refl;
        label = q₂.0;
        short = q₃.0;
        width = q₄.0;
        constraint = q₅.0;
        condition = q₆.0;
      },
      q₆.1,
      omega (arith, q₀.0, p.end),
      m₁.0,
    )

-- the place behind a width is not before it
width_next : (s : List ℕ) (a : ℕ) (w : Width ℕ) → a ≤ (width_at s (kind_number w) a).next
unfolding width_at
width_next s a (fixed n) = omega arith
width_next s a (measured u t) = omega arith
width_next s a rest = omega arith

pub record_build : (s : List ℕ) (at : ℕ) (f : Field ℕ) → IsBytes s → (parts_at s at).next ≤ length s
    → at + two_at s at ≡ (parts_at s at).next → PartsStand s (parts_at s at) f
    → Stands s at (stored_field (two_at s (at + 4)) f) (parts_at s at).next
unfolding stored_field_in field_body parts_at
record_build s at f h le e p =
    let k = kind_number f.width in
    let m = two_at s (at + 4) in
    let ek : two_at s (at + 2) ≡ k = p.kind in
    let l = span_at s (at + 6) in
    let n = span_at s (ending l) in
    let w = width_at s k (ending n) in
    let c = span_at s w.next in
    let next = ending (span_at s (ending c)) in
    let le' : next ≤ length s = rw ek at le in
    let e' : at + two_at s at ≡ next = rw ek at e in
    let ge = width_next s (ending n) f.width in
    let pw : WidthStands s w.number w.tree f.width = rw ek at p.width in
    let pc : In s c (stored_maybe f.constraint) = rw ek at p.constraint in
    let pd : In s (span_at s (ending c)) (stored_maybe f.condition) = rw ek at p.condition in
    let q₆ = counted_build s (ending c) next (stored_maybe f.condition) h (omega arith) refl pd in
    let q₅ = front_counted s w.next next (stored_maybe f.constraint) _ h (omega arith) pc q₆ in
    let q₄ = front_width s (ending n) next f.width _ h (omega arith) pw q₅ in
    let q₃ = front_counted s (ending l) next (stored_name f.short) _ h (omega arith) p.short q₄ in
    let q₂ = front_counted s (at + 6) next f.label _ h (omega arith) p.label q₃ in
    let r₂ = front_two s (at + 4) next m _ h (omega arith) refl (moved s (at + 6) (at + 4 + 2) next _
    (omega arith) q₂) in
    let q₁ = front_two s (at + 2) next k _ h (omega arith) ek (moved s (at + 4) (at + 2 + 2) next _
    (omega arith) r₂) in
    let size : two_at s at ≡ 4 + length (le2 m ++ field_body f) = omega (
      arith,
      q₁.end,
      length-append (le2 k) (le2 m ++ field_body f),
      length_le2 k,
    ) in
    rw ek (front_two s at next (4 + length (le2 m ++ field_body f)) _ h (omega arith) size q₁)
