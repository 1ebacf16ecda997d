-- The parts that the lengths of a record give are those of the field that is stored there, and the other way round.
use mathlib.Core.Path.{◌≡◌}
use mathlib.Core.List.{List}
use Prim.Native.Nat.{ℕ, ◌+◌, ◌<◌, ◌≤◌}
use native.Mathlib.Omega.{arith}
use lib.ListN.{length}
use Rattle.laws.specs.Places.{Stands, IsBytes, two_at}
use Rattle.laws.proofs.Places.{stands_none, stands_join, stands_left, stands_right}
use Rattle.laws.proofs.PlacesOfNumbers.{length_le2, stands_two, two_stands}
use Rattle.rules.specs.Trees.{le2}
use Rattle.rules.specs.Fields.{Width, fixed, measured, rest}
use Rattle.rules.specs.Stored.{
  counted,
  kind_number,
  stored_expression,
  stored_width,
}
use Rattle.packets.specs.Parts.{ending, span_at, width_at}
use Rattle.packets.specs.PartsStand.{In, WidthStands}

-- ── a length and the bytes behind it ──

module _ (s : List ℕ) (a b : ℕ) (l : List ℕ) where
  pub counted_length : length l < 65536 → Stands s a (counted l) b → two_at s a ≡ length l
  counted_length h p = stands_two s a (a + length (le2 (length l))) (length l) (stands_left s a b (le2
      (length l)) l p) h

  pub counted_in : length l < 65536 → Stands s a (counted l) b → In s (span_at s a) l × (ending (span_at s a) ≡ b)
  counted_in h p =
      let e = counted_length h p in
      let q = stands_right s a b (le2 (length l)) l p in
      let n : a + length (le2 (length l)) ≡ a + 2 = rw (length_le2 (length l)) in
      let q' : Stands s (a + 2) l b = rw n at q in
      let m : ending (span_at s a) ≡ b = omega (arith, e, q'.end) in
      (rw m q', m)

  pub counted_build : IsBytes s → a + 2 ≤ length s → ending (span_at s a) ≡ b → In s (span_at s a) l → Stands s a
      (counted l) b
  counted_build h le m p =
      let e : two_at s a ≡ length l = omega (arith, p.end) in
      stands_join s a (a + 2) b (le2 (length l)) l (rw e at (two_stands s a h le)) (rw m at p)

-- ── a width ──

-- what two bytes hold, and lengths, are below 65536
abbrev pub WidthBounds : Width ℕ → Type 0
WidthBounds (fixed n) = n < 65536
WidthBounds (measured u t) = (u < 65536) × (length (stored_expression t) < 65536)
WidthBounds rest = Unit {0}

module _ (s : List ℕ) (a b : ℕ) where
  pub width_in : (w : Width ℕ) → WidthBounds w → Stands s a (stored_width w) b
      → WidthStands s (width_at s (kind_number w) a).number (width_at s (kind_number w) a).tree w
      × ((width_at s (kind_number w) a).next ≡ b)
  unfolding width_at
  width_in (fixed n) h p = (stands_two s a b n p h, omega (arith, p.end, length_le2 n))
  width_in (measured u t) h p =
      let l = stands_left s a b (le2 u) (counted (stored_expression t)) p in
      let r = stands_right s a b (le2 u) (counted (stored_expression t)) p in
      let n : a + length (le2 u) ≡ a + 2 = rw (length_le2 u) in
      let r' : Stands s (a + 2) (counted (stored_expression t)) b = rw n at r in
      let q = counted_in s (a + 2) b (stored_expression t) h.1 r' in
      ((stands_two s a (a + length (le2 u)) u l h.0, q.0), q.1)
  width_in rest h p = (tt, omega (arith, p.end))

  pub width_build : (w : Width ℕ) → IsBytes s → b ≤ length s
      → WidthStands s (width_at s (kind_number w) a).number (width_at s (kind_number w) a).tree w
      → (width_at s (kind_number w) a).next ≡ b → Stands s a (stored_width w) b
  unfolding width_at
  width_build (fixed n) h le p e = rw (p, e) at (two_stands s a h (omega arith))
  width_build (measured u t) h le p e =
      stands_join s a (a + 2) b (le2 u) (counted (stored_expression t))
      (rw p.0 at (two_stands s a h (omega arith)))
      (counted_build s (a + 2) b (stored_expression t) h (omega arith) e p.1)
  width_build rest h le p e = rw e (stands_none s b)
