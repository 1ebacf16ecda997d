-- Numbers that stand in two bytes and in four.
use mathlib.Core.Path.{◌≡◌, refl}
use mathlib.Core.List.{List, [], ◌∷◌}
use Prim.Native.Nat.{ℕ, ◌+◌, ◌*◌, ◌/◌, ◌%◌, ◌<◌, ◌≤◌}
use native.Mathlib.Omega.{arith}
use lib.ListN.{length, get_or}
use Rattle.laws.specs.Places.{Stands, IsBytes, two_at, four_at}
use Rattle.laws.proofs.Places.{stands_none, stands_byte, stands_rest, stands_next, stands_front}
use Rattle.rules.specs.Limits.{number_most}
use Rattle.rules.specs.Trees.{le2, le4}

pub length_le2 : (n : ℕ) → length (le2 n) ≡ 2
unfolding le2
length_le2 n = refl

pub length_le4 : (n : ℕ) → length (le4 n) ≡ 4
unfolding le4
length_le4 n = refl

-- ── bytes and the number that they stand for ──

two_digits : (n : ℕ) → n < 65536 → n % 256 + 256 * (n / 256 % 256) ≡ n
two_digits n h =
    let q : n / 256 < 256 = omega arith in
    omega arith

pub le2_of : (a b : ℕ) → a < 256 → b < 256 → le2 (a + 256 * b) ≡ a ∷ b ∷ []
unfolding le2
le2_of a b ha hb =
    let n = a + 256 * b in
    let e₀ : n % 256 ≡ a = omega arith in
    let q₁ : n / 256 ≡ b = omega arith in
    let e₁ : n / 256 % 256 ≡ b = rw q₁ (omega arith) in
    λ i. e₀ i ∷ e₁ i ∷ []

four_digits : (n : ℕ) → n ≤ number_most
    → n % 256 + 256 * (n / 256 % 256) + 65536 * (n / 256 / 256 % 256 + 256 * (n / 256 / 256 / 256 % 256)) ≡ n
four_digits n h =
    let a = n / 256 in
    let b = a / 256 in
    let c = b / 256 in
    let ha : a < 16777216 = omega arith in
    let hb : b < 65536 = omega arith in
    let hc : c < 256 = omega arith in
    let vc : c % 256 ≡ c = omega arith in
    let vb : b % 256 + 256 * (c % 256) ≡ b = rw vc (omega arith) in
    rw vb (omega arith)

pub le4_of : (a b c d : ℕ) → a < 256 → b < 256 → c < 256 → d < 256
    → le4 (a + 256 * b + 65536 * (c + 256 * d)) ≡ a ∷ b ∷ c ∷ d ∷ []
unfolding le4
le4_of a b c d ha hb hc hd =
    let n = a + 256 * b + 65536 * (c + 256 * d) in
    let e₀ : n % 256 ≡ a = omega arith in
    let q₁ : n / 256 ≡ b + 256 * c + 65536 * d = omega arith in
    let q₂ : n / 256 / 256 ≡ c + 256 * d = rw q₁ (omega arith) in
    let q₃ : n / 256 / 256 / 256 ≡ d = rw q₂ (omega arith) in
    let e₁ : n / 256 % 256 ≡ b = rw q₁ (omega arith) in
    let e₂ : n / 256 / 256 % 256 ≡ c = rw q₂ (omega arith) in
    let e₃ : n / 256 / 256 / 256 % 256 ≡ d = rw q₃ (omega arith) in
    λ i. e₀ i ∷ e₁ i ∷ e₂ i ∷ e₃ i ∷ []

-- ── where a number stands ──

pub stands_two : (s : List ℕ) (a b n : ℕ) → Stands s a (le2 n) b → n < 65536 → two_at s a ≡ n
unfolding two_at le2
stands_two s a b n p h =
    let e = stands_byte s a b _ _ p in
    let f = stands_byte s (a + 1) b _ _ (stands_rest s a b _ _ p) in
    rw (e, f) (two_digits n h)

pub two_stands : (s : List ℕ) (a : ℕ) → IsBytes s → a + 2 ≤ length s → Stands s a (le2 (two_at s a)) (a + 2)
unfolding two_at
two_stands s a h le =
    let x = get_or s a 0 in
    let y = get_or s (a + 1) 0 in
    rw (le2_of x y (h a) (h (a + 1)))
    (stands_front s a (a + 1) (a + 2) x (y ∷ []) (omega arith) refl refl
    (stands_front s (a + 1) (a + 2) (a + 2) y [] (omega arith) (omega arith) refl (stands_none s (a + 2))))

pub stands_four : (s : List ℕ) (a b n : ℕ) → Stands s a (le4 n) b → n ≤ number_most → four_at s a ≡ n
unfolding two_at four_at le4
stands_four s a b n p h =
    let p₁ = stands_rest s a b _ _ p in
    let p₂ = stands_next s (a + 1) (a + 2) b _ _ (omega arith) p₁ in
    let e₀ = stands_byte s a b _ _ p in
    let e₁ = stands_byte s (a + 1) b _ _ p₁ in
    let e₂ = stands_byte s (a + 2) b _ _ p₂ in
    let e₃ = stands_byte s (a + 2 + 1) b _ _ (stands_rest s (a + 2) b _ _ p₂) in
    rw (e₀, e₁, e₂, e₃) (four_digits n h)

pub four_stands : (s : List ℕ) (a : ℕ) → IsBytes s → a + 4 ≤ length s → Stands s a (le4 (four_at s a)) (a + 4)
unfolding two_at four_at
four_stands s a h le =
    let x = get_or s a 0 in
    let y = get_or s (a + 1) 0 in
    let z = get_or s (a + 2) 0 in
    let u = get_or s (a + 2 + 1) 0 in
    rw (le4_of x y z u (h a) (h (a + 1)) (h (a + 2)) (h (a + 2 + 1)))
    (stands_front s a (a + 1) (a + 4) x (y ∷ z ∷ u ∷ []) (omega arith) refl refl
    (stands_front s (a + 1) (a + 2) (a + 4) y (z ∷ u ∷ []) (omega arith) (omega arith) refl
    (stands_front s (a + 2) (a + 2 + 1) (a + 4) z (u ∷ []) (omega arith) refl refl
    (stands_front s (a + 2 + 1) (a + 4) (a + 4) u [] (omega arith) (omega arith) refl (stands_none s (a + 4))))))
