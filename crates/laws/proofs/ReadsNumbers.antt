-- What le2, le4 and a counted list write is read again.
use mathlib.Core.Path.{◌≡◌, refl}
use mathlib.Core.List.{List, ◌++◌}
use Prim.Native.Nat.{ℕ, ◌+◌, ◌*◌, ◌/◌, ◌%◌, ◌<◌, ◌≤◌}
use native.Mathlib.Omega.{arith}
use lib.ListN.{length, drop}
use lib.Seq.{take-append_seam, drop-append_seam}
use Rattle.rules.specs.Limits.{number_most}
use Rattle.rules.specs.Trees.{le2, le4}
use Rattle.laws.proofs.Readers.{read_two, read_four, read_counted}

pub read_two_le2 : (n : ℕ) → n < 65536 → (r : List ℕ) → read_two (le2 n ++ r) ≡ (n, r)
unfolding read_two le2
read_two_le2 n h r =
    let q : n / 256 < 256 = omega arith in
    let v : n % 256 + 256 * (n / 256 % 256) ≡ n = omega arith in
    λ i. (v i, r)

pub read_four_le4 : (n : ℕ) → n ≤ number_most → (r : List ℕ) → read_four (le4 n ++ r) ≡ (n, r)
unfolding read_four le4
read_four_le4 n h r =
    let a = n / 256 in
    let b = a / 256 in
    let c = b / 256 in
    let ha : a < 16777216 = omega arith in
    let hb : b < 65536 = omega arith in
    let hc : c < 256 = omega arith in
    let vc : c % 256 ≡ c = omega arith in
    let vb : b % 256 + 256 * (c % 256) ≡ b = rw vc (omega arith) in
    let va : a % 256 + 256 * (b % 256 + 256 * (c % 256)) ≡ a = rw vb (omega arith) in
    let v : n % 256 + 256 * (a % 256 + 256 * (b % 256 + 256 * (c % 256))) ≡ n = rw va (omega arith) in
    λ i. (v i, r)

-- a number that is not looked at
pub skip_le2 : (n : ℕ) (r : List ℕ) → drop 2 (le2 n ++ r) ≡ r
unfolding le2
skip_le2 n r = refl

pub read_counted_counted : (l : List ℕ) → length l < 65536 → (r : List ℕ)
    → read_counted (le2 (length l) ++ (l ++ r)) ≡ (l, r)
unfolding read_counted
read_counted_counted l h r = rw (read_two_le2 (length l) h, take-append_seam, drop-append_seam)
