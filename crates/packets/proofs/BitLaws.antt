-- Laws of the number that bits make: parts of it, and whole bytes.
use mathlib.Core.Path.{◌≡◌, sym, ◌∙◌}
use mathlib.Core.List.{List}
use Prim.Native.Nat.{ℕ, zero, suc, ◌+◌, ◌*◌, ◌-◌, ◌/◌, ◌%◌, ◌^◌, ◌<◌, ◌≤◌}
use native.Mathlib.Nat.{pow-suc, mod-lt, mul_assoc, one-mul}
use native.Mathlib.Omega.{arith}
use lib.ListN.{get_or}
use lib.Pow.{pow_mono, high, low, shr-shr, shl_exact}
use Rattle.rules.specs.Reading.{bit_at, bits_at}

bit_lt : (s : List ℕ) (k : ℕ) → bit_at s k < 2
bit_lt s k = mod-lt _ (omega arith)

pub bits_lt : (s : List ℕ) (at w : ℕ) → bits_at s at w < 2 ^ w
unfolding bits_at
bits_lt s at zero = omega arith
bits_lt s at (suc w) = omega (arith, bits_lt s at w, pow-suc 2 w, bit_lt s (at + w))

-- as many bits as a number has at most
pub bits_below : (s : List ℕ) (at w most : ℕ) → w ≤ most → bits_at s at w < 2 ^ most
bits_below s at w most h = let m : 2 ^ w ≤ 2 ^ most = pow_mono h in omega (arith, bits_lt s at w)

-- ── parts ──

bits_add : (s : List ℕ) (at j k : ℕ) → bits_at s at (j + k) ≡ bits_at s at j * 2 ^ k + bits_at s (at + j) k
unfolding bits_at
bits_add s at j zero = let e : j + 0 ≡ j = omega arith in rw e (omega arith)
bits_add s at j (suc k) =
    let e : j + suc k ≡ suc (j + k) = omega arith in
    let p : at + j + k ≡ at + (j + k) = omega arith in
    let t : bits_at s at j * 2 ^ suc k ≡ bits_at s at j * 2 ^ k * 2 =
    rw (pow-suc 2 k) (sym (mul_assoc (bits_at s at j) (2 ^ k) 2)) in
    rw (e, p, t) (omega (arith, bits_add s at j k))

-- the n bits behind o bits and in front of spare bits
pub bits_between : (s : List ℕ) (at o n spare total : ℕ) → total ≡ o + n + spare
    → bits_at s at total / 2 ^ spare % 2 ^ n ≡ bits_at s (at + o) n
bits_between s at o n spare total e =
    rw (
      e,
      bits_add s at (o + n) spare,
      high (bits_at s at (o + n)) spare (bits_lt s (at + (o + n)) spare),
      bits_add s at o n,
      low (bits_at s at o) n (bits_lt s (at + o) n),
    )

-- ── bytes ──

byte_front : (s : List ℕ) (b j : ℕ) → get_or s b 0 < 256 → j ≤ 8 → bits_at s (8 * b) j ≡ get_or s b 0 / 2 ^ (8 - j)
unfolding bits_at
byte_front s b zero h le = let e : get_or s b 0 / 256 ≡ 0 = omega arith in sym e
byte_front s b (suc j) h le =
    let q : (8 * b + j) / 8 ≡ b = omega arith in
    let r : (8 * b + j) % 8 ≡ j = omega arith in
    let n : 8 - j ≡ 7 - j + 1 = omega arith in
    let m : 8 - suc j ≡ 7 - j = omega arith in
    let x = get_or s b 0 / 2 ^ (7 - j) in
    let y : get_or s b 0 / 2 ^ (7 - j + 1) ≡ x / 2 = sym (shr-shr (get_or s b 0) (7 - j) 1) in
    rw (q, r, m, byte_front s b j h (omega arith), n, y) (omega arith)

pub bytes_step : (s : List ℕ) (first m : ℕ) → get_or s (first + m) 0 < 256
    → bits_at s (8 * first) (8 * (m + 1)) ≡ 256 * bits_at s (8 * first) (8 * m) + get_or s (first + m) 0
bytes_step s first m h =
    let e : 8 * (m + 1) ≡ 8 * m + 8 = omega arith in
    let p : 8 * first + 8 * m ≡ 8 * (first + m) = omega arith in
    let b = byte_front s (first + m) 8 h (omega arith) in
    let d : get_or s (first + m) 0 / 2 ^ (8 - 8) ≡ get_or s (first + m) 0 = omega arith in
    rw (e, bits_add s (8 * first) (8 * m) 8, p, b, d) (omega arith)

-- ── bits out of the bytes where they lie ──

pub one_shifted : (n : ℕ) → n ≤ 32 → 1 * 2 ^ n % 2 ^ 64 ≡ 2 ^ n
one_shifted n h =
    let lt : 1 < 2 ^ 1 = omega arith in
    let le : 1 + n ≤ 64 = omega arith in
    shl_exact 1 n 64 lt le ∙ one-mul (2 ^ n)

pub bits_taken : (s : List ℕ) (place n v : ℕ) → n ≤ 32
    → v ≡ bits_at s (8 * (place / 8)) (8 * ((place + n + 7) / 8 - place / 8))
    → v / 2 ^ (8 * (place / 8 + ((place + n + 7) / 8 - place / 8)) - (place + n)) % (1 * 2 ^ n % 2 ^ 64)
    ≡ bits_at s place n
bits_taken s place n v h is =
    let first = place / 8 in
    let m = (place + n + 7) / 8 - place / 8 in
    let spare = 8 * (first + m) - (place + n) in
    let total : 8 * m ≡ place % 8 + n + spare = omega arith in
    let start : 8 * first + place % 8 ≡ place = omega arith in
    rw (one_shifted n h, is, bits_between s (8 * first) (place % 8) n spare (8 * m) total, start)
