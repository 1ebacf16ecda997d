-- A power by at most 32 products is x ^ y, or out of range exactly where x ^ y is. [02, R-7]
use mathlib.Core.Path.{◌≡◌, refl, sym, ◌∙◌}
use mathlib.Core.Bool.{Bool, true, false}
use Prim.Native.Nat.{ℕ, zero, suc, ◌^◌, ◌≤◌, ◌<◌, min}
use native.Mathlib.Omega.{arith}
use native.Mathlib.Nat.{
  lt_of_lt_of_le,
  pow-zero,
  pow-suc,
  pow-le-pow_left,
  pow-le-pow_right,
  mul-zero,
  mul-one,
  min-eq_left,
  min-eq_right,
}
use lib.Dec.{leb, lit<}
use borrow.Author.Tests.{leb-true, leb-false, lt-leb}
use Rattle.rules.specs.declared.Fault.TheVariants.{OutOfRange}
use Rattle.rules.specs.Limits.{number_most}
use Rattle.rules.specs.Values.{fault, in_range, products_most, power, apply}
use Rattle.rules.specs.Results.{PowerMeant}

zero_power : (n : ℕ) → 0 ^ suc n ≡ 0
zero_power n = pow-suc 0 n ∙ mul-zero (0 ^ n)

one_power : (n : ℕ) → 1 ^ n ≡ 1
one_power zero = pow-zero 1
one_power (suc n) = pow-suc 1 n ∙ mul-one (1 ^ n) ∙ one_power n

out_of_range : (n : ℕ) → number_most < n → in_range n ≡ fault OutOfRange
out_of_range n h = rw (lt-leb n number_most h)

-- a power that is out of range stays so under further products
pub stays_over : (x i n : ℕ) → i ≤ n → number_most < x ^ i → in_range (x ^ i) ≡ in_range (x ^ n)
stays_over zero zero n h over = absurd (omega (arith, pow-zero 0))
stays_over zero (suc i) n h over = absurd (omega (arith, zero_power i))
stays_over (suc x) i n h over =
    out_of_range (suc x ^ i) over
    ∙ sym (out_of_range (suc x ^ n) (lt_of_lt_of_le over (pow-le-pow_right (omega arith) h)))

-- from the 32nd on, a product changes nothing; that of 2 is out of range
settled : (x n : ℕ) → products_most ≤ n → in_range (x ^ products_most) ≡ in_range (x ^ n)
settled zero zero h = absurd (omega arith)
settled zero (suc n) h = rw (zero_power n)
settled (suc zero) n h = rw (one_power n)
settled (suc (suc x)) n h =
    let two : 2 ≤ suc (suc x) = omega arith in
    stays_over (suc (suc x)) products_most n h
    (lt_of_lt_of_le {m = 2 ^ products_most} (lit< tt) (pow-le-pow_left two products_most))

pub power_meant : PowerMeant
unfolding apply power
power_meant x y = go (leb y products_most) refl
  where
    go : (b : Bool) → leb y products_most ≡ b → in_range (x ^ min y products_most) ≡ in_range (x ^ y)
    go true e = rw (min-eq_left (leb-true y products_most e))
    go false e =
        let h : products_most ≤ y = omega (arith, leb-false y products_most e) in
        rw (min-eq_right h) (settled x y h)
