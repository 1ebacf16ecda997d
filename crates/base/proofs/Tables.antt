-- A rule that is proved at every number below a bound by one test that computes.
use mathlib.Core.Path.{◌≡◌, refl, ◌∙◌}
use mathlib.Core.Bool.{Bool, true, false, ◌&&◌, beq, false≢true}
use Prim.Native.Nat.{ℕ, zero, suc, ◌+◌, ◌<◌}
use native.Mathlib.Nat.{add-zero, zero-add, add-suc, suc-add, le_of_suc-le-suc, not-suc-le-zero}
use native.Mathlib.Omega.{arith}
use lib.Dec.{eqb}
use lib.ListN.{get_or}
use borrow.Author.Tests.{eqb-true, eqb-false}
use Rattle.base.specs.Lists.{tabulate}
use Rattle.base.proofs.Breaks.{and_true}

-- the test passes at each number below n
abbrev pub below : (ℕ → Bool) → ℕ → Bool
below p zero = true
below p (suc n) = p n && below p n

pub below_holds : (p : ℕ → Bool) (n : ℕ) → below p n ≡ true → (k : ℕ) → k < n → p k ≡ true
below_holds p zero e k h = absurd (not-suc-le-zero h)
below_holds p (suc n) e k h = go (eqb k n) refl (λ lt. below_holds p n w.1 k lt)
  where
    w : (p n ≡ true) × (below p n ≡ true)
    w = and_true (p n) (below p n) e

    go : (b : Bool) → eqb k n ≡ b → (k < n → p k ≡ true) → p k ≡ true
    go true q ih = rw (eqb-true k n q) w.0
    go false q ih = ih (omega (arith, eqb-false k n q))

pub beq_eq : (a b : Bool) → beq a b ≡ true → a ≡ b
beq_eq true true e = refl
beq_eq true false e = absurd (false≢true e)
beq_eq false true e = absurd (false≢true e)
beq_eq false false e = refl

-- two tests agree below n
pub agree : (p q : ℕ → Bool) (n : ℕ) → below (λ k. beq (p k) (q k)) n ≡ true → (k : ℕ) → k < n → p k ≡ q k
agree p q n e k h = beq_eq (p k) (q k) (below_holds (λ k. beq (p k) (q k)) n e k h)

tabulate_from : (f : ℕ → ℕ) (n i k : ℕ) → k < n → get_or (tabulate f i n) k 0 ≡ f (i + k)
unfolding tabulate
tabulate_from f zero i k h = absurd (not-suc-le-zero h)
tabulate_from f (suc n) i zero h = rw add-zero
tabulate_from f (suc n) i (suc k) h = tabulate_from f n (suc i) k (le_of_suc-le-suc h) ∙ rw (suc-add, add-suc)

-- a list that is made by a rule has it at each index
pub get_d_tabulate : (f : ℕ → ℕ) (n k : ℕ) → k < n → get_or (tabulate f 0 n) k 0 ≡ f k
get_d_tabulate f n k h = rw zero-add at (tabulate_from f n 0 k h)
