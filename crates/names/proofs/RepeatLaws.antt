-- A search for the first index that passes a test, and what it says when nothing repeats.
use mathlib.Core.Path.{◌≡◌, refl, ap}
use mathlib.Core.Bool.{Bool, true, false, cond}
use Prim.Native.Nat.{ℕ, zero, suc, ◌+◌, ◌-◌, ◌≤◌, ◌<◌}
use native.Mathlib.Numerals.{add-one}
use native.Mathlib.Nat.{sub_self}
use native.Mathlib.Omega.{arith}
use lib.Dec.{ltb}
use borrow.Author.Tests.{ltb-true, ltb-false, le-ltb}
use Rattle.names.specs.Repeats.{first_from, repeats, first_repeat}

-- one index of a search, and the rest of it; and no index left
pub search_step : (f : ℕ → Bool) (i n : ℕ) → i < n
    → first_from f i (n - i) ≡ cond (f i) i (first_from f (i + 1) (n - (i + 1)))
unfolding first_from
search_step f i n h = let e : n - i ≡ suc (n - (i + 1)) = omega arith in rw (e, add-one i)

pub search_end : (f : ℕ → Bool) (n : ℕ) → first_from f n (n - n) ≡ n
unfolding first_from
search_end f n = rw sub_self

-- a search ends at the end where no index passes
pub none_passes : (f : ℕ → Bool) (i n : ℕ) → ((k : ℕ) → i ≤ k → k < i + n → f k ≡ false) → first_from f i n ≡ i + n
unfolding first_from
none_passes f i zero h = omega arith
none_passes f i (suc n) h =
    let e : f i ≡ false = h i (omega arith) (omega arith) in
    let r : first_from f (suc i) n ≡ suc i + n = none_passes f (suc i) n (λ k p q. h k (omega arith) (omega arith)) in
    let q : first_from f (suc i) n ≡ i + suc n = omega (arith, r) in
    rw e q

pub passes_none : (f : ℕ → Bool) (i n : ℕ) → first_from f i n ≡ i + n → (k : ℕ) → i ≤ k → k < i + n → f k ≡ false
unfolding first_from
passes_none f i zero e k p q = absurd (omega arith)
passes_none f i (suc n) e k p q = go (f i) refl e (passes_none f (suc i) n)
  where
    go : (b : Bool) → f i ≡ b → cond b i (first_from f (suc i) n) ≡ i + suc n
        → (first_from f (suc i) n ≡ suc i + n → (k : ℕ) → suc i ≤ k → k < suc i + n → f k ≡ false) → f k ≡ false
    go true t h rec = absurd (omega (arith, h))
    go false t h rec = last (ltb i k) refl
      where
        last : (b : Bool) → ltb i k ≡ b → f k ≡ false
        last true l = rec (omega (arith, h)) k (omega (arith, ltb-true i k l)) (omega arith)
        last false l = let s : k ≡ i = omega (arith, ltb-false i k l) in rw s t

pub search_most : (f : ℕ → Bool) (i n : ℕ) → first_from f i n ≤ i + n
unfolding first_from
search_most f i zero = omega arith
search_most f i (suc n) = go (f i) (search_most f (suc i) n)
  where
    go : (b : Bool) → first_from f (suc i) n ≤ suc i + n → cond b i (first_from f (suc i) n) ≤ i + suc n
    go true h = omega arith
    go false h = omega (arith, h)

-- ── nothing repeats ──

pub no_repeat : (alike : ℕ → ℕ → Bool) (n : ℕ) → first_repeat alike n ≡ n
    → (i j : ℕ) → i < j → j < n → alike i j ≡ false
no_repeat alike n e i j p q =
    let r : repeats alike j ≡ false = passes_none (repeats alike) 0 n (omega (arith, e)) j (omega arith)
    (omega arith) in
    let le = ltb-false (first_from (λ i. alike i j) 0 j) j r in
    let m : first_from (λ i. alike i j) 0 j ≡ 0 + j = omega (arith, le, search_most (λ i. alike i j) 0 j) in
    passes_none (λ i. alike i j) 0 j m i (omega arith) (omega arith)

pub repeat_none : (alike : ℕ → ℕ → Bool) (n : ℕ) → ((i j : ℕ) → i < j → j < n → alike i j ≡ false)
    → first_repeat alike n ≡ n
repeat_none alike n h =
    let none : (j : ℕ) → j < n → repeats alike j ≡ false = λ j q.
    let e = none_passes (λ i. alike i j) 0 j (λ i a b. h i j (omega arith) q) in
    le-ltb (first_from (λ i. alike i j) 0 j) j (omega (arith, e)) in
    let r = none_passes (repeats alike) 0 n (λ j p q. none j (omega arith)) in
    omega (arith, r)

-- ── searches by tests that agree ──

pub search_same : (f g : ℕ → Bool) (i n : ℕ) → ((k : ℕ) → i ≤ k → k < i + n → f k ≡ g k)
    → first_from f i n ≡ first_from g i n
unfolding first_from
search_same f g i zero h = refl
search_same f g i (suc n) h =
    rw (h i (omega arith) (omega arith), search_same f g (suc i) n (λ k p q. h k (omega arith) (omega arith)))

pub repeat_same : (a b : ℕ → ℕ → Bool) (n : ℕ) → ((i j : ℕ) → i < j → j < n → a i j ≡ b i j)
    → first_repeat a n ≡ first_repeat b n
repeat_same a b n h = search_same (repeats a) (repeats b) 0 n (λ j p q.
    ap (λ (x : ℕ). ltb x j) (search_same (λ i. a i j) (λ i. b i j) 0 j (λ i u v. h i j (omega arith) (omega arith))))
