-- Decimals as a relation, and its laws: `decimal` satisfies it, and each of number and digits decides the other.
use mathlib.Core.Path.{◌≡◌, refl, ap}
use mathlib.Core.Bool.{Bool, true, false, cond}
use mathlib.Core.Logic.{◌↔◌}
use mathlib.Core.List.{List, [], ◌∷◌, ◌++◌}
use Prim.Native.Nat.{ℕ, zero, suc, ◌+◌, ◌*◌, ◌/◌, ◌%◌, ◌^◌, ◌≤◌, ◌<◌}
use native.Mathlib.Omega.{arith}
use native.Mathlib.Nat.{pow-suc}
use lib.Dec.{ltb}
use lib.ListN.{length, length-append}
use borrow.Author.Tests.{ltb-true, ltb-false, lt-ltb}
use Rattle.base.specs.Bytes.{digit, digits, decimal}
use Rattle.base.specs.Lists.{all, between}
use Rattle.base.proofs.Lists.{and_both, true_between, all_append}

-- s is n in decimal, without leading zeros
pub data Decimal : ℕ → List ℕ → Type 0 where
  one : {d : ℕ} → d < 10 → Decimal d (digit d)
  more : {n d : ℕ} {s : List ℕ} → 0 < n → Decimal n s → d < 10 → Decimal (10 * n + d) (s ++ digit d)

-- ── digits satisfy it ──

split : (n : ℕ) → 10 * (n / 10) + n % 10 ≡ n
split n = omega arith

-- digits one more in number than `places`
pub digits_decimal : (places n : ℕ) → n < 10 ^ suc places → Decimal n (digits (suc places) n)
unfolding digits
digits_decimal zero n lt = rw (lt-ltb n 10 (omega arith)) (one {d = n} (omega arith))
digits_decimal (suc places) n lt = go (ltb n 10) refl (digits_decimal places (n / 10) smaller)
  where
    smaller : n / 10 < 10 ^ suc places
    smaller = let e : 10 ^ suc (suc places) ≡ 10 ^ suc places * 10 = pow-suc 10 (suc places) in omega arith

    go : (x : Bool) → ltb n 10 ≡ x → Decimal (n / 10) (digits (suc places) (n / 10))
        → Decimal n (cond x (digit n) (digits (suc places) (n / 10) ++ digit (n % 10)))
    go true e ih = one (ltb-true n 10 e)
    go false e ih =
        let ge : 10 ≤ n = ltb-false n 10 e in
        rw (split n) at (more {n = n / 10} {d = n % 10} (omega arith) ih (omega arith))

pub decimal_is : (n : ℕ) → n < 10000000000 → Decimal n (decimal n)
decimal_is n lt = digits_decimal 9 n lt

-- ── one text for each number, and one number for each text ──

pub decimal_unique : {n m : ℕ} {s t : List ℕ} → Decimal n s → Decimal m t → n ≡ m → s ≡ t
decimal_unique (one p) (one q) e = ap digit e
decimal_unique (one p) (more q y l) e = absurd (omega arith)
decimal_unique (more p x l) (one q) e = absurd (omega arith)
decimal_unique (more {n} {d} {s} p x l) (more {n = n'} {d = d'} {s = s'} p' x' l') e =
    let a : s ≡ s' = decimal_unique x x' (omega arith) in
    let c : d ≡ d' = omega arith in
    cc

pub last_same : (s t : List ℕ) (a b : ℕ) → s ++ (a ∷ []) ≡ t ++ (b ∷ []) → (s ≡ t) × (a ≡ b)
last_same [] [] a b e = (refl, cc)
last_same [] (y ∷ t) a b e = absurd (omega (arith, simp length-append at (ap length e)))
last_same (x ∷ s) [] a b e = absurd (omega (arith, simp length-append at (ap length e)))
last_same (x ∷ s) (y ∷ t) a b e =
    let h : x ≡ y = cc in
    let q : s ++ (a ∷ []) ≡ t ++ (b ∷ []) = cc in
    let w = last_same s t a b q in
    (let w0 : s ≡ t = w.0 in cc, w.1)

pub decimal_some : {n : ℕ} {s : List ℕ} → Decimal n s → 0 < length s
decimal_some (one p) = omega arith
decimal_some (more p x l) = simp length-append (omega arith)

pub decimal_injective : {n m : ℕ} {s t : List ℕ} → Decimal n s → Decimal m t → s ≡ t → n ≡ m
decimal_injective (one {d} p) (one {d = d'} q) e = let z : 48 + d ≡ 48 + d' = cc in omega arith
decimal_injective (one p) (more {s = s} q y l) e =
    absurd (omega (arith, decimal_some y, simp length-append at (ap length e)))
decimal_injective (more {s = s} p x l) (one q) e =
    absurd (omega (arith, decimal_some x, simp length-append at (ap length e)))
decimal_injective (more {n} {d} {s} p x l) (more {n = n'} {d = d'} {s = s'} p' x' l') e =
    let w = last_same s s' (48 + d) (48 + d') e in
    let a : n ≡ n' = decimal_injective x x' w.0 in
    let c : 48 + d ≡ 48 + d' = w.1 in
    omega arith

-- the text of a number is what the relation says, and two numbers have two texts
pub decimal_exact : (n : ℕ) (s : List ℕ) → n < 10000000000 → (s ≡ decimal n) ↔ Decimal n s
decimal_exact n s lt = ((λ e. rw e (decimal_is n lt)), λ x. decimal_unique x (decimal_is n lt) refl)

pub decimal_inj : (n m : ℕ) → n < 10000000000 → m < 10000000000 → decimal n ≡ decimal m → n ≡ m
decimal_inj n m p q e = decimal_injective (decimal_is n p) (decimal_is m q) e

-- ── the digits ──

digit_digits : (d : ℕ) → d < 10 → all (λ b. between 48 b 57) (digit d) ≡ true
unfolding all
digit_digits d lt =
    and_both (between 48 (48 + d) 57) true (true_between 48 (48 + d) 57 (omega arith) (omega arith)) refl

pub decimal_digits : {n : ℕ} {s : List ℕ} → Decimal n s → all (λ b. between 48 b 57) s ≡ true
decimal_digits (one {d} lt) = digit_digits d lt
decimal_digits (more {d = d} {s = s} p x lt) =
    all_append (λ b. between 48 b 57) s (digit d) (decimal_digits x) (digit_digits d lt)

-- the first digit, which is no 0 where more follow
pub decimal_first : {n : ℕ} {s : List ℕ} → Decimal n s
    → (c : ℕ) × (v : List ℕ) × (s ≡ c ∷ v) × (between 48 c 57 ≡ true)
decimal_first (one {d} lt) = (48 + d, [], refl, true_between 48 (48 + d) 57 (omega arith) (omega arith))
decimal_first (more {d = d} p x lt) =
    let w = decimal_first x in (w.0, w.1 ++ digit d, ap (λ (l : List ℕ). l ++ digit d) w.2, w.3)

pub decimal_lead : {n : ℕ} {s : List ℕ} → 0 < n → Decimal n s → (c : ℕ) × (v : List ℕ) × (s ≡ c ∷ v) × (49 ≤ c)
decimal_lead p (one {d} lt) = (48 + d, [], refl, omega arith)
decimal_lead p (more {d = d} q x lt) =
    let w = decimal_lead q x in (w.0, w.1 ++ digit d, ap (λ (l : List ℕ). l ++ digit d) w.2, w.3)
