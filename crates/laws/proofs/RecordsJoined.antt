-- Records of fields one behind the other, and with numbers that are alike.
use mathlib.Core.Path.{◌≡◌, refl, ap, ap₂, sym, ◌∙◌}
use mathlib.Core.Bool.{cond}
use mathlib.Core.List.{List, [], ◌∷◌, ◌++◌, append_assoc}
use Prim.Native.Nat.{ℕ, suc, ◌+◌, ◌-◌, ◌≤◌, ◌<◌}
use native.Mathlib.Omega.{arith}
use native.Mathlib.Nat.{add-zero, zero-add}
use lib.Dec.{ltb}
use lib.ListN.{length}
use borrow.Author.Tests.{lt-ltb, le-ltb}
use Rattle.rules.specs.Fields.{Field}
use Rattle.rules.specs.Stored.{stored_field, records, records_in}

-- ── from an index on ──

pub records_here : (numbers : ℕ → ℕ) (k : ℕ) (fs : List (Field ℕ)) → records numbers (k + 0) fs ≡ records numbers k fs
records_here numbers k fs = rw (add-zero k)

pub records_next : (numbers : ℕ → ℕ) (k : ℕ) (x : Field ℕ) (xs fs : List (Field ℕ))
    → records numbers (k + length (x ∷ xs)) fs ≡ records numbers (suc k + length xs) fs
records_next numbers k x xs fs =
    let m : k + length (x ∷ xs) ≡ suc k + length xs = omega arith in
    ap (λ (n : ℕ). records numbers n fs) m

pub records_append : (numbers : ℕ → ℕ) (k : ℕ) (xs ys : List (Field ℕ))
    → records numbers k (xs ++ ys) ≡ records numbers k xs ++ records numbers (k + length xs) ys
unfolding records_in
records_append numbers k [] ys = sym (records_here numbers k ys)
records_append numbers k (x ∷ xs) ys =
    let one = stored_field (numbers k) x in
    ap (λ (l : List ℕ). one ++ l)
    (records_append numbers (suc k) xs ys
    ∙ ap (λ (l : List ℕ). records numbers (suc k) xs ++ l) (sym (records_next numbers k x xs ys)))
    ∙ sym (append_assoc one (records numbers (suc k) xs) (records numbers (k + length (x ∷ xs)) ys))

-- ── with numbers that are alike ──

pub records_alike : (a b : ℕ → ℕ) (i j : ℕ) (fs : List (Field ℕ))
    → ((n : ℕ) → n < length fs → a (i + n) ≡ b (j + n)) → records a i fs ≡ records b j fs
unfolding records_in
records_alike a b i j [] h = refl
records_alike a b i j (f ∷ fs) h =
    let e : a i ≡ b j = rw (add-zero i, add-zero j) at (h 0 (omega arith)) in
    ap₂ {C = List ℕ} (λ (x y : List ℕ). x ++ y) (ap (λ (n : ℕ). stored_field n f) e)
    (records_alike a b (suc i) (suc j) fs (λ n lt.
    let x : i + suc n ≡ suc i + n = omega arith in
    let y : j + suc n ≡ suc j + n = omega arith in rw (x, y) at (h (suc n) (omega arith))))

pub records_shift : (numbers : ℕ → ℕ) (k : ℕ) (fs : List (Field ℕ))
    → records numbers k fs ≡ records (λ i. numbers (k + i)) 0 fs
records_shift numbers k fs = records_alike numbers (λ i. numbers (k + i)) k 0 fs (λ n lt. rw (zero-add n))

-- records with numbers of their own, one behind the other, are those of all the fields with some numbers
abbrev numbers_of_both : (ℕ → ℕ) → (ℕ → ℕ) → ℕ → ℕ → ℕ → ℕ → ℕ
numbers_of_both a b i j m n = cond (ltb n m) (a (i + n)) (b (j + (n - m)))

pub records_both : (a b : ℕ → ℕ) (i j : ℕ) (xs ys : List (Field ℕ))
    → (c : ℕ → ℕ) × (records a i xs ++ records b j ys ≡ records c 0 (xs ++ ys))
records_both a b i j xs ys =
    let m = length xs in
    let c = numbers_of_both a b i j m in
    let fore : records a i xs ≡ records c 0 xs =
    records_alike a c i 0 xs (λ n lt. rw (zero-add n, lt-ltb n m lt)) in
    let back : records b j ys ≡ records c (0 + m) ys =
    records_alike b c j (0 + m) ys (λ n lt.
    let high : m ≤ 0 + m + n = omega arith in
    let same : 0 + m + n - m ≡ n = omega arith in rw (le-ltb (0 + m + n) m high, same)) in
    (c, ap₂ {C = List ℕ} (λ (x y : List ℕ). x ++ y) fore back ∙ sym (records_append c 0 xs ys))
