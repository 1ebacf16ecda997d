-- The first line that breaks a rule, by a search over indexes.
use mathlib.Core.Path.{◌≡◌, refl}
use mathlib.Core.Bool.{Bool, true, false, cond, ◌||◌}
use mathlib.Core.List.{List, [], ◌∷◌}
use mathlib.Core.Option.{some}
use Prim.Native.Nat.{ℕ, zero, suc, ◌+◌, ◌≤◌, ◌<◌}
use native.Mathlib.Omega.{arith}
use lib.Dec.{ltb}
use lib.ListN.{length, take, get_elem?}
use borrow.Author.Tests.{lt-ltb, le-ltb}
use Rattle.base.specs.Lists.{any}
use Rattle.names.specs.Repeats.{first_from}

module _ {A : Type 0} (p : A → Bool) (b : ℕ → Bool) where
  any_from : (m : ℕ) (l : List A) (k : ℕ) → k ≤ length l
      → ((i : ℕ) (x : A) → i < k → get_elem? l i ≡ some x → b (m + i) ≡ p x)
      → ltb (first_from b m k) (m + k) ≡ any p (take k l)
  unfolding first_from any
  any_from m l zero le h = le-ltb m (m + 0) (omega arith)
  any_from m [] (suc k) le h = absurd (omega arith)
  any_from m (x ∷ l) (suc k) le h =
      go (p x) refl (any_from (suc m) l k (omega arith) (λ i y lt g. shift i y (h (suc i) y (omega arith) g)))
    where
      shift : (i : ℕ) (y : A) → b (m + suc i) ≡ p y → b (suc m + i) ≡ p y
      shift i y z = let q : m + suc i ≡ suc m + i = omega arith in rw q at z

      here : b m ≡ p x
      here = let q : m + 0 ≡ m = omega arith in rw q at (h 0 x (omega arith) refl)

      go : (y : Bool) → p x ≡ y → ltb (first_from b (suc m) k) (suc m + k) ≡ any p (take k l)
          → ltb (cond (b m) m (first_from b (suc m) k)) (m + suc k) ≡ p x || any p (take k l)
      go true e r = rw (here, e, lt-ltb m (m + suc k) (omega arith)) refl
      go false e r = let q : m + suc k ≡ suc m + k = omega arith in rw (here, e, q) r

  pub any_search : (l : List A) (k : ℕ) → k ≤ length l
      → ((i : ℕ) (x : A) → i < k → get_elem? l i ≡ some x → b i ≡ p x) → ltb (first_from b 0 k) k ≡ any p (take k l)
  any_search l k le h =
      let z : 0 + k ≡ k = omega arith in
      rw z at (any_from 0 l k le (λ i x lt e. let q : 0 + i ≡ i = omega arith in rw q (h i x lt e)))

-- ── what a search passed ──

pub search_hit : (f : ℕ → Bool) (i n : ℕ) → first_from f i n < i + n → f (first_from f i n) ≡ true
unfolding first_from
search_hit f i zero lt = absurd (omega arith)
search_hit f i (suc n) lt = go (f i) refl lt (search_hit f (suc i) n)
  where
    go : (b : Bool) → f i ≡ b → cond b i (first_from f (suc i) n) < i + suc n
        → (first_from f (suc i) n < suc i + n → f (first_from f (suc i) n) ≡ true)
        → f (cond b i (first_from f (suc i) n)) ≡ true
    go true e lt r = e
    go false e lt r = r (omega arith)
