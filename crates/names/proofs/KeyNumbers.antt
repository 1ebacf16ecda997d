-- The number of a held name, which its 8 bytes make, tells it apart from every other.
use mathlib.Core.Path.{◌≡◌, refl, sym, ◌∙◌, ap}
use mathlib.Core.Bool.{Bool, true, false}
use mathlib.Core.List.{List, [], ◌∷◌}
use Prim.Native.Nat.{ℕ, zero, suc, ◌+◌, ◌*◌, ◌%◌, ◌≤◌, ◌<◌}
use native.Mathlib.Nat.{mod-eq_of_lt}
use native.Mathlib.Omega.{arith}
use lib.Dec.{eqb}
use lib.ListN.{length, get_or}
use borrow.Author.Tests.{eqb-true, eqb-false}
use Rattle.std.proofs.lemmas.Nat.{be_bytes_8}
use Rattle.std.specs.Int.{w64, from_be_bytes, to_be_bytes}
use Rattle.base.specs.Lists.{same}
use Rattle.base.proofs.Lists.{fails, same_true, same_self}
use Rattle.rules.specs.Limits.{short_most}
use Rattle.names.specs.Keys.{key_part, key_from, word_key, IsHeld}
use Rattle.names.specs.Repeats.{number_from, name_number}

pub be_number : (name : List ℕ) → length name ≡ 8 → from_be_bytes w64 name ≡ name_number name
unfolding number_from
be_number [] n = absurd (omega arith)
be_number (a ∷ []) n = absurd (omega arith)
be_number (a ∷ b ∷ []) n = absurd (omega arith)
be_number (a ∷ b ∷ c ∷ []) n = absurd (omega arith)
be_number (a ∷ b ∷ c ∷ d ∷ []) n = absurd (omega arith)
be_number (a ∷ b ∷ c ∷ d ∷ e ∷ []) n = absurd (omega arith)
be_number (a ∷ b ∷ c ∷ d ∷ e ∷ f ∷ []) n = absurd (omega arith)
be_number (a ∷ b ∷ c ∷ d ∷ e ∷ f ∷ g ∷ []) n = absurd (omega arith)
be_number (a ∷ b ∷ c ∷ d ∷ e ∷ f ∷ g ∷ h ∷ []) n = omega arith
be_number (a ∷ b ∷ c ∷ d ∷ e ∷ f ∷ g ∷ h ∷ i ∷ l) n = absurd (omega arith)

module _ (a b : List ℕ) (p : IsHeld a) (q : IsHeld b) where
  pub number_same : eqb (name_number a) (name_number b) ≡ same a b
  number_same = go (eqb (name_number a) (name_number b)) refl
    where
      go : (x : Bool) → eqb (name_number a) (name_number b) ≡ x → x ≡ same a b
      go true e =
          let f = be_bytes_8 a (name_number a) p.0 p.1 (sym (be_number a p.0)) in
          let g = be_bytes_8 b (name_number b) q.0 q.1 (sym (be_number b q.0)) in
          let is : a ≡ b = sym f ∙ ap (to_be_bytes w64) (eqb-true _ _ e) ∙ g in
          sym (ap (λ (w : List ℕ). same a w) (sym is) ∙ same_self a)
      go false e = sym (fails (same a b) (λ h. eqb-false _ _ e (ap name_number (same_true a b h))))

-- ── the key of the last 8 bytes is that of all 8 ──

-- the numbers of m bytes are below it
unfoldable bound : ℕ → ℕ
bound zero = 1
bound (suc m) = 256 * bound m

bound_most : (m : ℕ) → m ≤ 7 → bound m ≤ key_part
unfolding bound
bound_most zero h = omega arith
bound_most (suc zero) h = omega arith
bound_most (suc (suc zero)) h = omega arith
bound_most (suc (suc (suc zero))) h = omega arith
bound_most (suc (suc (suc (suc zero)))) h = omega arith
bound_most (suc (suc (suc (suc (suc zero))))) h = omega arith
bound_most (suc (suc (suc (suc (suc (suc zero)))))) h = omega arith
bound_most (suc (suc (suc (suc (suc (suc (suc zero))))))) h = omega arith
bound_most (suc (suc (suc (suc (suc (suc (suc (suc m)))))))) h = absurd (omega arith)

-- no byte of 8 is lost
key_whole : (w : List ℕ) (m k : ℕ) → m + length w ≡ short_most → ((i : ℕ) → get_or w i 0 < 256) → k < bound m
    → key_from k w ≡ number_from k w
unfolding key_from number_from bound
key_whole [] m k size p below = refl
key_whole (x ∷ w) m k size p below =
    let most = bound_most m (omega arith) in
    let a : k % key_part ≡ k = mod-eq_of_lt (omega (arith, most)) in
    let s : x < 256 = p 0 in
    let u : k * 256 + x < 256 * bound m = omega arith in
    rw a (key_whole w (suc m) (k * 256 + x) (omega arith) (λ i. p (suc i)) u)

pub key_number : (name : List ℕ) → IsHeld name → word_key name ≡ name_number name
unfolding bound
key_number name p = key_whole name 0 0 (omega (arith, p.0)) p.1 (omega arith)

pub key_same : (a b : List ℕ) → IsHeld a → IsHeld b → eqb (word_key a) (word_key b) ≡ same a b
key_same a b p q = rw (key_number a p, key_number b q) (number_same a b p q)
