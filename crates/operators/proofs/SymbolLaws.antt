-- Operators by the length of their symbols, and bytes that are no symbol.
use mathlib.Core.Path.{◌≡◌, refl, ap, sym}
use mathlib.Core.Bool.{Bool, true, false, cond}
use mathlib.Core.List.{List, [], ◌∷◌}
use Rattle.std.specs.Prelude.{Option, Some}
use Prim.Native.Nat.{ℕ, ◌+◌, ◌*◌}
use native.Mathlib.Omega.{arith}
use lib.Dec.{eqb}
use lib.ListN.{length}
use borrow.Author.Tests.{eq-eqb}
use Rattle.base.specs.Lists.{same}
use Rattle.base.proofs.Lists.{same_true, fails, not_both}
use Rattle.rules.specs.declared.Op.{Op}
use Rattle.rules.specs.Operators.{symbol}
use Rattle.operators.specs.Symbols.{symbol_in}

-- the operators whose symbols are of a length
unfoldable pub of_length : ℕ → List Op → List Op
of_length n [] = []
of_length n (o ∷ os) = cond (eqb (length (symbol o)) n) (o ∷ of_length n os) (of_length n os)

-- no other operator matters for a word of the length
pub symbol_of_length : (os : List Op) (w : List ℕ) (m : Option (Op × ℕ))
    → symbol_in os w m ≡ symbol_in (of_length (length w) os) w m
unfolding symbol_in of_length
symbol_of_length [] w m = refl
symbol_of_length (o ∷ os) w m = go (eqb (length (symbol o)) (length w)) refl (symbol_of_length os w m)
  where
    other : eqb (length (symbol o)) (length w) ≡ false → same w (symbol o) ≡ false
    other e = fails (same w (symbol o)) (λ t.
        not_both (eqb (length (symbol o)) (length w))
        (eq-eqb (length (symbol o)) (length w) (sym (ap length (same_true w (symbol o) t)))) e)

    go : (b : Bool) → eqb (length (symbol o)) (length w) ≡ b
        → symbol_in os w m ≡ symbol_in (of_length (length w) os) w m
        → cond (same w (symbol o)) (Some (o, length w)) (symbol_in os w m)
        ≡ symbol_in (cond b (o ∷ of_length (length w) os) (of_length (length w) os)) w m
    go true e ih = rw (ih, symbol_in)
    go false e ih = rw (other e) ih

-- two bytes that make another number are another pair
pub pair_other : (a b x y : ℕ) → (256 * a + b ≡ 256 * x + y → ⊥) → same (a ∷ b ∷ []) (x ∷ y ∷ []) ≡ false
pair_other a b x y ne =
    fails (same (a ∷ b ∷ []) (x ∷ y ∷ [])) (λ t.
    let e : a ∷ b ∷ [] ≡ x ∷ y ∷ [] = same_true (a ∷ b ∷ []) (x ∷ y ∷ []) t in
    let p : a ≡ x = cc in
    let q : b ≡ y = cc in
    ne (omega arith))
