-- Bars at the same columns, as the code compares them.
use mathlib.Core.Path.{◌≡◌, refl, ap}
use mathlib.Core.Bool.{Bool, true, false, beq}
use mathlib.Core.List.{List, [], ◌∷◌}
use Prim.Native.Nat.{ℕ, suc}
use native.Mathlib.Omega.{arith}
use lib.Dec.{eqb}
use lib.ListN.{length}
use Rattle.base.proofs.Lists.{and_right, not_both}
use Rattle.std.specs.List.{list_all, zip}
use Rattle.text_laws.specs.Bars.{alike, same_bars}

pub same_size : (a b : List ℕ) → same_bars a b ≡ true → length a ≡ length b
unfolding same_bars
same_size [] [] h = refl
same_size [] (y ∷ b) h = absurd (not_both false h refl)
same_size (x ∷ a) [] h = absurd (not_both false h refl)
same_size (x ∷ a) (y ∷ b) h = ap suc (same_size a b (and_right (alike (eqb x 124) (eqb y 124)) (same_bars a b) h))

pub bars_size : (a b : List ℕ) → (length a ≡ length b → ⊥) → same_bars a b ≡ false
bars_size a b n = go (same_bars a b) refl
  where
    go : (x : Bool) → same_bars a b ≡ x → x ≡ false
    go true e = absurd (n (same_size a b e))
    go false e = refl

beq_alike : (x y : Bool) → beq x y ≡ alike x y
beq_alike true true = refl
beq_alike true false = refl
beq_alike false true = refl
beq_alike false false = refl

-- column by column
pub bars_pairs : (a b : List ℕ) → length a ≡ length b
    → list_all (λ q. beq (eqb q.0 124) (eqb q.1 124)) (zip a b) ≡ same_bars a b
unfolding same_bars
bars_pairs [] [] e = refl
bars_pairs [] (y ∷ b) e = absurd (omega arith)
bars_pairs (x ∷ a) [] e = absurd (omega arith)
bars_pairs (x ∷ a) (y ∷ b) e = rw (beq_alike (eqb x 124) (eqb y 124), bars_pairs a b (omega arith))
