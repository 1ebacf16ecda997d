-- The operator with whose symbol a text begins: the longest symbol counts. [01, Expressions] [02, R-7]
use Rattle.std.specs.Prelude.{cond, List, [], ◌∷◌, ℕ, Option, Some, None, length}
use Rattle.base.specs.Lists.{same}
use Rattle.rules.specs.declared.Op.{Op}
use Rattle.rules.specs.Operators.{operators, symbol}

-- the operator whose symbol is w, or else
unfoldable pub symbol_in : List Op → List ℕ → Option (Op × ℕ) → Option (Op × ℕ)
symbol_in [] w other = other
symbol_in (o ∷ os) w other = cond (same w (symbol o)) (Some (o, length w)) (symbol_in os w other)

-- both bytes are a symbol, or else the first is; no symbol is longer
unfoldable pub symbol_of : ℕ → ℕ → Option (Op × ℕ)
symbol_of a b = symbol_in operators (a ∷ b ∷ []) (symbol_in operators (a ∷ []) None)
