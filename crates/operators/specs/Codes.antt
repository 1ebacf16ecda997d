-- What the first byte of a stored expression says. [01, The stored table] [02, R-7]
use Rattle.std.specs.Prelude.{cond, List, [], ◌∷◌, ℕ, eqb}
use Rattle.rules.specs.declared.Op.{Op}
use Rattle.rules.specs.Operators.{operators, code, number_code, field_code, not_code}
use Rattle.operators.specs.declared.codes.Code.{Code}

-- the operator whose code it is
unfoldable pub code_in : List Op → ℕ → Code
code_in [] c = Code.Other
code_in (o ∷ l) c = cond (eqb c (code o)) (Code.Two o) (code_in l c)

unfoldable pub code_of : ℕ → Code
code_of c =
    cond (eqb c number_code) Code.Number
    (cond (eqb c field_code) Code.Field
    (cond (eqb c not_code) Code.Not (code_in operators c)))
