-- No promise allows an answer of specs/Wrong: each has other numbers, by one computation.
use mathlib.Core.Path.{◌≡◌, refl}
use mathlib.Core.Bool.{Bool, true, not}
use mathlib.Core.List.{List, [], ◌∷◌}
use Rattle.std.specs.Prelude.{Option, Some, None}
use Prim.Native.Nat.{ℕ}
use Rattle.base.specs.Lists.{all, same}
use Rattle.base.proofs.Lists.{every_passes, other_numbers}
use Rattle.rules.specs.declared.Op.{Op}
use Rattle.rules.specs.declared.ValueType.{ValueType}
use Rattle.rules.specs.declared.Decider.{Decider}
use Rattle.rules.specs.Operators.{operator, operators, code}
use Rattle.operators.specs.declared.rows.Row.{Row}
use Rattle.operators.specs.declared.codes.Code.{Code}
use Rattle.operators.specs.Rows.{row_of}
use Rattle.operators.specs.Codes.{code_in, code_of}
use Rattle.operators.specs.Symbols.{symbol_in, symbol_of}
use Rattle.operators.specs.Wrong.{Claim, has_row, says, begins, Claimed, AllFalse, wrong}

-- ── answers as numbers ──

abbrev type_number : ValueType → ℕ
type_number ValueType.Number = 0
type_number ValueType.YesNo = 1

abbrev decider_number : Decider → ℕ
decider_number Decider.ByYes = 0
decider_number Decider.ByNo = 1
decider_number Decider.Neither = 2

abbrev second_number : Option ℕ → ℕ
second_number None = 0
second_number (Some b) = b

abbrev row_numbers : Row → List ℕ
row_numbers r =
    r.first
    ∷ second_number r.second
    ∷ r.level
    ∷ r.left
    ∷ r.right
    ∷ r.code
    ∷ type_number r.takes
    ∷ type_number r.gives
    ∷ decider_number r.decider
    ∷ []

abbrev code_numbers : Code → List ℕ
code_numbers Code.Number = 0 ∷ []
code_numbers Code.Field = 1 ∷ []
code_numbers (Code.Two o) = 2 ∷ code o ∷ []
code_numbers Code.Not = 3 ∷ []
code_numbers Code.Other = 4 ∷ []

abbrev symbol_numbers : Option (Op × ℕ) → List ℕ
symbol_numbers None = []
symbol_numbers (Some (o, n)) = code o ∷ n ∷ []

-- ── other numbers ──

abbrev differs : Claim → Bool
differs (has_row o r) = not (same (row_numbers r) (row_numbers (row_of o)))
differs (says c r) = not (same (code_numbers r) (code_numbers (code_of c)))
differs (begins a b r) = not (same (symbol_numbers r) (symbol_numbers (symbol_of a b)))

one_false : (c : Claim) → differs c ≡ true → Claimed c → ⊥
one_false (has_row o r) d = other_numbers row_numbers r (row_of o) d
one_false (says c r) d = other_numbers code_numbers r (code_of c) d
one_false (begins a b r) d = other_numbers symbol_numbers r (symbol_of a b) d

pub ruled_out : AllFalse wrong
unfolding all same row_of code_of code_in symbol_of symbol_in operators operator
ruled_out = every_passes differs one_false wrong refl
