-- Answers of wrong programs: of each, what is claimed is a promise, and it is false (proofs/RuledOut).
use Rattle.std.specs.Prelude.{◌≡◌, List, [], ◌∷◌, ◌++◌, ℕ, Option, Some, None}
use Rattle.base.specs.Lists.{Every}
use Rattle.rules.specs.declared.Op.{Op}
use Rattle.rules.specs.declared.Op.TheVariants.{Or, And, Eq, Lt, Le, Sub, Mul, Div, Rem, Pow}
use Rattle.rules.specs.declared.ValueType.TheVariants.{Number, YesNo}
use Rattle.rules.specs.declared.Decider.TheVariants.{ByNo, Neither}
use Rattle.operators.specs.declared.rows.Row.{Row}
use Rattle.operators.specs.declared.codes.Code.{Code}
use Rattle.operators.specs.Rows.{columns, row_of}
use Rattle.operators.specs.Codes.{code_of}
use Rattle.operators.specs.Symbols.{symbol_of}

pub data Claim : Type 0 where
  -- the row of an operator
  has_row : Op → Row → Claim
  -- what a stored byte says
  says : ℕ → Code → Claim
  -- the operator with whose symbol two bytes begin
  begins : ℕ → ℕ → Option (Op × ℕ) → Claim

abbrev pub Claimed : Claim → Type 0
Claimed (has_row o r) = r ≡ row_of o
Claimed (says c r) = r ≡ code_of c
Claimed (begins a b r) = r ≡ symbol_of a b

-- of rows
abbrev wrong_rows : List Claim
wrong_rows =
    -- `-` grouped to the right
    has_row Sub (columns 45 None 3 4 3 0x11 Number Number Neither)
    -- `==` taken at its own level on the left, so that it may stand twice
    ∷ has_row Eq (columns 61 (Some 61) 2 2 3 0x20 Number YesNo Neither)
    -- `*` as loose as `+`
    ∷ has_row Mul (columns 42 None 3 3 4 0x12 Number Number Neither)
    -- `||` settled by no, and `&&` by nothing
    ∷ has_row Or (columns 124 (Some 124) 0 0 1 0x31 YesNo YesNo ByNo)
    ∷ has_row And (columns 38 (Some 38) 1 1 2 0x30 YesNo YesNo Neither)
    -- a comparison of yes and no
    ∷ has_row Lt (columns 60 None 2 3 3 0x22 YesNo YesNo Neither)
    -- `^` grouped to the left, or at the level of `*`; `%` looser than `*`; `/` grouped to the right [02, R-7]
    ∷ has_row Pow (columns 94 None 5 5 6 0x15 Number Number Neither)
    ∷ has_row Pow (columns 94 None 4 5 4 0x15 Number Number Neither)
    ∷ has_row Rem (columns 37 None 3 3 4 0x14 Number Number Neither)
    ∷ has_row Div (columns 47 None 4 5 4 0x13 Number Number Neither)
    -- `/` as loose as `+`; `^` grouped to neither side; `%` and `^` that give yes or no
    ∷ has_row Div (columns 47 None 3 3 4 0x13 Number Number Neither)
    ∷ has_row Pow (columns 94 None 5 6 6 0x15 Number Number Neither)
    ∷ has_row Rem (columns 37 None 4 4 5 0x14 Number YesNo Neither)
    ∷ has_row Pow (columns 94 None 5 6 5 0x15 Number YesNo Neither)
    -- `^` of yes and no, or settled by its left operand; `/` stored by a decimal code
    ∷ has_row Pow (columns 94 None 5 6 5 0x15 YesNo Number Neither)
    ∷ has_row Pow (columns 94 None 5 6 5 0x15 Number Number ByNo)
    ∷ has_row Div (columns 47 None 4 4 5 13 Number Number Neither)
    ∷ []

-- of codes
abbrev wrong_codes : List Claim
wrong_codes =
    -- `&&` and `||` exchanged; `!` taken for no code; a code for a byte that is none
    says 0x30 (Code.Two Or)
    ∷ says 0x32 Code.Other
    ∷ says 0x16 (Code.Two Pow)
    -- codes in decimal, exchanged, or taken for none [02, R-7]
    ∷ says 13 (Code.Two Div)
    ∷ says 14 (Code.Two Rem)
    ∷ says 15 (Code.Two Pow)
    ∷ says 0x13 (Code.Two Rem)
    ∷ says 0x14 (Code.Two Div)
    ∷ says 0x15 Code.Other
    ∷ []

-- of symbols
abbrev wrong_symbols : List Claim
wrong_symbols =
    -- the shorter symbol taken; a symbol cut to one byte; `=` alone taken for `==`
    begins 60 61 (Some (Lt, 1))
    ∷ begins 60 61 (Some (Le, 1))
    ∷ begins 61 0 (Some (Eq, 1))
    -- `%`, `/` and `^` taken for no symbol; the second byte taken; `%` or `\` for `/`; `**` and `//` for one symbol
    -- [02, R-7]
    ∷ begins 37 0 None
    ∷ begins 47 0 None
    ∷ begins 94 0 None
    ∷ begins 47 37 (Some (Rem, 1))
    ∷ begins 37 0 (Some (Div, 1))
    ∷ begins 92 0 (Some (Div, 1))
    ∷ begins 42 42 (Some (Pow, 2))
    ∷ begins 47 47 (Some (Div, 2))
    ∷ []

abbrev pub wrong : List Claim
wrong = wrong_rows ++ (wrong_codes ++ wrong_symbols)

abbrev pub AllFalse : List Claim → Type 0
AllFalse = Every (λ c. Claimed c → ⊥)
