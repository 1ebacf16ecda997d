-- The first byte of a stored expression: from a code to its byte, and back.
use mathlib.Core.Path.{◌≡◌, refl}
use mathlib.Core.Bool.{Bool, true, false, cond}
use mathlib.Core.List.{List, [], ◌∷◌}
use Prim.Native.Nat.{ℕ}
use lib.Dec.{eqb}
use borrow.Author.Tests.{eqb-true}
use Rattle.rules.specs.declared.Op.{Op}
use Rattle.rules.specs.declared.Op.TheVariants.{Or, And, Eq, Ne, Lt, Le, Gt, Ge, Add, Sub, Mul, Div, Rem, Pow}
use Rattle.rules.specs.Operators.{operator, operators, code, number_code, field_code, not_code}
use Rattle.operators.specs.declared.codes.Code.{Code}
use Rattle.operators.specs.Codes.{code_in, code_of}

-- ── from a code to its byte ──

-- the byte that a code stands for
abbrev pub Codes : ℕ → Code → Type 0
Codes c Code.Number = c ≡ number_code
Codes c Code.Field = c ≡ field_code
Codes c (Code.Two o) = c ≡ code o
Codes c Code.Not = c ≡ not_code
Codes c Code.Other = Unit {0}

picked : (c k : ℕ) (x y : Code) → (c ≡ k → Codes c x) → Codes c y → Codes c (cond (eqb c k) x y)
picked c k x y f g = go (eqb c k) refl
  where
    go : (b : Bool) → eqb c k ≡ b → Codes c (cond b x y)
    go true e = f (eqb-true c k e)
    go false e = g

codes_in : (l : List Op) (c : ℕ) → Codes c (code_in l c)
unfolding code_in
codes_in [] c = tt
codes_in (o ∷ l) c = picked c (code o) (Code.Two o) (code_in l c) (λ e. e) (codes_in l c)

pub codes : (c : ℕ) → Codes c (code_of c)
unfolding code_of
codes c =
    picked c number_code _ _ (λ e. e)
    (picked c field_code _ _ (λ e. e) (picked c not_code _ _ (λ e. e) (codes_in operators c)))

-- ── from a byte to its code ──

pub code_number : code_of number_code ≡ Code.Number
unfolding code_of
code_number = refl

pub code_field : code_of field_code ≡ Code.Field
unfolding code_of
code_field = refl

pub code_not : code_of not_code ≡ Code.Not
unfolding code_of
code_not = refl

pub code_two : (o : Op) → code_of (code o) ≡ Code.Two o
unfolding code_of code_in operator operators
code_two Or = refl
code_two And = refl
code_two Eq = refl
code_two Ne = refl
code_two Lt = refl
code_two Le = refl
code_two Gt = refl
code_two Ge = refl
code_two Add = refl
code_two Sub = refl
code_two Mul = refl
code_two Div = refl
code_two Rem = refl
code_two Pow = refl
