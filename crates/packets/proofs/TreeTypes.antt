-- What an operator's row says of types and of what settles it, and equal types.
use mathlib.Core.Path.{◌≡◌, refl, sym, ◌∙◌}
use mathlib.Core.Bool.{Bool, true}
use Prim.Native.Nat.{ℕ}
use denote.Enum.Bare.{sameb}
use Rattle.rules.specs.contracts.ValueType.{the_type}
use Rattle.rules.specs.declared.Op.{Op}
use Rattle.rules.specs.declared.ValueType.{ValueType}
use Rattle.rules.specs.declared.ValueType.TheVariants.{Number, YesNo}
use Rattle.rules.specs.Operators.{takes, gives}
use Rattle.rules.specs.Trees.{same_type}
use Rattle.rules.specs.declared.Decider.{Decider}
use Rattle.rules.specs.Values.{decides_by, decides}
use Rattle.operators.specs.declared.rows.Row.{Row}
use Rattle.operators.specs.Rows.{row_of}

-- ── operators ──

pub settled_by : (o : Op) (x : ℕ) {r : Row} {d : Decider} → r ≡ row_of o → r.decider ≡ d
    → decides_by d x ≡ decides o x
unfolding decides row_of
settled_by o x e f = rw (← f, e)

pub types_of : (o : Op) {r : Row} → r ≡ row_of o → (r.takes ≡ takes o) × (r.gives ≡ gives o)
unfolding row_of
types_of o e = (rw e, rw e)

-- ── equal types ──

derived_same : (a b : ValueType) → sameb the_type a b ≡ same_type a b
derived_same Number Number = refl
derived_same Number YesNo = refl
derived_same YesNo Number = refl
derived_same YesNo YesNo = refl

-- what a derived equality answered
pub type_test : (a b : ValueType) {r q : Bool} → r ≡ sameb the_type a b → r ≡ q → same_type a b ≡ q
type_test a b e f = sym (derived_same a b) ∙ sym e ∙ f

pub same_type_true : (a b : ValueType) → same_type a b ≡ true → a ≡ b
same_type_true Number Number e = refl
same_type_true Number YesNo e = cc
same_type_true YesNo Number e = cc
same_type_true YesNo YesNo e = refl

pub same_type_self : (a : ValueType) → same_type a a ≡ true
same_type_self Number = refl
same_type_self YesNo = refl
