-- This file mirrors the code of src/trees.rt, test by test: no public promise rests on it.
use Rattle.std.specs.Prelude.{Bool, cond, List, ℕ, zero, suc, ◌+◌, ◌*◌, ◌-◌, eqb, ltb, length, get_or}
use Rattle.std.specs.Prelude.{Result, Ok, Err}
use Rattle.laws.specs.Places.{four_at}
use Rattle.rules.specs.declared.Op.{Op}
use Rattle.rules.specs.declared.ValueType.{ValueType}
use Rattle.rules.specs.declared.ValueType.TheVariants.{Number, YesNo}
use Rattle.rules.specs.declared.Fault.{Fault}
use Rattle.rules.specs.declared.Fault.TheVariants.{AbsentRead, OutOfRange}
use Rattle.rules.specs.Operators.{takes, gives}
use Rattle.rules.specs.Trees.{same_type}
use Rattle.rules.specs.Values.{Value, value, fault, yes_no, apply, decides}
use Rattle.operators.specs.declared.codes.Code.{Code}
use Rattle.operators.specs.Codes.{code_of}
use Rattle.packets.specs.declared.trees.Cursor.{Cursor}
use Rattle.packets.specs.declared.trees.Checked.{Checked}
use Rattle.packets.specs.declared.trees.Checked.TheVariants.{Typed, Bad}

abbrev pub cursor : ℕ → Cursor
cursor n = record { at = n }

-- the value of a tree with the place past it, or the fault of evaluating it
abbrev pub Evaluated : Type 0
Evaluated = Result (ℕ × Cursor) Fault

abbrev pub valued : ℕ → Cursor → Evaluated
valued x next = Ok (x, next)

-- ── checking ──

-- the field of index i may be read
abbrev pub marked : List ℕ → ℕ → Bool
marked marks i = eqb (get_or marks i 0) 1

abbrev pub check_number : List ℕ → ℕ → Checked
check_number s at = cond (ltb (length s - at) 5) Bad (Typed Number (cursor (at + 5)))

abbrev pub check_field : List ℕ → List ℕ → ℕ → Checked
check_field s marks at =
    cond (ltb (length s - at) 2) Bad (cond (marked marks (get_or s (at + 1) 0)) (Typed Number (cursor (at + 2))) Bad)

abbrev pub check_not : ValueType → Cursor → Checked
check_not k next = cond (same_type k YesNo) (Typed YesNo next) Bad

abbrev pub check_two : Op → ValueType → ValueType → Cursor → Checked
check_two o a b next = cond (same_type a (takes o)) (cond (same_type b (takes o)) (Typed (gives o) next) Bad) Bad

-- goes on with a checked tree's type and the place past it
abbrev pub on_tree : Checked → (ValueType → Cursor → Checked) → Checked
on_tree (Typed k next) f = f k next
on_tree Bad f = Bad

-- by the first byte; check checks an operand
abbrev pub check_code : Code → (ℕ → Checked) → List ℕ → List ℕ → ℕ → Checked
check_code Code.Number check s marks at = check_number s at
check_code Code.Field check s marks at = check_field s marks at
check_code (Code.Two o) check s marks at =
    on_tree (check (at + 1)) (λ a mid. on_tree (check mid.at) (λ b next. check_two o a b next))
check_code Code.Not check s marks at = on_tree (check (at + 1)) check_not
check_code Code.Other check s marks at = Bad

unfoldable pub check_at : ℕ → List ℕ → List ℕ → ℕ → Checked
check_at zero s marks at = Bad
check_at (suc d) s marks at =
    cond (ltb at (length s)) (check_code (code_of (get_or s at 0)) (check_at d s marks) s marks at) Bad

-- ── skipping ──

abbrev pub skip_over : List ℕ → ℕ → ℕ → ℕ
skip_over s n at = cond (ltb (length s - at) n) at (at + n)

abbrev pub skip_code : Code → (ℕ → ℕ) → List ℕ → ℕ → ℕ
skip_code Code.Number skip s at = skip_over s 5 at
skip_code Code.Field skip s at = skip_over s 2 at
skip_code (Code.Two o) skip s at = skip (skip (at + 1))
skip_code Code.Not skip s at = skip (at + 1)
skip_code Code.Other skip s at = at

unfoldable pub skip_at : ℕ → List ℕ → ℕ → ℕ
skip_at zero s at = at
skip_at (suc d) s at = cond (ltb at (length s)) (skip_code (code_of (get_or s at 0)) (skip_at d s) s at) at

-- ── evaluating ──

-- a value with the place past its tree
abbrev pub placed : Value → ℕ → Evaluated
placed (value n) next = valued n (cursor next)
placed (fault f) next = Err f

-- field i of a run of four numbers a field: present, offset, width, value
abbrev pub run_value : List ℕ → ℕ → Value
run_value run i = cond (eqb (get_or run (4 * i) 0) 1) (value (get_or run (4 * i + 3) 0)) (fault AbsentRead)

abbrev pub read_number : List ℕ → ℕ → Evaluated
read_number s at =
    cond (ltb (length s - at) 5) (Err OutOfRange) (valued (four_at s (at + 1)) (cursor (at + 5)))

abbrev pub read_field : List ℕ → List ℕ → ℕ → Evaluated
read_field s run at =
    cond (ltb (length s - at) 2) (Err OutOfRange) (placed (run_value run (get_or s (at + 1) 0)) (at + 2))

-- goes on with a value and the place past its tree
abbrev pub on_value : Evaluated → (ℕ → Cursor → Evaluated) → Evaluated
on_value (Ok r) f = f r.0 r.1
on_value (Err g) f = Err g

-- by the first byte; val evaluates an operand, skip goes past one
abbrev pub value_code : Code → (ℕ → Evaluated) → (ℕ → ℕ) → List ℕ → List ℕ → ℕ → Evaluated
value_code Code.Number val skip s run at = read_number s at
value_code Code.Field val skip s run at = read_field s run at
value_code (Code.Two o) val skip s run at =
    on_value (val (at + 1)) (λ x mid.
    cond (decides o x) (valued x (cursor (skip mid.at)))
    (on_value (val mid.at) (λ y next. placed (apply o x y) next.at)))
value_code Code.Not val skip s run at =
    on_value (val (at + 1)) (λ x next. valued (yes_no (eqb x 0)) next)
value_code Code.Other val skip s run at = Err OutOfRange

unfoldable pub value_at : ℕ → List ℕ → List ℕ → ℕ → Evaluated
value_at zero s run at = Err OutOfRange
value_at (suc d) s run at =
    cond (ltb at (length s)) (value_code (code_of (get_or s at 0)) (value_at d s run) (skip_at d s) s run at)
    (Err OutOfRange)
