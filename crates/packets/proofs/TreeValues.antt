-- Evaluating a tree that stands somewhere gives the tree's value.
use mathlib.Core.Path.{◌≡◌, refl, ◌∙◌}
use mathlib.Core.Bool.{Bool, true, false, cond}
use mathlib.Core.List.{List, [], ◌∷◌}
use Prim.Native.Nat.{ℕ, ◌+◌, ◌-◌, ◌≤◌}
use native.Mathlib.Omega.{arith}
use lib.Dec.{eqb}
use lib.ListN.{length}
use borrow.Author.Tests.{le-ltb, leb-true}
use Rattle.laws.specs.Places.{Stands}
use Rattle.base.proofs.Lists.{and_left, and_right}
use Rattle.laws.proofs.Places.{stands_in, stands_byte, stands_rest, stands_left, stands_right, stands_some}
use Rattle.laws.proofs.PlacesOfNumbers.{length_le4, stands_four}
use Rattle.rules.specs.declared.Op.{Op}
use Rattle.rules.specs.declared.ValueType.{ValueType}
use Rattle.rules.specs.declared.ValueType.TheVariants.{Number, YesNo}
use Rattle.rules.specs.Limits.{number_most}
use Rattle.rules.specs.Operators.{takes, gives}
use Rattle.rules.specs.Trees.{Tree, num, read, two, negation, depth, stored_tree, is_in_range, same_type, has_type}
use Rattle.rules.specs.Values.{
  Value,
  value,
  fault,
  apply,
  decides,
  with_right,
  with_left,
  opposite,
  yes_no,
  evaluate_by,
  evaluate,
}
use Rattle.rules.specs.Stored.{stored_expression}
use Rattle.operators.specs.declared.codes.Code.{Code}
use Rattle.operators.specs.Codes.{code_of}
use Rattle.packets.specs.StoredTrees.{Evaluated, valued, cursor, skip_at, placed}
use Rattle.packets.specs.StoredTrees.{run_value, on_value, value_code, value_at}
use Rattle.packets.proofs.TreeSteps.{value_step}
use Rattle.operators.proofs.CodeLaws.{code_number, code_field, code_not, code_two}
use Rattle.packets.proofs.TreeComplete.{code_there, skip_stored}

-- ── operands' values ──

not_placed : (v : Value) (next : ℕ)
    → on_value (placed v next) (λ x n. valued (yes_no (eqb x 0)) n) ≡ placed (opposite v) next
not_placed (value x) next = refl
not_placed (fault f) next = refl

right_placed : (o : Op) (x : ℕ) (v : Value) (next : ℕ)
    → on_value (placed v next) (λ y n. placed (apply o x y) n.at) ≡ placed (with_right apply o x v) next
right_placed o x (value y) next = refl
right_placed o x (fault f) next = refl

two_placed : (o : Op) (v w : Value) (mid next : ℕ) (val : ℕ → Evaluated) (skip : ℕ → ℕ)
    → val mid ≡ placed w next → skip mid ≡ next
    → on_value (placed v mid) (λ x m.
    cond (decides o x) (valued x (cursor (skip m.at)))
    (on_value (val m.at) (λ y n. placed (apply o x y) n.at)))
    ≡ placed (with_left apply o v w) next
two_placed o (value x) w mid next val skip e f = go (decides o x)
  where
    go : (b : Bool)
        → cond b (valued x (cursor (skip mid))) (on_value (val mid) (λ y n. placed (apply o x y) n.at))
        ≡ placed (cond b (value x) (with_right apply o x w)) next
    go true = rw f
    go false = rw e (right_placed o x w next)
two_placed o (fault g) w mid next val skip e f = refl

-- ── a stored tree's value ──

value_there : (d : ℕ) (s run : List ℕ) (at b x : ℕ) (w : List ℕ) (k : Code) → (d ≡ 0 → ⊥) → Stands s at (x ∷ w) b
    → code_of x ≡ k → value_at d s run at ≡ value_code k (value_at (d - 1) s run) (skip_at (d - 1) s) s run at
value_there d s run at b x w k ne p f =
    value_step d s run at ne (stands_in s at b x w p) (code_there s at b x w k p f) refl

pub value_stored : (d : ℕ) (s run : List ℕ) (at : ℕ) (t : Tree ℕ) (next : ℕ) → is_in_range t ≡ true → depth t ≤ d
    → Stands s at (stored_expression t) next → value_at d s run at ≡ placed (evaluate (run_value run) t) next
unfolding stored_tree depth is_in_range evaluate_by
value_stored d s run at (num n) next r le p =
    let rest = stands_rest s at next _ _ p in
    let in_s = stands_some s at next _ _ p in
    let four = stands_four s (at + 1) next n rest (leb-true n number_most r) in
    let five : next ≡ at + 5 = omega (arith, p.end, length_le4 n) in
    value_there d s run at next _ _ Code.Number (omega arith) p code_number
    ∙ rw (le-ltb (length s - at) 5 (omega arith), four, five)
value_stored d s run at (read i) next r le p =
    let in_s = stands_some s at next _ _ p in
    let byte = stands_byte s (at + 1) next i [] (stands_rest s at next _ _ p) in
    let two : next ≡ at + 2 = p.end in
    value_there d s run at next _ _ Code.Field (omega arith) p code_field
    ∙ rw (le-ltb (length s - at) 2 (omega arith), byte, two)
value_stored d s run at (two o a b) next r le p =
    let env = run_value run in
    let l = stored_expression a in
    let mid = at + 1 + length l in
    let q = stands_rest s at next _ _ p in
    let there = stands_right s (at + 1) next l _ q in
    let left = value_stored (d - 1) s run (at + 1) a mid (and_left (is_in_range a) (is_in_range b) r) (omega arith)
    (stands_left s (at + 1) next l _ q) in
    let right = value_stored (d - 1) s run mid b next (and_right (is_in_range a) (is_in_range b) r) (omega arith)
    there in
    let past = skip_stored (d - 1) s mid b next (omega arith) there in
    value_there d s run at next _ _ (Code.Two o) (omega arith) p (code_two o)
    ∙ rw left
    (two_placed o (evaluate env a) (evaluate env b) mid next (value_at (d - 1) s run) (skip_at (d - 1) s) right past)
value_stored d s run at (negation a) next r le p =
    let part = value_stored (d - 1) s run (at + 1) a next r (omega arith) (stands_rest s at next _ _ p) in
    value_there d s run at next _ _ Code.Not (omega arith) p code_not
    ∙ rw part (not_placed (evaluate (run_value run) a) next)

-- ── what a tree may not read does not matter ──

pub evaluate_agree : (may : ℕ → Bool) (ty : ValueType) (t : Tree ℕ) (e f : ℕ → Value) → has_type may ty t ≡ true
    → ((i : ℕ) → may i ≡ true → e i ≡ f i) → evaluate e t ≡ evaluate f t
unfolding has_type evaluate_by
evaluate_agree may ty (num n) e f h same = refl
evaluate_agree may ty (read i) e f h same = same i (and_right (same_type ty Number) (may i) h)
evaluate_agree may ty (two o a b) e f h same =
    let k = takes o in
    let both = and_right (same_type ty (gives o)) _ h in
    let l = evaluate_agree may k a e f (and_left (has_type may k a) (has_type may k b) both) same in
    let r = evaluate_agree may k b e f (and_right (has_type may k a) (has_type may k b) both) same in
    rw (l, r)
evaluate_agree may ty (negation a) e f h same =
    rw (evaluate_agree may YesNo a e f (and_right (same_type ty YesNo) (has_type may YesNo a) h) same)
