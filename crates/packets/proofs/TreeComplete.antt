-- A tree that stands somewhere is found there, and skipped.
use mathlib.Core.Path.{◌≡◌, refl, sym, ◌∙◌, ap}
use mathlib.Core.Bool.{true}
use mathlib.Core.List.{List, [], ◌∷◌}
use Prim.Native.Nat.{ℕ, ◌+◌, ◌-◌, ◌≤◌}
use native.Mathlib.Omega.{arith}
use lib.ListN.{length, get_or}
use borrow.Author.Tests.{le-ltb}
use Rattle.laws.specs.Places.{Stands}
use Rattle.base.proofs.Lists.{and_left, and_right}
use Rattle.laws.proofs.Places.{stands_in, stands_byte, stands_rest, stands_left, stands_right, stands_some}
use Rattle.rules.specs.declared.ValueType.{ValueType}
use Rattle.rules.specs.declared.ValueType.TheVariants.{Number, YesNo}
use Rattle.rules.specs.Operators.{takes, gives}
use Rattle.rules.specs.Trees.{Tree, num, read, two, negation, le4, depth, stored_tree, is_in_range, same_type, has_type}
use Rattle.rules.specs.Stored.{stored_expression}
use Rattle.operators.specs.declared.codes.Code.{Code}
use Rattle.operators.specs.Codes.{code_of}
use Rattle.packets.specs.declared.trees.Checked.TheVariants.{Typed}
use Rattle.packets.specs.StoredTrees.{marked, check_code, check_at, skip_code, skip_at}
use Rattle.packets.proofs.TreeSteps.{check_step, skip_step}
use Rattle.operators.proofs.CodeLaws.{code_number, code_field, code_not, code_two}
use Rattle.packets.proofs.TreeTypes.{same_type_true, same_type_self}

-- the code of the byte where a list with this head stands
pub code_there : (s : List ℕ) (at b x : ℕ) (w : List ℕ) (k : Code) → Stands s at (x ∷ w) b → code_of x ≡ k
    → k ≡ code_of (get_or s at 0)
code_there s at b x w k p f = sym f ∙ ap code_of (sym (stands_byte s at b x w p))

-- ── found ──

check_there : (d : ℕ) (s marks : List ℕ) (at b x : ℕ) (w : List ℕ) (k : Code) → (d ≡ 0 → ⊥) → Stands s at (x ∷ w) b
    → code_of x ≡ k → check_at d s marks at ≡ check_code k (check_at (d - 1) s marks) s marks at
check_there d s marks at b x w k ne p f =
    check_step d s marks at ne (stands_in s at b x w p) (code_there s at b x w k p f) refl

pub check_complete : (d : ℕ) (s marks : List ℕ) (at : ℕ) (t : Tree ℕ) (ty : ValueType) (next : ℕ)
    → has_type (marked marks) ty t ≡ true → is_in_range t ≡ true → depth t ≤ d
    → Stands s at (stored_expression t) next → check_at d s marks at ≡ Typed ty (record { at = next })
unfolding stored_tree depth is_in_range has_type le4
check_complete d s marks at (num n) ty next h r le p =
    let k = same_type_true ty Number h in
    let in_s = stands_some s at next _ _ p in
    let five : next ≡ at + 5 = p.end in
    check_there d s marks at next _ _ Code.Number (omega arith) p code_number
    ∙ rw (le-ltb (length s - at) 5 (omega arith), k, five)
check_complete d s marks at (read i) ty next h r le p =
    let k = same_type_true ty Number (and_left (same_type ty Number) (marked marks i) h) in
    let may = and_right (same_type ty Number) (marked marks i) h in
    let in_s = stands_some s at next _ _ p in
    let byte = stands_byte s (at + 1) next i [] (stands_rest s at next _ _ p) in
    let two : next ≡ at + 2 = p.end in
    check_there d s marks at next _ _ Code.Field (omega arith) p code_field
    ∙ rw (le-ltb (length s - at) 2 (omega arith), byte, may, k, two)
check_complete d s marks at (two o a b) ty next h r le p =
    let m = marked marks in
    let k = same_type_true ty (gives o) (and_left (same_type ty (gives o)) _ h) in
    let both = and_right (same_type ty (gives o)) _ h in
    let l = stored_expression a in
    let q = stands_rest s at next _ _ p in
    let left = check_complete (d - 1) s marks (at + 1) a (takes o) (at + 1 + length l)
    (and_left (has_type m (takes o) a) (has_type m (takes o) b) both)
    (and_left (is_in_range a) (is_in_range b) r) (omega arith) (stands_left s (at + 1) next l _ q) in
    let right = check_complete (d - 1) s marks (at + 1 + length l) b (takes o) next
    (and_right (has_type m (takes o) a) (has_type m (takes o) b) both)
    (and_right (is_in_range a) (is_in_range b) r) (omega arith) (stands_right s (at + 1) next l _ q) in
    check_there d s marks at next _ _ (Code.Two o) (omega arith) p (code_two o)
    ∙ rw (left, right, same_type_self (takes o), k)
check_complete d s marks at (negation a) ty next h r le p =
    let k = same_type_true ty YesNo (and_left (same_type ty YesNo) _ h) in
    let part = check_complete (d - 1) s marks (at + 1) a YesNo next (and_right (same_type ty YesNo) _ h) r (omega arith)
    (stands_rest s at next _ _ p) in
    check_there d s marks at next _ _ Code.Not (omega arith) p code_not ∙ rw (part, k)

-- ── skipped ──

skip_there : (d : ℕ) (s : List ℕ) (at b x : ℕ) (w : List ℕ) (k : Code) → (d ≡ 0 → ⊥) → Stands s at (x ∷ w) b
    → code_of x ≡ k → skip_at d s at ≡ skip_code k (skip_at (d - 1) s) s at
skip_there d s at b x w k ne p f = skip_step d s at ne (stands_in s at b x w p) (code_there s at b x w k p f) refl

pub skip_stored : (d : ℕ) (s : List ℕ) (at : ℕ) (t : Tree ℕ) (next : ℕ) → depth t ≤ d
    → Stands s at (stored_expression t) next → skip_at d s at ≡ next
unfolding stored_tree depth le4
skip_stored d s at (num n) next le p =
    let in_s = stands_some s at next _ _ p in
    let five : next ≡ at + 5 = p.end in
    skip_there d s at next _ _ Code.Number (omega arith) p code_number
    ∙ rw (le-ltb (length s - at) 5 (omega arith), five)
skip_stored d s at (read i) next le p =
    let in_s = stands_some s at next _ _ p in
    let two : next ≡ at + 2 = p.end in
    skip_there d s at next _ _ Code.Field (omega arith) p code_field
    ∙ rw (le-ltb (length s - at) 2 (omega arith), two)
skip_stored d s at (two o a b) next le p =
    let l = stored_expression a in
    let q = stands_rest s at next _ _ p in
    let there = stands_left s (at + 1) next l _ q in
    let left = skip_stored (d - 1) s (at + 1) a (at + 1 + length l) (omega arith) there in
    let right = skip_stored (d - 1) s (at + 1 + length l) b next (omega arith) (stands_right s (at + 1) next l _ q) in
    skip_there d s at next _ _ (Code.Two o) (omega arith) p (code_two o) ∙ rw (left, right)
skip_stored d s at (negation a) next le p =
    skip_there d s at next _ _ Code.Not (omega arith) p code_not
    ∙ skip_stored (d - 1) s (at + 1) a next (omega arith) (stands_rest s at next _ _ p)
