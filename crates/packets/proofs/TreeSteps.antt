-- One step of checking, skipping and evaluating, from the tests that the code makes.
use mathlib.Core.Path.{◌≡◌, refl}
use mathlib.Core.List.{List}
use Prim.Native.Nat.{ℕ, zero, suc, ◌-◌, ◌<◌, ◌≤◌}
use native.Mathlib.Numerals.{sub-one}
use lib.ListN.{length, get_or}
use borrow.Author.Tests.{lt-ltb, le-ltb}
use Rattle.rules.specs.declared.Fault.{Fault}
use Rattle.operators.specs.declared.codes.Code.{Code}
use Rattle.operators.specs.Codes.{code_of}
use Rattle.std.proofs.Common.{Err}
use Rattle.packets.specs.declared.trees.Checked.TheVariants.{Bad}
use Rattle.packets.specs.StoredTrees.{check_at, check_code, skip_at, skip_code, value_at, value_code}

pub check_none : (d : ℕ) (s marks : List ℕ) (at : ℕ) → d ≡ 0 → check_at d s marks at ≡ Bad
unfolding check_at
check_none d s marks at e = rw e

pub check_past : (d : ℕ) (s marks : List ℕ) (at : ℕ) → length s ≤ at → check_at d s marks at ≡ Bad
unfolding check_at
check_past zero s marks at le = refl
check_past (suc d) s marks at le = rw (le-ltb _ _ le)

-- r is the code of the byte, and is k
pub check_step : (d : ℕ) (s marks : List ℕ) (at : ℕ) {r k : Code} → (d ≡ 0 → ⊥) → at < length s
    → r ≡ code_of (get_or s at 0) → r ≡ k → check_at d s marks at ≡ check_code k (check_at (d - 1) s marks) s marks at
unfolding check_at
check_step zero s marks at ne lt e f = absurd (ne refl)
check_step (suc d) s marks at ne lt e f = rw (sub-one, lt-ltb _ _ lt, ← e, f)

pub skip_none : (d : ℕ) (s : List ℕ) (at : ℕ) → d ≡ 0 → skip_at d s at ≡ at
unfolding skip_at
skip_none d s at e = rw e

pub skip_past : (d : ℕ) (s : List ℕ) (at : ℕ) → length s ≤ at → skip_at d s at ≡ at
unfolding skip_at
skip_past zero s at le = refl
skip_past (suc d) s at le = rw (le-ltb _ _ le)

pub skip_step : (d : ℕ) (s : List ℕ) (at : ℕ) {r k : Code} → (d ≡ 0 → ⊥) → at < length s
    → r ≡ code_of (get_or s at 0) → r ≡ k → skip_at d s at ≡ skip_code k (skip_at (d - 1) s) s at
unfolding skip_at
skip_step zero s at ne lt e f = absurd (ne refl)
skip_step (suc d) s at ne lt e f = rw (sub-one, lt-ltb _ _ lt, ← e, f)

pub value_none : (d : ℕ) (s run : List ℕ) (at : ℕ) → d ≡ 0 → value_at d s run at ≡ Err Fault.OutOfRange
unfolding value_at
value_none d s run at e = rw e

pub value_past : (d : ℕ) (s run : List ℕ) (at : ℕ) → length s ≤ at
    → value_at d s run at ≡ Err Fault.OutOfRange
unfolding value_at
value_past zero s run at le = refl
value_past (suc d) s run at le = rw (le-ltb _ _ le)

pub value_step : (d : ℕ) (s run : List ℕ) (at : ℕ) {r k : Code} → (d ≡ 0 → ⊥) → at < length s
    → r ≡ code_of (get_or s at 0) → r ≡ k
    → value_at d s run at ≡ value_code k (value_at (d - 1) s run) (skip_at (d - 1) s) s run at
unfolding value_at
value_step zero s run at ne lt e f = absurd (ne refl)
value_step (suc d) s run at ne lt e f = rw (sub-one, lt-ltb _ _ lt, ← e, f)

-- ── what a function is told at its steps ──

pub ruleset check_steps = (check_none, check_past, check_step)

pub ruleset skip_steps = (skip_none, skip_past, skip_step)

pub ruleset value_steps = (value_none, value_past, value_step)
