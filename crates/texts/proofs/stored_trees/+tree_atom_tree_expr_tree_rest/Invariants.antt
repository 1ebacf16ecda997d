use mathlib.Core.Path.{◌≡◌}
use Prim.Native.Nat.{◌<◌, ◌≤◌, ◌+◌, ◌*◌, ◌-◌}
use lib.ListN.{length}
use Rattle.std.specs.Prelude.{Option}
use Rattle.rules.specs.Operators.{atom_level}
use Rattle.texts.specs.HeldNames.{names_in}
use Rattle.texts.specs.StoredTrees.{TreeBytes, held}
use Rattle.texts.specs.StoredPlaces.{MoreStored}
use Rattle.texts.specs.Chains.{tightest_level, no_chain, ChainStored}
use Rattle.texts.proofs.stored_trees.+tree_atom_tree_expr_tree_rest.Given as goal

abbrev pub decreases-tree_atom : goal.decreases-tree_atom
decreases-tree_atom l = 2 * (length l.s.now - l.at) + 0

abbrev pub decreases-tree_expr : goal.decreases-tree_expr
decreases-tree_expr l = 2 * (length l.s.now - l.at) + 1

abbrev pub decreases-tree_rest : goal.decreases-tree_rest
decreases-tree_rest l = 2 * (length l.s.now - l.at) + 0

abbrev pub invariant-tree_expr-loop-a : goal.invariant-tree_expr-loop-a
invariant-tree_expr-loop-a l =
    (length l.out ≡ length l.initial.out) × ChainStored (names_in l.names) l.n l.s l.at l.k l.b l.c l.out ×
    (l.k < tightest_level → l.c ≡ no_chain l.at)

abbrev pub decreases-tree_expr-loop-a : goal.decreases-tree_expr-loop-a
decreases-tree_expr-loop-a l = length l.s - l.c.next

abbrev pub invariant-tree_rest-loop-out : goal.invariant-tree_rest-loop-out
invariant-tree_rest-loop-out l =
    (l.at ≤ l.p.next) × (l.p.next ≤ length l.s) × (l.p.len + 5 * l.at ≤ l.initial.p.len + 5 * l.p.next) ×
    (l.p.depth ≤ l.p.len) × (length l.out ≡ length l.initial.out) ×
    ((q : Option TreeBytes) → MoreStored (names_in l.names) l.n l.s l.p.next l.k l.level l.b (held l.p l.out) q
    → MoreStored (names_in l.names) l.n l.s l.at l.k atom_level l.b (held l.initial.p l.initial.out) q) ×
    (tightest_level ≤ l.k → (l.p ≡ l.initial.p) × (l.level ≡ atom_level) × (l.out ≡ l.initial.out))

abbrev pub decreases-tree_rest-loop-out : goal.decreases-tree_rest-loop-out
decreases-tree_rest-loop-out l = length l.s - l.p.next
