use mathlib.Core.Path.{◌≡◌}
use native.Mathlib.Omega.{arith}
use Rattle.std.specs.Prelude.{None}
use Rattle.texts.specs.HeldNames.{names_in}
use Rattle.texts.proofs.ClauseTrees.{tree_missing, tree_there}
use Rattle.texts.proofs.clause_trees.tree_at.Goals as goal

pub returns-in_err-t-clause-same : goal.returns-in_err-t-clause-same
returns-in_err-t-clause-same c =
    let a = c.args in
    let t = c.stored_tree in
    let gone : c.from_residual.result ≡ None = grind arith in
    rw gone (tree_missing (names_in a.names.now) a.n a.s.now a.at t.new.out (rw c.in_err-t.was at t.ensures.same))

pub returns-clause-same : goal.returns-clause-same
returns-clause-same c =
    let a = c.args in
    let t = c.stored_tree in
    tree_there (names_in a.names.now) a.n a.s.now a.at c.in_ok-t.t t.new.out (rw c.in_ok-t.was at t.ensures.same)
