use mathlib.Core.Path.{sym, ◌∙◌}
use Prim.Native.Nat.{◌+◌, ◌≤◌}
use lib.ListN.{length}
use Rattle.base.specs.Bytes.{bytes}
use Rattle.texts.specs.HeldNames.{names_in}
use Rattle.texts.proofs.FieldClauses.{clause_room}
use Rattle.texts.proofs.ClauseTrees.{condition_yes, condition_no}
use Rattle.texts.proofs.clause_trees.condition_at.Goals as goal

pub tree_at-requires : goal.tree_at-requires
tree_at-requires c =
    let a = c.args in
    let y = sym c.starts_at.ensures ∙ c.if-starts_at.true in
    let h : a.at + 20 ≤ length a.s.now = clause_room a.s.now a.at c.requires.0 (bytes "; present only when ") y in
    (h, c.requires.1, c.requires.2, c.requires.3)

pub returns-then-starts_at-clause-same : goal.returns-then-starts_at-clause-same
returns-then-starts_at-clause-same c =
    let a = c.args in
    let t = c.tree_at in
    (condition_yes (names_in a.names.now) a.n a.s.now a.at c.requires.0 _ t.result
    (sym c.starts_at.ensures ∙ c.if-starts_at.true) t.ensures.place t.ensures.same).1

pub returns-clause-same : goal.returns-clause-same
returns-clause-same c =
    let a = c.args in
    (condition_no (names_in a.names.now) a.n a.s.now a.at c.requires.0 a.out.now
    (sym c.starts_at.ensures ∙ c.if-starts_at.false)).1
