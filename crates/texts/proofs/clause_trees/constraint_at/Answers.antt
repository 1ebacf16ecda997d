use mathlib.Core.Path.{sym, ◌∙◌}
use Prim.Native.Nat.{◌+◌, ◌≤◌}
use lib.ListN.{length}
use Rattle.base.specs.Bytes.{bytes}
use Rattle.texts.specs.HeldNames.{names_in}
use Rattle.texts.proofs.FieldClauses.{clause_room}
use Rattle.texts.proofs.ClauseTrees.{constraint_yes, constraint_no, constraint_not_yet}
use Rattle.texts.proofs.clause_trees.constraint_at.Goals as goal
use Rattle.texts.proofs.clause_trees.constraint_at.Goals.{
  else-starts_at-via-then-starts_at+else-not-starts_at,
  else-starts_at-via-else-starts_at,
}

pub tree_at-requires : goal.tree_at-requires
tree_at-requires c =
    let a = c.args in
    let y = sym c.starts_at.ensures ∙ c.if-starts_at.true in
    let h : a.at + 2 ≤ length a.s.now = clause_room a.s.now a.at c.requires.0 (bytes "; ") y in
    (h, c.requires.1, c.requires.2, c.requires.3)

pub returns-then-not-starts_at-clause-same : goal.returns-then-not-starts_at-clause-same
returns-then-not-starts_at-clause-same c =
    let a = c.args in
    let t = c.tree_at in
    (constraint_yes (names_in a.names.now) a.n a.s.now a.at c.requires.0 _ t.result
    (sym c.starts_at-then-starts_at.ensures ∙ c.if-not-starts_at.true) (sym c.starts_at.ensures ∙ c.if-starts_at.true)
    t.ensures.place t.ensures.same).1

pub returns-clause-same : goal.returns-clause-same
returns-clause-same c =
    let a = c.args in
    elim c.else-starts_at.branch [
      | else-starts_at-via-then-starts_at+else-not-starts_at w ↦
          (constraint_not_yet (names_in a.names.now) a.n a.s.now a.at c.requires.0 a.out.now
          (sym w.starts_at-then-starts_at.ensures ∙ w.if-not-starts_at.false)).1
      | else-starts_at-via-else-starts_at w ↦
          (constraint_no (names_in a.names.now) a.n a.s.now a.at c.requires.0 a.out.now
          (sym c.starts_at.ensures ∙ w.if-starts_at.false)).1
    ]
