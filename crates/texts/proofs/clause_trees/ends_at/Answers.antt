use mathlib.Core.Path.{◌≡◌, sym, ◌∙◌}
use native.Mathlib.Omega.{arith}
use Rattle.std.specs.Prelude.{None}
use Rattle.base.specs.Bytes.{bytes}
use Rattle.texts.specs.HeldNames.{names_in}
use Rattle.texts.proofs.FieldClauses.{clause_room}
use Rattle.texts.proofs.ClauseTrees.{ends_none, ends_later, ends_unstopped, ends_remark, ends_whole}
use Rattle.texts.proofs.clause_trees.ends_at.Goals as goal
use Rattle.texts.proofs.clause_trees.ends_at.Goals.{
  else-starts_at-via-then-starts_at+else-remark_ok,
  else-starts_at-via-else-starts_at,
}

pub returns-in_err-constraint : goal.returns-in_err-constraint
returns-in_err-constraint c =
    let a = c.args in
    let gone : c.from_residual.result ≡ None = grind arith in
    rw gone (ends_none a.s.now a.at (rw c.in_err-constraint.was at c.constraint_at.ensures.same))

pub returns-in_err-condition : goal.returns-in_err-condition
returns-in_err-condition c =
    let a = c.args in
    let gone : c.from_residual-in_err-condition.result ≡ None = grind arith in
    rw gone (ends_later (names_in a.names.now) a.n a.s.now a.at c.in_ok-constraint.constraint c.in_ok-constraint.next _
    (rw c.in_ok-constraint.was at c.constraint_at.ensures.same)
    (rw c.in_err-condition.was at c.condition_at.ensures.same))

pub remark_ok-requires : goal.remark_ok-requires
remark_ok-requires c =
    clause_room c.args.s.now c.in_ok-condition.end
    (rw c.in_ok-condition.was at c.condition_at.ensures.place).1 (bytes ".")
    (sym c.starts_at.ensures ∙ c.if-starts_at.true)

pub returns-then-remark_ok : goal.returns-then-remark_ok
returns-then-remark_ok c =
    let a = c.args in
    ends_whole (names_in a.names.now) a.n a.s.now a.at c.in_ok-constraint.constraint c.in_ok-constraint.next _
    (rw c.in_ok-constraint.was at c.constraint_at.ensures.same) c.in_ok-condition.condition c.in_ok-condition.end _
    (rw c.in_ok-condition.was at c.condition_at.ensures.same)
    (rw c.in_ok-condition.was at c.condition_at.ensures.place).1
    (sym c.starts_at.ensures ∙ c.if-starts_at.true) (sym c.remark_ok.ensures ∙ c.if-remark_ok.true)

pub returns : goal.returns
returns c =
    let a = c.args in
    let x = rw c.in_ok-constraint.was at c.constraint_at.ensures.same in
    let y = rw c.in_ok-condition.was at c.condition_at.ensures.same in
    let le = (rw c.in_ok-condition.was at c.condition_at.ensures.place).1 in
    elim c.else-starts_at.branch [
      | else-starts_at-via-then-starts_at+else-remark_ok w ↦
          ends_remark (names_in a.names.now) a.n a.s.now a.at c.in_ok-constraint.constraint c.in_ok-constraint.next
          _ x c.in_ok-condition.condition c.in_ok-condition.end _ y le
          (sym c.starts_at.ensures ∙ w.if-starts_at.true) (sym w.remark_ok.ensures ∙ w.if-remark_ok.false)
      | else-starts_at-via-else-starts_at w ↦
          ends_unstopped (names_in a.names.now) a.n a.s.now a.at c.in_ok-constraint.constraint
          c.in_ok-constraint.next _ x c.in_ok-condition.condition c.in_ok-condition.end _ y le
          (sym c.starts_at.ensures ∙ w.if-starts_at.false)
    ]
