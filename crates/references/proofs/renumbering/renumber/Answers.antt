use mathlib.Core.Path.{refl, sym, ◌∙◌}
use Prim.Native.Nat.{◌+◌}
use native.Mathlib.Omega.{arith}
use lib.ListN.{length-set}
use Rattle.references.specs.Renumbered.{new_index}
use Rattle.references.proofs.RenumberLaws.{renumber_field, renumber_other, renumber_cut, renumber_end}
use Rattle.references.proofs.renumbering.renumber.Goals as goal

pub loop-at-init : goal.loop-at-init
loop-at-init c =
    (omega arith, refl, refl)

pub returns-then-expression-at-lt2 : goal.returns-then-expression-at-lt2
returns-then-expression-at-lt2 c =
    sym (c.loop-at.invariant.2 ∙ renumber_cut (new_index c.args.shift)
    c.loop-at.expression
    c.loop-at.at (omega arith) (omega arith))

pub loop-at-preserved-else-expression-at-lt2 : goal.loop-at-preserved-else-expression-at-lt2
loop-at-preserved-else-expression-at-lt2 c =
    let e = c.loop-at.expression in
    let more = renumber_field (new_index c.args.shift) e c.loop-at.at (omega arith)
    c.next_code-next.result c.new_index.result
    (omega arith) c.next_code-next.ensures.2
    c.if-expression-at-eq-FIELD_CODE.true c.next_code-next.ensures.0
    c.new_index.ensures in
    let size = length-set e (c.loop-at.at + 1) c.new_index.result in (
      omega (arith, size, c.next_code-next.ensures.2),
      size ∙ c.loop-at.invariant.1,
      c.loop-at.invariant.2 ∙ more,
    )

pub loop-at-preserved : goal.loop-at-preserved
loop-at-preserved c =
    let more = renumber_other (new_index c.args.shift)
    c.loop-at.expression c.loop-at.at (omega arith) c.next_code-next.result
    c.if-expression-at-eq-FIELD_CODE.false c.next_code-next.ensures.0 in (
      c.next_code-next.ensures.2,
      c.loop-at.invariant.1,
      c.loop-at.invariant.2 ∙ more,
    )

pub returns : goal.returns
returns c =
    sym (c.loop-at.invariant.2 ∙ renumber_end (new_index c.args.shift)
    c.loop-at.expression c.loop-at.at (omega arith))
