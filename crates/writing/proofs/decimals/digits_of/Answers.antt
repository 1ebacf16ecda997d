use mathlib.Core.Path.{◌≡◌, ◌∙◌}
use native.Mathlib.Omega.{arith}
use lib.ListN.{length-set}
use Rattle.base.specs.Bytes.{digits}
use Rattle.writing.proofs.DigitLaws.{digits_first, digits_next}
use Rattle.writing.proofs.decimals.digits_of.Goals as goal

pub returns-then-left-lt10 : goal.returns-then-left-lt10
returns-then-left-lt10 c =
    let l = c.loop-start in (
      digits_first l.start l.left l.text (omega arith) (omega arith) (omega arith) ∙ l.invariant.1,
      omega arith,
      rw length-set l.invariant.0,
    )

pub loop-start-preserved : goal.loop-start-preserved
loop-start-preserved c =
    let l = c.loop-start in (
      rw length-set l.invariant.0,
      digits_next l.start l.left l.text (omega arith) (omega arith) (omega arith) ∙ l.invariant.1,
    )

pub returns : goal.returns
unfolding digits
returns c =
    let l = c.loop-start in
    let e : l.start ≡ 0 = omega arith in
    (rw e at l.invariant.1, omega arith, l.invariant.0)
