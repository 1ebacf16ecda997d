use mathlib.Core.Path.{◌≡◌, sym, ◌∙◌}
use native.Mathlib.Omega.{arith}
use native.Mathlib.Nat.{sub-zero, zero-add}
use Rattle.packets.proofs.StepLaws.{later_step, later_end}
use Rattle.packets.proofs.steps.later_bits.Goals as goal

pub loop-init : goal.loop-init
loop-init c = (omega arith, simp (sub-zero, zero-add))

pub overflow_add-sum : goal.overflow_add-sum
overflow_add-sum c = omega (arith, c.fixed_bits-sum.ensures.1)

pub loop-preserved : goal.loop-preserved
loop-preserved c =
    let a = c.args in
    let l = c.loop in
    let fixed_bits = c.fixed_bits-sum in
    let h = later_step a.table.now a.n l.counter l.sum l.at (omega arith) in (
      omega (arith, fixed_bits.ensures.1),
      l.invariant.1 ∙ h ∙ rw (fixed_bits.ensures.0, c.record_at-p.ensures),
    )

pub returns : goal.returns
returns c =
    let a = c.args in
    let l = c.loop in
    let e : l.counter ≡ a.n = omega arith in
    let h = rw e at l.invariant.1 in
    (sym (h ∙ later_end a.table.now a.n l.sum l.at), omega arith)
