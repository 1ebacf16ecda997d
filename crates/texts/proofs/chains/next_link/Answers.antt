use native.Mathlib.Omega.{arith}
use Rattle.texts.proofs.OperatorRows.{row_code}
use Rattle.texts.proofs.ChainSteps.{link_goes}
use Rattle.texts.proofs.chains.next_link.Goals as goal

pub returns-in-Some : goal.returns-in-Some
returns-in-Some c =
    let a = c.args in
    let p = c.put_first in
    link_goes a.g a.c a.a a.out.now c.in-Some.t c.in-Some.is _
    c.pushed-d.ensures c.min-from.result
    (omega (arith, c.min-from.ensures)) (λ h. omega (arith, h, c.min-from.ensures)) _ p.auto.out
    c.operator-row.result.code
    (row_code _ c.in-Some.t.op c.operator-row.ensures) p.ensures
