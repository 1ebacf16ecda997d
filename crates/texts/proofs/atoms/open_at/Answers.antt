use native.Mathlib.Omega.{arith}
use Rattle.texts.proofs.AtomSteps.{open_end, open_zero, open_other, open_in}
use Rattle.texts.proofs.atoms.open_at.Goals as goal
use Rattle.texts.proofs.atoms.open_at.Goals.{
  else-at-s-via-then-at-s+then-b-ne0+else-s-at-eq40,
  else-at-s-via-then-at-s+else-b-ne0,
  else-at-s-via-else-at-s,
}

pub returns-then-s-at-eq40 : goal.returns-then-s-at-eq40
returns-then-s-at-eq40 c =
    let a = c.args in
    open_in a.s.now a.at a.b c.if-at-s.true c.if-b-ne0.true c.if-s-at-eq40.true

pub returns : goal.returns
returns c =
    let a = c.args in
    elim c.else-at-s.branch [
      | else-at-s-via-then-at-s+then-b-ne0+else-s-at-eq40 w ↦
          open_other a.s.now a.at a.b w.if-at-s.true w.if-s-at-eq40.false
      | else-at-s-via-then-at-s+else-b-ne0 w ↦
          open_zero a.s.now a.at a.b w.if-at-s.true (omega (arith, w.if-b-ne0.false))
      | else-at-s-via-else-at-s w ↦
          open_end a.s.now a.at a.b (omega (arith, w.if-at-s.false, c.requires))
    ]
