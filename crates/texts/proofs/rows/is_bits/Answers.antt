use mathlib.Core.Path.{sym, ◌∙◌}
use native.Mathlib.Omega.{arith}
use Rattle.texts.proofs.RowTests.{fits_start, fits_none, fits_stop, fits_next, fits_end}
use Rattle.texts.proofs.rows.is_bits.Goals as goal

pub loop-at-init : goal.loop-at-init
loop-at-init c = (omega arith, omega arith, fits_start c.args.w c.args.l.now)

pub returns-then-e-l : goal.returns-then-e-l
returns-then-e-l c =
    let a = c.args in
    let p = c.part_end-e in
    let v = c.loop-at in
    sym (v.invariant.2 ∙ fits_none a.w a.l.now v.at v.bits p.result p.ensures.first
    (omega arith) (omega arith) (omega arith))

pub returns-then-e-at-eq0 : goal.returns-then-e-at-eq0
returns-then-e-at-eq0 c =
    let a = c.args in
    let p = c.part_end-e in
    let v = c.loop-at in
    sym (v.invariant.2 ∙ fits_stop a.w a.l.now v.at v.bits p.result p.ensures.first
    (omega arith) c.requires c.if-e-at-eq0.true)

pub loop-at-preserved : goal.loop-at-preserved
loop-at-preserved c =
    let a = c.args in
    let p = c.part_end-e in
    let v = c.loop-at in (
      omega arith,
      omega arith,
      v.invariant.2 ∙ fits_next a.w a.l.now v.at v.bits p.result p.ensures.first
          (omega arith) c.requires c.if-e-at-eq0.false,
    )

pub returns : goal.returns
returns c =
    let a = c.args in
    let v = c.loop-at in
    sym (v.invariant.2 ∙ fits_end a.w a.l.now v.at v.bits (omega arith) (omega arith))
