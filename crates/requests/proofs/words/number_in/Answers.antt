use mathlib.Core.Path.{sym}
use native.Mathlib.Omega.{arith}
use Rattle.requests.proofs.WordLaws.{number_stop, number_full, number_on, number_end}
use Rattle.requests.proofs.words.number_in.Goals.{
  then-d-gt9-via-then-d-gt9,
  then-d-gt9-via-else-d-gt9+then-number-gt999999,
}
use Rattle.requests.proofs.words.number_in.Goals as goal

pub returns-in_default-clause-value : goal.returns-in_default-clause-value
returns-in_default-clause-value c =
    let l = c.loop-byte in
    number_stop l.number 16 c.args.line.now l.byte-index (omega arith) (sym c.in_default.ensures) (omega arith)
    l.invariant.1

pub returns-then-d-gt9-clause-value : goal.returns-then-d-gt9-clause-value
returns-then-d-gt9-clause-value c =
    let l = c.loop-byte in
    let s = c.args.line.now in
    let d = c.in-Some in
    elim c.then-d-gt9.branch [
      | then-d-gt9-via-then-d-gt9 w ↦
          number_stop l.number d.d s l.byte-index (omega arith) d.ensures.0 w.if-d-gt9.true l.invariant.1
      | then-d-gt9-via-else-d-gt9+then-number-gt999999 w ↦
          number_full l.number d.d s l.byte-index (omega arith) d.ensures.0 w.if-d-gt9.false
          w.if-number-gt999999.true l.invariant.1
    ]

pub loop-byte-preserved : goal.loop-byte-preserved
loop-byte-preserved c =
    let l = c.loop-byte in
    let d = c.in-Some in (
      omega arith,
      number_on l.number d.d c.args.line.now l.byte-index (omega arith) d.ensures.0 c.if-d-gt9.false
          c.if-number-gt999999.false l.invariant.1,
    )

pub returns-clause-value : goal.returns-clause-value
returns-clause-value c =
    let l = c.loop-byte in
    number_end l.number c.args.line.now l.byte-index (omega arith) l.invariant.1
