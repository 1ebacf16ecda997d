use native.Mathlib.Omega.{arith}
use Rattle.packets.proofs.EditWrites.{bad_many, bad_short, bad_long, one_passed, all_passed}
use Rattle.packets.proofs.edits.count_records.Goals as goal
use Rattle.packets.proofs.edits.count_records.Goals.{
  then-most-k-via-then-most-k,
  then-most-k-via-else-most-k+then-size-lt6,
  then-most-k-via-else-most-k+else-size-lt6+then-records-at,
}

pub returns-then-most-k : goal.returns-then-most-k
returns-then-most-k c =
    let s = c.args.records.now in
    let l = c.loop-at in
    let inside = c.loop-at-test.true in
    let size = c.two_at-size.ensures.0 in
    elim c.then-most-k.branch [
      | then-most-k-via-then-most-k w ↦ bad_many s l.k l.at inside l.invariant.2 c.args.most w.if-most-k.true
      | then-most-k-via-else-most-k+then-size-lt6 w ↦
          λ j few. bad_short s l.k l.at inside l.invariant.2 (omega (arith, size, w.if-size-lt6.true)) j
      | then-most-k-via-else-most-k+else-size-lt6+then-records-at w ↦
          λ j few. bad_long s l.k l.at inside l.invariant.2 (omega (arith, size, w.if-records-at.true)) j
    ]

pub loop-at-preserved : goal.loop-at-preserved
loop-at-preserved c =
    let l = c.loop-at in
    let size = c.two_at-size.ensures.0 in
    let more = one_passed c.args.records.now l.k l.at c.loop-at-test.true l.invariant.2
    (omega (arith, size, c.if-size-lt6.false)) (omega (arith, size, c.if-records-at.false)) in
    (omega arith, omega arith, rw size more)

pub returns : goal.returns
returns c =
    let l = c.loop-at in
    (all_passed c.args.records.now l.k l.at l.invariant.2 (omega (arith, l.invariant.0)), l.invariant.1)
