use mathlib.Core.Path.{◌≡◌, refl}
use native.Mathlib.Numerals.{add-one}
use native.Mathlib.Omega.{arith}
use lib.ListN.{length, length-set}
use lib.Seq.{paste-zero, paste-suc, take-length}
use Rattle.writing.proofs.PutLaws.{put_some}
use Rattle.writing.proofs.puts.put.Goals as goal

pub loop-i-init : goal.loop-i-init
loop-i-init c = (refl, paste-zero c.args.out.now c.args.at c.args.word.now)

pub loop-i-preserved : goal.loop-i-preserved
loop-i-preserved c =
    let a = c.args in
    let l = c.loop-i in
    let more = paste-suc a.out.now a.at a.word.now l.i 0 (omega arith) (omega arith) in
    (rw length-set l.invariant.0, rw (l.invariant.1, add-one) more)

pub returns : goal.returns
returns c =
    let l = c.loop-i in
    let most = l.auto.i-end in
    let e : l.i ≡ length c.args.word.now = omega (arith, most, c.loop-i-test.false) in
    rw (l.invariant.1, e, take-length) (put_some c.args.out.now c.args.at c.args.word.now (omega arith))
