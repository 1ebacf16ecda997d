use mathlib.Core.Path.{refl}
use native.Mathlib.Omega.{arith}
use lib.ListN.{length-set}
use Rattle.texts.proofs.CountBytes.{twos_none, twos_loaded, all_loaded}
use Rattle.texts.proofs.state_counts.load_counts.Goals as goal

pub loop-i-init : goal.loop-i-init
loop-i-init c = (refl, twos_none c.args.s.now c.args.counts.now)

pub loop-i-preserved : goal.loop-i-preserved
loop-i-preserved c =
    let l = c.loop-i in (
      simp length-set l.invariant.0,
      twos_loaded _ l.counts l.i c.two_at.result (omega arith) c.two_at.ensures.0 l.invariant.1,
    )

pub returns : goal.returns
returns c =
    let l = c.loop-i in all_loaded _ _ l.i (omega arith) (omega arith) l.invariant.1
