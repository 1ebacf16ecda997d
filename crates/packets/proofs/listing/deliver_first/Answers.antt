use Rattle.rules.specs.Answers.{of_listing}
use native.Mathlib.Omega.{arith}
use lib.Seq.{length-take-le}
use Rattle.packets.proofs.listing.deliver_first.Goals as goal

pub returns-then-deliver : goal.returns-then-deliver
unfolding of_listing
returns-then-deliver c =
    let l = length-take-le c.args.n c.args.from.now (omega arith) in
    rw (c.if-deliver.true, l) at c.deliver.ensures

pub returns : goal.returns
unfolding of_listing
returns c = rw c.if-deliver.false at c.deliver.ensures
