use Rattle.std.proofs.Common.{arith}
use Rattle.std.proofs.lemmas.Grind.{common_steps}
use Rattle.laws.specs.Places.{two_at}
use Rattle.packets.proofs.records.two_at.Goals as goal

pub returns-then-at-s : goal.returns-then-at-s
unfolding two_at
returns-then-at-s c = (grind (arith, common_steps), omega (arith, c.from_le_bytes.ensures))

pub returns : goal.returns
unfolding two_at
returns c = grind (arith, common_steps)
