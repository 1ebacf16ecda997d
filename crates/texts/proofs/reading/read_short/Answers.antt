use native.Mathlib.Omega.{arith}
use Rattle.texts.proofs.LineCounts.{numbers_none}
use Rattle.texts.proofs.reading.read_short.Goals as goal

pub read_held-requires : goal.read_held-requires
read_held-requires c = (
  c.requires,
  numbers_none 128 (omega arith),
)
