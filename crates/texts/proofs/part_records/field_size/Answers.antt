use native.Mathlib.Omega.{arith}
use Rattle.texts.proofs.PartBytes.{size_sum}
use Rattle.texts.proofs.part_records.field_size.Goals as goal

pub returns : goal.returns
returns c =
    omega (
      arith,
      size_sum c.args.p,
      c.width_size.ensures.0,
    )
