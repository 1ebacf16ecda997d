use mathlib.Core.Path.{◌≡◌}
use Prim.Native.Nat.{◌+◌}
use native.Mathlib.Omega.{arith}
use Rattle.laws.specs.Places.{two_at, four_at}
use Rattle.packets.proofs.trees.four_at.Goals as goal

pub returns : goal.returns
unfolding two_at four_at
returns c =
    let last : c.args.at + 2 + 1 ≡ c.args.at + 3 = omega arith in
    rw (c.from_le_bytes.ensures, last) (omega arith)
