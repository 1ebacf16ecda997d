use mathlib.Core.Path.{◌≡◌}
use Prim.Native.Nat.{◌*◌}
use Rattle.rules.specs.Reading.{bits_at}
use Rattle.packets.proofs.bits.bytes_at.Given as goal

abbrev pub invariant-loop-b : goal.invariant-loop-b
invariant-loop-b l = l.v ≡ bits_at l.packet (8 * l.first) (8 * l.b-index)
