use mathlib.Core.Path.{◌≡◌}
use Prim.Native.Nat.{◌^◌}
use Rattle.packets.proofs.powers.power_of.Given as goal

abbrev pub invariant-loop : goal.invariant-loop
invariant-loop l = l.v ≡ l.x ^ l.counter
