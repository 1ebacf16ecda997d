use mathlib.Core.Path.{◌≡◌}
use Prim.Native.Nat.{◌+◌, ◌-◌, ◌*◌, ◌≤◌}
use Rattle.packets.specs.Steps.{later_bits}
use Rattle.packets.proofs.steps.later_bits.Given as goal

abbrev pub invariant-loop : goal.invariant-loop
invariant-loop l =
    (l.sum ≤ 32 * l.counter)
    × (later_bits l.n l.table l.start ≡ l.sum + later_bits (l.n - l.counter) l.table l.at)
