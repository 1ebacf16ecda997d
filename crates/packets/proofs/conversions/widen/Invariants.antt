use Rattle.std.proofs.Common.{◌≡◌, ◌+◌, ◌*◌, ◌≤◌, length}
use Rattle.packets.proofs.WidenSteps.{Widening}
use Rattle.packets.proofs.conversions.widen.Given as goal

abbrev pub invariant-loop : goal.invariant-loop
invariant-loop l = record {
  inside : l.at ≤ length l.table;
  wider : l.to ≡ l.at + 2 * l.counter;
  kept : length l.out ≡ length l.initial.out;
  widening : Widening l.table l.n l.counter l.at l.out l.to;
}
