use Prim.Native.Nat.{◌-◌, ◌≤◌}
use Rattle.texts.proofs.SlotRows.{Putting}
use Rattle.texts.proofs.slots.put_row.Given as goal

abbrev pub invariant-loop-from : goal.invariant-loop-from
invariant-loop-from l =
    (1 ≤ l.from) × (l.from ≤ l.size) × Putting l.initial.cells l.at l.row l.n l.size l.cells l.next l.from l.count

abbrev pub decreases-loop-from : goal.decreases-loop-from
decreases-loop-from l = l.size - l.from
