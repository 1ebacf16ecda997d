use Rattle.std.proofs.Common.{◌≡◌, ◌-◌}
use Rattle.references.specs.Renumbered.{new_index}
use Rattle.packets.specs.Shifts.{shifted_from}
use Rattle.packets.proofs.shifts.renumber_from.Given as goal

abbrev pub invariant-loop : goal.invariant-loop
invariant-loop l =
    shifted_from (new_index l.shift) l.n l.place l.initial.table
    ≡ shifted_from (new_index l.shift) (l.n - l.counter) l.at l.table
