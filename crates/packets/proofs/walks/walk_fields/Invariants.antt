use mathlib.Core.Path.{◌≡◌}
use Prim.Native.Nat.{◌-◌, ◌≤◌}
use Rattle.packets.specs.Walks.{walk_all, walk_from}
use lib.ListN.{length}
use Rattle.rules.specs.Reading.{bit_total}
use Rattle.packets.proofs.walks.walk_fields.Given as goal

abbrev pub invariant-loop-i : goal.invariant-loop-i
invariant-loop-i l =
    (l.place ≤ bit_total l.packet) × (length l.run ≡ length l.initial.run)
    × (walk_all l.table l.packet l.initial.run ≡ walk_from l.table l.packet (l.n - l.i) l.i l.run l.place l.at)
