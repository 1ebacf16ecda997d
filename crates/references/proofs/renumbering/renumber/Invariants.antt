use mathlib.Core.Path.{◌≡◌}
use mathlib.Core.List.{◌++◌}
use Prim.Native.Nat.{◌-◌, ◌≤◌}
use lib.ListN.{length, take, drop}
use Rattle.references.specs.Renumbered.{new_index, renumbered_bytes}
use Rattle.references.proofs.renumbering.renumber.Given as goal

abbrev pub invariant-loop-at : goal.invariant-loop-at
invariant-loop-at l =
    (l.at ≤ length l.expression)
    × (length l.expression ≡ length l.initial.expression)
    × (renumbered_bytes (new_index l.shift) l.initial.expression
    ≡ take l.at l.expression ++ renumbered_bytes (new_index l.shift) (drop l.at l.expression))

abbrev pub decreases-loop-at : goal.decreases-loop-at
decreases-loop-at l = length l.initial.expression - l.at
