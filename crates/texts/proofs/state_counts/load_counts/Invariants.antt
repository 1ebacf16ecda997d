use mathlib.Core.Path.{◌≡◌}
use lib.ListN.{length, take}
use Rattle.texts.specs.StateNumbers.{twos_in}
use Rattle.texts.proofs.state_counts.load_counts.Given as goal

abbrev pub invariant-loop-i : goal.invariant-loop-i
invariant-loop-i l =
    (length l.counts ≡ length l.initial.counts) × (take l.i l.counts ≡ twos_in l.i l.s)
