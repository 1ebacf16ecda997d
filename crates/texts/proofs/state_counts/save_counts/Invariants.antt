use mathlib.Core.Path.{◌≡◌}
use Prim.Native.Nat.{◌*◌}
use lib.ListN.{length, take, drop}
use Rattle.rules.specs.Limits.{fields_most}
use Rattle.texts.specs.StateNumbers.{twos_in}
use Rattle.texts.proofs.state_counts.save_counts.Given as goal

abbrev pub invariant-loop-i : goal.invariant-loop-i
invariant-loop-i l =
    (length l.s ≡ length l.initial.s) × (twos_in l.i l.s ≡ take l.i l.counts)
    × (drop (2 * fields_most) l.s ≡ drop (2 * fields_most) l.initial.s)
