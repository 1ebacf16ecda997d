use mathlib.Core.Path.{◌≡◌}
use Prim.Native.Nat.{◌-◌}
use lib.ListN.{length}
use Rattle.names.specs.Repeats.{names_alike, remainders}
use Rattle.names.proofs.KeyLaws.{BothSeen}
use Rattle.names.proofs.PairLaws.{Inner, Later}
use Rattle.names.proofs.repeats.repeat_below.Given as goal

abbrev pub invariant-loop-i : goal.invariant-loop-i
invariant-loop-i l = Inner (names_alike l.shorts l.words) l.j l.i

abbrev pub invariant-later : goal.invariant-later
invariant-later l =
    Later (names_alike l.shorts l.words) l.n l.j × (length l.seen ≡ remainders) × BothSeen l.shorts l.words l.j l.seen

abbrev pub decreases-later : goal.decreases-later
decreases-later l = l.n - l.j
