use mathlib.Core.Path.{◌≡◌}
use Prim.Native.Nat.{◌-◌}
use lib.ListN.{length, get_or}
use Rattle.names.specs.Repeats.{remainders}
use Rattle.packets.specs.NamesTest.{labels_alike}
use Rattle.names.proofs.PairLaws.{Inner, Later, Seen}
use Rattle.packets.proofs.unique.first_label.Given as goal

abbrev pub invariant-loop-i : goal.invariant-loop-i
invariant-loop-i l = Inner (labels_alike l.s l.places) l.j l.i

abbrev pub invariant-later : goal.invariant-later
invariant-later l =
    Later (labels_alike l.s l.places) l.n l.j × (length l.seen ≡ remainders) × Seen (λ k. get_or l.keys k 0) l.j l.seen

abbrev pub decreases-later : goal.decreases-later
decreases-later l = l.n - l.j
