use mathlib.Core.Path.{◌≡◌}
use lib.ListN.{length}
use Rattle.base.specs.Lists.{joined}
use Rattle.references.specs.Scans.{codes_from, index_in, references}
use Rattle.references.specs.Tallies.{tallied}
use Rattle.references.proofs.scans.tally.Given as goal

abbrev pub invariant-loop-code : goal.invariant-loop-code
invariant-loop-code l =
    (length l.counts ≡ length l.initial.counts)
    × (tallied l.own l.initial.counts (references l.expression) ≡ tallied l.own l.counts
    (joined index_in (codes_from 0 l.code-iterator.rest.now)))
