use mathlib.Core.Path.{◌≡◌}
use mathlib.Core.List.{[]}
use Prim.Native.Nat.{◌+◌, ◌-◌, ◌≤◌}
use lib.ListN.{length}
use Rattle.rules.specs.Limits.{text_most}
use Rattle.text_laws.specs.Fold as fold
use Rattle.texts.specs.WalkSteps.{KeptAs, LinesLeft, Walking}
use Rattle.texts.proofs.walks.walk_lines.Given as goal

abbrev pub invariant-loop-r : goal.invariant-loop-r
invariant-loop-r l =
    (l.at ≤ length l.text) ×
    LinesLeft (length l.text - l.from) l.initial.r (length l.text - l.at) l.r ×
    ((k : fold.Kept) → k.line ≡ [] → k.size + (length l.text - l.from) ≤ text_most
    → KeptAs k.found l.initial.r l.initial.held l.initial.row
    l.initial.counts
    → Walking k l.text l.from l.at l.r l.held l.row l.counts)

abbrev pub decreases-loop-r : goal.decreases-loop-r
decreases-loop-r l = length l.text - l.at
