use mathlib.Core.Path.{◌≡◌}
use Prim.Native.Nat.{◌≤◌, ◌-◌, ◌+◌}
use lib.ListN.{length, drop}
use Rattle.texts.specs.LineEnds.{printable_length}
use Rattle.texts.proofs.text_bytes.line_end.Given as goal

abbrev pub invariant-loop-part : goal.invariant-loop-part
invariant-loop-part l =
    (l.at ≤ l.i) × (l.i ≤ length l.text) × (l.at + printable_length (drop l.at l.text) ≡ l.i + printable_length
    (drop l.i l.text))

abbrev pub decreases-loop-part : goal.decreases-loop-part
decreases-loop-part l = length l.text - l.i
