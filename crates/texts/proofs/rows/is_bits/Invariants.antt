use mathlib.Core.Path.{◌≡◌}
use Prim.Native.Nat.{◌≤◌, ◌-◌}
use lib.ListN.{length, drop}
use Rattle.text_laws.specs.FrameReader.{pieces, rest}
use Rattle.texts.specs.FramePlaces.{is_bits}
use Rattle.texts.proofs.RowTests.{fits}
use Rattle.texts.proofs.rows.is_bits.Given as goal

abbrev pub invariant-loop-at : goal.invariant-loop-at
invariant-loop-at l =
    (l.at ≤ length l.l) × (l.bits ≤ l.at) × (is_bits l.w l.l ≡ fits l.w l.bits (rest 124 (drop l.at l.l))
    (pieces 124 (drop l.at l.l)))

abbrev pub decreases-loop-at : goal.decreases-loop-at
decreases-loop-at l = length l.l - l.at
