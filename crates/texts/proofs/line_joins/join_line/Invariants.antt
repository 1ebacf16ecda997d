use mathlib.Core.Path.{◌≡◌}
use lib.ListN.{length, take}
use Rattle.texts.proofs.JoinLaws.{plain_front}
use Rattle.texts.proofs.line_joins.join_line.Given as goal

abbrev pub invariant-loop-i : goal.invariant-loop-i
invariant-loop-i l = (length l.line ≡ length l.initial.line) × (take l.i l.line ≡ plain_front l.i l.s)
