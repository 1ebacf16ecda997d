use mathlib.Core.Path.{◌≡◌}
use mathlib.Core.List.{◌++◌}
use lib.ListN.{length, drop}
use Rattle.base.specs.Bytes.{digits, decimal}
use Rattle.writing.proofs.decimals.digits_of.Given as goal

abbrev pub invariant-loop-start : goal.invariant-loop-start
invariant-loop-start l =
    (length l.text ≡ 10) × (digits l.start l.left ++ drop l.start l.text ≡ decimal l.number)
