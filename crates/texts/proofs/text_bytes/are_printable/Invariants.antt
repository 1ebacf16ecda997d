use mathlib.Core.Path.{◌≡◌}
use lib.ListN.{take}
use Rattle.base.specs.Lists.{all}
use Rattle.rules.specs.Names.{is_printable}
use Rattle.texts.proofs.text_bytes.are_printable.Given as goal

abbrev pub invariant-loop-b : goal.invariant-loop-b
invariant-loop-b l = l.each ≡ all is_printable (take l.b-index l.part)
