use Rattle.rules.specs.Limits.{number_most}
use mathlib.Core.Path.{◌≡◌}
use Prim.Native.Nat.{◌≤◌}
use lib.ListN.{drop}
use Rattle.base.specs.Lists.{all}
use Rattle.text_laws.specs.Reader.{scan, word_value}
use Rattle.rules.specs.Names.{is_digit}
use Rattle.texts.proofs.numbers.number_of.Given as goal

abbrev pub invariant-loop-c : goal.invariant-loop-c
invariant-loop-c l = (l.v ≤ number_most) × (word_value l.w ≡ scan l.v (drop l.c-index l.w)) ×
    (all is_digit l.w ≡ all is_digit (drop l.c-index l.w))
