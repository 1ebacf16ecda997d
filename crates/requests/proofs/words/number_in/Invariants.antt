use mathlib.Core.Path.{◌≡◌}
use Prim.Native.Nat.{◌≤◌}
use lib.ListN.{drop}
use Rattle.requests.specs.Words.{number_from}
use Rattle.requests.proofs.words.number_in.Given as goal

abbrev pub invariant-loop-byte : goal.invariant-loop-byte
invariant-loop-byte l =
    (l.number ≤ 9999999) × (number_from 0 l.line ≡ number_from l.number (drop l.byte-index l.line))
