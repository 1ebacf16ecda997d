use mathlib.Core.Path.{◌≡◌}
use mathlib.Core.List.{◌++◌}
use Prim.Native.Nat.{◌-◌, ◌≤◌}
use lib.ListN.{length, take, drop}
use Rattle.references.specs.Numbers.{numbered}
use Rattle.references.proofs.numbers.put_numbers.Given as goal

abbrev pub invariant-loop-k : goal.invariant-loop-k
invariant-loop-k l =
    (l.at ≤ length l.records)
    × (length l.records ≡ length l.initial.records)
    × (numbered l.n l.counts l.initial.records ≡ take l.at l.records ++ numbered (l.n - l.k) (drop l.k l.counts)
    (drop l.at l.records))
