use Prim.Native.Nat.{◌-◌}
use Rattle.texts.specs.HeldNames.{labels_in, names_in}
use Rattle.texts.proofs.HeldClashes.{Left}
use Rattle.texts.proofs.name_clashes.clashes.Given as goal

abbrev pub invariant-earlier : goal.invariant-earlier
invariant-earlier l =
    Left (labels_in l.labels) (names_in l.names).shorts (names_in l.names).words l.n l.i

abbrev pub decreases-earlier : goal.decreases-earlier
decreases-earlier l = l.n - l.i
