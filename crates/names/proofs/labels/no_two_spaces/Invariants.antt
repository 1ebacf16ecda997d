use mathlib.Core.Path.{◌≡◌}
use Rattle.std.specs.Slice.Iter.{windows_size, windows_rest}
use Rattle.names.specs.Classes.{space_class, has_class}
use Rattle.names.specs.LentNames.{no_two}
use Rattle.names.proofs.labels.no_two_spaces.Given as goal

abbrev pub invariant-loop-pair : goal.invariant-loop-pair
invariant-loop-pair l =
    let space = has_class space_class l.classes in
    (windows_size l.pair-iterator ≡ 2) × (no_two space l.w ≡ no_two space (windows_rest l.pair-iterator))
