-- A name that is looked up from its start on is found as if the walk began at the first field.
use mathlib.Core.Path.{◌≡◌}
use mathlib.Core.List.{List}
use Prim.Native.Nat.{ℕ, ◌<◌}
use native.Mathlib.Omega.{arith}
use Rattle.rules.specs.Limits.{short_most}
use Rattle.names.specs.Repeats.{first_from, pad_to}
use Rattle.texts.specs.HeldNames.{Names, Started}
use Rattle.texts.specs.NameStarts.{start_in}
use Rattle.texts.specs.StoredTrees.{is_held, look_up}
use Rattle.texts.proofs.StartLaws.{most_least, look_from_zero, before_unread}

pub look_zero : (names : Names) (k : ℕ) (w : List ℕ) → ((i : ℕ) → i < k → Started names i)
    → look_up names k w ≡ first_from (is_held names w) 0 k
look_zero names k w all =
    let v = pad_to short_most w in
    let m = (most_least k (start_in names.starts v)).1 in
    look_from_zero names k w (λ i few lt. before_unread names v i (all i few) (omega (arith, m, lt)))
