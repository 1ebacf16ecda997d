-- No promise allows an answer of specs/Wrong: each has other numbers, by one computation.
use mathlib.Core.Path.{◌≡◌, refl}
use mathlib.Core.Bool.{Bool, true, cond, not}
use mathlib.Core.List.{List, [], ◌∷◌}
use Prim.Native.Nat.{ℕ}
use Rattle.base.specs.Lists.{all, any, joined, same}
use Rattle.base.proofs.Lists.{every_passes, other_numbers}
use Rattle.rules.specs.Trees.{le2}
use Rattle.references.specs.Scans.{behind, codes_from, index_in, references, has_code}
use Rattle.rules.specs.Edits.{closed, opened}
use Rattle.references.specs.Renumbered.{new_index, renumbered_from, renumbered_bytes}
use Rattle.references.specs.Tallies.{tallied}
use Rattle.laws.specs.Places.{two_at}
use Rattle.references.specs.Numbers.{numbered}
use Rattle.references.specs.Wrong.{Claim, tallies, finds, renumbers, numbers, Claimed, AllFalse, wrong}

-- ── answers as numbers ──

abbrev flag : Bool → List ℕ
flag b = cond b 1 0 ∷ []

abbrev bytes : List ℕ → List ℕ
bytes l = l

-- ── other numbers ──

abbrev differs : Claim → Bool
differs (tallies e own before after) = not (same after (tallied own before (references e)))
differs (finds w e r) = not (same (flag r) (flag (has_code w e)))
differs (renumbers shift before after) = not (same after (renumbered_bytes (new_index shift) before))
differs (numbers s n counts after) = not (same after (numbered n counts s))

one_false : (c : Claim) → differs c ≡ true → Claimed c → ⊥
one_false (tallies e own before after) d = other_numbers bytes after (tallied own before (references e)) d
one_false (finds w e r) d = other_numbers flag r (has_code w e) d
one_false (renumbers shift before after) d = other_numbers bytes after (renumbered_bytes (new_index shift) before) d
one_false (numbers s n counts after) d = other_numbers bytes after (numbered n counts s) d

pub ruled_out : AllFalse wrong
unfolding all any joined same le2 behind codes_from index_in references has_code closed opened new_index renumbered_from
    tallied two_at numbered
ruled_out = every_passes differs one_false wrong refl
