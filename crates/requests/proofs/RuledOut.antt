-- What the promises rule out: each allows one answer and one output, and each claim of specs/Wrong has other numbers,
-- by one computation.
use mathlib.Core.Path.{◌≡◌, refl, ap, ◌∙◌}
use mathlib.Core.Bool.{Bool, true, not}
use mathlib.Core.List.{List, [], ◌∷◌, ◌++◌}
use Prim.Native.Nat.{ℕ}
use lib.ListN.{length, drop}
use Rattle.base.specs.Lists.{all, same}
use Rattle.base.proofs.Lists.{every_passes, not_same}
use Rattle.requests.specs.Words.{before, next_word, digit_of, number_from, hex_bytes, fitting}
use Rattle.requests.specs.Wrong.{Claim, finds, steps, reads, fills, lent, Claimed, AllFalse, wrong}

-- what a claim says, and what the definitions give, in numbers
abbrev claimed : Claim → List ℕ
claimed (finds s byte n) = n ∷ []
claimed (steps s n) = n ∷ []
claimed (reads s n) = n ∷ []
claimed (fills s n after) = n ∷ after

abbrev given : Claim → List ℕ
given (finds s byte n) = before byte s ∷ []
given (steps s n) = next_word s ∷ []
given (reads s n) = number_from 0 s ∷ []
given (fills s n after) = length (fitting s lent) ∷ (fitting s lent ++ drop (length (fitting s lent)) lent)

abbrev single : ℕ → List ℕ
single n = n ∷ []

claim_only : (c : Claim) → Claimed c → claimed c ≡ given c
claim_only (finds s byte n) p = ap single p
claim_only (steps s n) p = ap single p
claim_only (reads s n) p = ap single p
claim_only (fills s n after) p =
    ap (λ (l : List ℕ). n ∷ l) p.bytes
    ∙ ap (λ (k : ℕ). k ∷ (fitting s lent ++ drop k lent)) p.count

abbrev is_other : Claim → Bool
is_other c = not (same (claimed c) (given c))

ruled_out : (c : Claim) → is_other c ≡ true → Claimed c → ⊥
ruled_out c h p = not_same (claimed c) (given c) h (claim_only c p)

-- each wrong program's answer is ruled out
pub all_ruled_out : AllFalse wrong
unfolding all same before next_word digit_of number_from hex_bytes fitting
all_ruled_out = every_passes is_other ruled_out wrong refl
