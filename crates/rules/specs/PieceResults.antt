-- The main results on texts that come in pieces. [02, R-9]
use Rattle.std.specs.Prelude.{◌≡◌, List, [], ◌∷◌, ◌++◌, ℕ, ◌≤◌, length, take}
use Rattle.base.specs.Lists.{joined}
use Rattle.rules.specs.Promises.{Outcome, ReadsText}
use Rattle.rules.specs.Pieces.{state_bytes, StartsText, TakesPiece, EndsText}

-- a lent buffer whose state is one from a fresh start, behind pieces, each state handed on as it came, there or in
-- another buffer
pub data Reached (Of : List ℕ → List ℕ → Type 0) (fresh : List ℕ) : List (List ℕ) → List ℕ → Type 0 where
  started : {before after : List ℕ} → state_bytes ≤ length before → StartsText Of fresh before after
      → Reached Of fresh [] after
  taken : {pieces : List (List ℕ)} {before piece after : List ℕ} → Reached Of fresh pieces before
      → TakesPiece Of before piece after → Reached Of fresh (pieces ++ (piece ∷ [])) after
  moved : {pieces : List (List ℕ)} {from to : List ℕ} → Reached Of fresh pieces from
      → take state_bytes to ≡ take state_bytes from → Reached Of fresh pieces to

abbrev pub joined_text : List (List ℕ) → List ℕ
joined_text pieces = joined (λ p. p) pieces

-- for every list of pieces from a fresh start, the end's outcome is that of the joined text
abbrev pub PiecesAnswer : Type 1
PiecesAnswer = (Of : List ℕ → List ℕ → Type 0) (fresh : List ℕ) (pieces : List (List ℕ)) (state out : List ℕ)
    (o : Outcome) → Reached Of fresh pieces state → EndsText Of state out o → ReadsText (joined_text pieces) out o

-- so any two cuttings of a text get the same answer, and leave the same in the output
abbrev pub CuttingsAgree : Type 1
CuttingsAgree = (Of : List ℕ → List ℕ → Type 0) (fresh : List ℕ) (ps qs : List (List ℕ)) (s t out : List ℕ)
    (o p : Outcome) → joined_text ps ≡ joined_text qs → Reached Of fresh ps s → Reached Of fresh qs t
    → EndsText Of s out o → EndsText Of t out p → o ≡ p

-- and that of the text as a whole
abbrev pub PiecesAsWhole : Type 1
PiecesAsWhole = (Of : List ℕ → List ℕ → Type 0) (fresh : List ℕ) (pieces : List (List ℕ)) (state out : List ℕ)
    (o p : Outcome) → Reached Of fresh pieces state → EndsText Of state out o → ReadsText (joined_text pieces) out p
    → o ≡ p
