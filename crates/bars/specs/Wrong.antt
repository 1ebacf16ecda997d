-- Answers of wrong programs: of each, what is claimed is the promise, and it is false (proofs/RuledOut).
use Rattle.std.specs.Prelude.{◌≡◌, Bool, true, false, List, [], ◌∷◌, ℕ}
use Rattle.base.specs.Bytes.{bytes}
use Rattle.base.specs.Lists.{Every}
use Rattle.bars.specs.Goes.{goes_on}

-- lines so far, the first of them, the line, and what is answered
pub record Claim : Type 0 where
  pub lines : ℕ
  pub first : List ℕ
  pub line : List ℕ
  pub answer : Bool

abbrev goes : ℕ → List ℕ → List ℕ → Bool → Claim
goes n first l r = record { lines = n; first = first; line = l; answer = r }

abbrev pub Claimed : Claim → Type 0
Claimed c = c.answer ≡ goes_on c.lines c.first c.line

abbrev pub AllFalse : List Claim → Type 0
AllFalse = Every (λ c. Claimed c → ⊥)

abbrev pub wrong : List Claim
wrong =
    -- a fifth line; none but a first; a fourth refused
    goes 4 (bytes "|a|b|") (bytes "|c|d|") true
    ∷ goes 1 (bytes "|a|b|") (bytes "|c|d|") false
    ∷ goes 3 (bytes "|a|b|") (bytes "|c|d|") false
    -- a bar more, a bar less, a byte more; the bytes between bars compared too
    ∷ goes 1 (bytes "|a b|") (bytes "|c|d|") true
    ∷ goes 1 (bytes "|a|b|") (bytes "|c d|") true
    ∷ goes 1 (bytes "|a|b|") (bytes "|c|d| ") true
    ∷ goes 1 (bytes "|a|b|") (bytes "| | |") false
    -- behind a long row, and behind no line at all
    ∷ goes 1 (bytes ":a  :") (bytes ":b  :") true
    ∷ goes 1 [] [] true
    ∷ []
