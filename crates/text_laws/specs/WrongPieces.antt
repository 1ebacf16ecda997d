-- Answers of programs that are wrong about texts in pieces: of each, what is claimed is that the end answers so behind
-- these pieces from a fresh start, and it is false (proofs/RuledOutTexts). [02, R-9]
use Rattle.std.specs.Prelude.{◌≡◌, List, [], ◌∷◌, ◌++◌, ℕ, ◌+◌, ◌-◌, ◌≤◌, ◌<◌, take, drop, length, Ok, Err}
use Rattle.base.specs.Bytes.{bytes}
use Rattle.base.specs.Lists.{Every}
use Rattle.rules.specs.declared.TextRefusal.TheVariants.{TooLong, BadLine, BadForm, Mismatch}
use Rattle.rules.specs.Answers.{of_text, TextAnswer}
use Rattle.rules.specs.Frames.{ended}
use Rattle.rules.specs.Fields.{Description}
use Rattle.rules.specs.Stored.{stored}
use Rattle.rules.specs.Promises.{overlaid, leaves}
use Rattle.rules.specs.Pieces.{state_bytes, StartsText, TakesPiece, EndsText}
use Rattle.rules.specs.PieceResults.{Reached, joined_text}
use Rattle.text_laws.specs.WrongTexts.{Claim, reads, nines}
use Rattle.text_laws.specs.WrongTextRows.{one_field}
use Rattle.text_laws.specs.WrongTextLines.{field_page, long_page}

-- ── claims of pieces ──

pub data PieceClaim : Type 0 where
  -- the pieces, the output before, the answer, and the output after
  ends : List (List ℕ) → List ℕ → TextAnswer → List ℕ → PieceClaim

-- whatever a state is
abbrev pub ClaimedOf : (List ℕ → List ℕ → Type 0) → List ℕ → PieceClaim → Type 0
ClaimedOf Of fresh (ends pieces out r after) =
    (state : List ℕ) × Reached Of fresh pieces state × EndsText Of state out (leaves (of_text r) after)

abbrev pub PiecesFalse : List PieceClaim → Type 1
PiecesFalse claims = (Of : List ℕ → List ℕ → Type 0) (fresh : List ℕ) → Every (λ c. ClaimedOf Of fresh c → ⊥) claims

-- the same claim of the joined text
abbrev pub as_text : PieceClaim → Claim
as_text (ends pieces out r after) = reads (joined_text pieces) out r after

-- ── short ways to write claims ──

abbrev leaves_all : List (List ℕ) → TextAnswer → PieceClaim
leaves_all pieces r = ends pieces (nines 600) r (nines 600)

abbrev writes_all : List (List ℕ) → Description → PieceClaim
writes_all pieces d = ends pieces (nines 600) (Ok (length (stored d))) (overlaid (stored d) (nines 600))

-- a text in two pieces, and with an empty one between them
abbrev cut_at : ℕ → List ℕ → List (List ℕ)
cut_at n t = take n t ∷ drop n t ∷ []

abbrev gap_at : ℕ → List ℕ → List (List ℕ)
gap_at n t = take n t ∷ [] ∷ drop n t ∷ []

-- a page that is accepted: the LF of its first line has the place 31, line 4 begins at 36, its last line is line 11
abbrev good : List ℕ
good = field_page (bytes "A: 8 bits." ∷ [])

-- the lines in front of the field lines
abbrev head : List ℕ
head = field_page []

-- ── claims ──

abbrev cuts : List PieceClaim
cuts =
    -- a piece that ends in the middle of a line judged early
    leaves_all (cut_at 20 good) (Err (BadLine 1))
    ∷ leaves_all (cut_at 40 good) (Err (BadLine 4))
    ∷ leaves_all (cut_at (length good - 3) good) (Err (BadForm 11))
    -- an LF at a piece's start lost
    ∷ leaves_all (cut_at 31 good) (Err (BadLine 2))
    ∷ leaves_all (cut_at (length good - 1) good) (Err (BadLine 11))
    -- the empty piece taken for the end
    ∷ leaves_all (gap_at 20 good) (Err (BadLine 1))
    ∷ leaves_all ([] ∷ good ∷ []) (Err (BadLine 1))
    -- 1,025 bytes accepted where they come in two pieces, or where the last one comes with the LF
    ∷ writes_all (cut_at (length head + 1000) long_page) (one_field "A")
    ∷ writes_all (cut_at (length head + 1024) long_page) (one_field "A")
    -- the state forgotten: the last piece read alone
    ∷ writes_all (bytes "x" ∷ good ∷ []) (one_field "A")
    -- what came after a good page forgotten
    ∷ writes_all (good ∷ bytes "x" ∷ []) (one_field "A")
    ∷ []

abbrev order : List PieceClaim
order =
    -- the output written before the end
    ends (good ∷ ended (bytes "x") ∷ []) (nines 600) (Err (BadForm 12)) (overlaid (stored (one_field "A")) (nines 600))
    ∷ ends (good ∷ bytes "x" ∷ []) (nines 600) (Err (BadLine 12)) (overlaid (stored (one_field "A")) (nines 600))
    -- a later refusal of a higher number kept over an earlier lower one, and an earlier higher one over a later lower
    ∷ leaves_all (field_page (bytes "A: 8 bits" ∷ []) ∷ ended (bytes "B: 8 bits.") ∷ []) (Err (Mismatch 12))
    ∷ leaves_all (field_page (bytes "B: 8 bits." ∷ []) ∷ ended (bytes "A: 8 bits") ∷ []) (Err (Mismatch 11))
    -- 3 of an earlier piece kept over 2 of a later one
    ∷ leaves_all (bytes "x" ∷ ended [] ∷ (0x7F ∷ []) ∷ []) (Err (BadLine 1))
    ∷ []

abbrev pub wrong_pieces : List PieceClaim
wrong_pieces = cuts ++ order

-- ── states ──

-- start, piece and end of programs that change more than the state, or judge one that is too short, whatever a state is
pub record WrongStates (Of : List ℕ → List ℕ → Type 0) (fresh : List ℕ) : Type 0 where
  -- a state that is too short written over
  pub short_started : StartsText Of fresh (9 ∷ []) (0 ∷ []) → ⊥
  pub short_taken : (piece : List ℕ) → TakesPiece Of (9 ∷ []) piece (0 ∷ []) → ⊥
  -- a state changed by a piece of no bytes
  pub empty_taken : (s t : List ℕ) → (t ≡ s → ⊥) → TakesPiece Of s [] t → ⊥
  -- nothing done, so that each of two states stays what it was
  pub kept_started : (s t : List ℕ) → state_bytes ≤ length s → state_bytes ≤ length t
      → (take state_bytes s ≡ take state_bytes t → ⊥) → StartsText Of fresh s s → StartsText Of fresh t t → ⊥
  -- bytes behind the state written, or dropped
  pub behind_started : (s t : List ℕ) → length s ≡ state_bytes → StartsText Of fresh (s ++ (9 ∷ [])) (t ++ (0 ∷ [])) → ⊥
  pub behind_taken : (s t piece : List ℕ) → length s ≡ state_bytes
      → TakesPiece Of (s ++ (9 ∷ [])) piece (t ++ (0 ∷ [])) → ⊥
  pub dropped_started : (s : List ℕ) → state_bytes < length s → StartsText Of fresh s (take state_bytes s) → ⊥
  pub dropped_taken : (s piece : List ℕ) → state_bytes < length s → TakesPiece Of s piece (take state_bytes s) → ⊥
  -- 1 for a state that is too short
  pub short_ended : EndsText Of [] (9 ∷ []) (leaves (of_text (Err TooLong)) (9 ∷ [])) → ⊥
  -- refused with a byte of the output changed, and with a length
  pub refused_written : (s : List ℕ) → EndsText Of s (9 ∷ []) (leaves (of_text (Err (BadLine 1))) (0 ∷ [])) → ⊥
  pub refused_long : (s : List ℕ)
      → EndsText Of s (9 ∷ []) (leaves (record { number = 3; place = 1; amount = 1 }) (9 ∷ [])) → ⊥
  -- a table longer than the output, a byte beyond it changed, one beyond it lost, and one with a place
  pub overlong : (s : List ℕ) → EndsText Of s (9 ∷ []) (leaves (of_text (Ok 2)) (0 ∷ [])) → ⊥
  pub beyond_written : (s : List ℕ) → EndsText Of s (9 ∷ 9 ∷ []) (leaves (of_text (Ok 1)) (0 ∷ 0 ∷ [])) → ⊥
  pub beyond_lost : (s : List ℕ) → EndsText Of s (9 ∷ 9 ∷ []) (leaves (of_text (Ok 2)) (0 ∷ [])) → ⊥
  pub accepted_placed : (s : List ℕ)
      → EndsText Of s (9 ∷ []) (leaves (record { number = 0; place = 1; amount = 1 }) (0 ∷ [])) → ⊥
