-- A text that comes in pieces: what start, piece and end promise of a state that the caller lends. [02, R-9]
-- A state is the first state_bytes bytes of what is lent. Which bytes it has is free: `fresh` are those that a start
-- leaves, and `Of text state` says that pieces of the text leave the state. Whatever they are, the promises say
-- together that the end answers as the joined text does (PieceResults, PiecesAnswer).
use Rattle.std.specs.Prelude.{◌≡◌, List, [], ◌++◌, ℕ, ◌≤◌, ◌<◌, length, take, drop}
use Rattle.rules.specs.Answers.{accepted, refused}
use Rattle.rules.specs.Promises.{Outcome, leaves, ReadsText}

-- bytes of a state
abbrev pub state_bytes : ℕ
state_bytes = 70411

-- a state that is too short stays, and of a longer one what lies beyond
pub record OnlyState (before after : List ℕ) : Type 0 where
  pub long : length after ≡ length before
  pub beyond : drop state_bytes after ≡ drop state_bytes before
  pub short : length before < state_bytes → after ≡ before

-- the state of the empty text, whatever was there
abbrev pub StartsText : (List ℕ → List ℕ → Type 0) → List ℕ → List ℕ → List ℕ → Type 0
StartsText Of fresh before after =
    OnlyState before after × (state_bytes ≤ length before → (take state_bytes after ≡ fresh) × Of [] fresh)

-- a piece turns the state of a text into that of the text and the piece, for every text;
-- one of no bytes changes nothing
abbrev pub TakesPiece : (List ℕ → List ℕ → Type 0) → List ℕ → List ℕ → List ℕ → Type 0
TakesPiece Of before piece after =
    OnlyState before after
    × ((text : List ℕ) → Of text (take state_bytes before) → Of (text ++ piece) (take state_bytes after))
    × (piece ≡ [] → after ≡ before)

-- an acceptance has a length and no place, and what lies beyond that length in the output stays [02, R-4]
pub record Written (out : List ℕ) (o : Outcome) : Type 0 where
  pub answer : o.answer ≡ accepted o.answer.amount
  pub within : o.answer.amount ≤ length out
  pub long : length o.buffer ≡ length out
  pub beyond : drop o.answer.amount o.buffer ≡ drop o.answer.amount out

-- the end's outcome is that of the text. From any state at all a refusal has no length and changes no output byte, and
-- a state that is too short has no room. What else a state that no pieces leave may get is free: the number and place
-- of a refusal, whether it is one, and the length and bytes of what is written.
pub record EndsText (Of : List ℕ → List ℕ → Type 0) (state out : List ℕ) (o : Outcome) : Type 0 where
  pub reads : (text : List ℕ) → Of text (take state_bytes state) → ReadsText text out o
  pub refusal : (o.answer.number ≡ 0 → ⊥) → o ≡ leaves (refused o.answer.number o.answer.place) out
  pub written : o.answer.number ≡ 0 → Written out o
  pub short : length state < state_bytes → o ≡ leaves (refused 11 0) out
