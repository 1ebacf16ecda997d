-- What a state holds of a text that comes in pieces: mirrors the code, no public promise rests on what it says.
-- [02, R-9]
use Rattle.std.specs.Prelude.{◌≡◌, true, false, ℕ, ◌+◌, ◌*◌, ◌-◌, ◌≤◌, ◌<◌, length, take, drop}
use mathlib.Core.List.{List, ◌++◌, foldl}
use Rattle.rules.specs.Limits.{text_most, line_most, fields_most}
use Rattle.rules.specs.Frames.{is_line}
use Rattle.laws.specs.Places.{two_at}
use Rattle.text_laws.specs.Fold as fold
use Rattle.texts.specs.RowPlaces.{row_room}
use Rattle.texts.specs.Fills.{zeros, zeros_around}
use Rattle.texts.specs.NameStarts.{buckets, no_start}
use Rattle.texts.specs.HeldAreas.{names_at, held_room}
use Rattle.texts.specs.StateNumbers.{used_at, line_at, row_at, counts_at, held_at, state_room, reading_in, Fits}
use Rattle.texts.specs.StateNumbers.{NoteIn, twos_in}
use Rattle.texts.specs.WalkSteps.{KeptAs, WalkedTo}
use Rattle.texts.specs.declared.walks.Walked.{Walked}
use Rattle.texts.specs.declared.states.Reading.{Reading}

-- the parts of a state
abbrev pub held_line : List ℕ → List ℕ
held_line s = take (two_at s used_at) (drop line_at s)

abbrev pub row_bytes : List ℕ → List ℕ
row_bytes s = take row_room (drop row_at s)

abbrev pub count_bytes : List ℕ → List ℕ
count_bytes s = take (2 * fields_most) (drop counts_at s)

abbrev pub held_bytes : List ℕ → List ℕ
held_bytes s = take held_room (drop held_at s)

abbrev pub line_bytes : List ℕ → List ℕ
line_bytes s = take line_most (drop line_at s)

-- nothing is left of ended lines, nor of a row beyond its lines
pub record Clean (s : List ℕ) : Type 0 where
  pub line : drop (two_at s used_at) (line_bytes s) ≡ zeros (line_most - two_at s used_at)
  pub rows : drop (65 * (reading_in s).row) (row_bytes s) ≡ zeros (row_room - 65 * (reading_in s).row)

-- the state's bytes hold k; where 1, 2 or 3 was found, any line
pub record StateHolds (k : fold.Kept) (s : List ℕ) : Type 0 where
  pub fits : Fits k.size (reading_in s)
  pub noted : NoteIn s
  pub used : two_at s used_at ≤ line_most
  pub free : is_line k.line ≡ true
  pub short : length k.line ≤ line_most
  pub kept : KeptAs k.found (reading_in s) (held_bytes s) (row_bytes s) (twos_in fields_most (count_bytes s))
  pub line : fold.is_lost k.found.stage ≡ false → held_line s ≡ k.line
  pub clean : Clean s

-- a state before the first byte: no bytes are held but the starts of names, of which there is none
unfoldable pub fresh_state : List ℕ
fresh_state = zeros_around (held_at + names_at) buckets no_start (state_room - (held_at + names_at + buckets))

-- a state that pieces of the text leave
pub record Left (text s : List ℕ) : Type 0 where
  pub room : state_room ≤ length s
  pub size : length text ≤ text_most → two_at s 0 ≡ length text
  pub holds : length text ≤ text_most → StateHolds (fold.kept text) s
  pub over : text_most < length text → text_most < two_at s 0

-- what no function changes: how long the state is, its first two bytes, and what lies beyond it
pub record SameAround (before after : List ℕ) : Type 0 where
  pub long : length after ≡ length before
  pub front : take used_at after ≡ take used_at before
  pub beyond : drop state_room after ≡ drop state_room before

-- bytes p make of what was held what the fold makes of it
abbrev pub PieceStep : List ℕ → List ℕ → List ℕ → Type 0
PieceStep p before after =
    (k : fold.Kept) → k.size + length p ≤ text_most → StateHolds k before → StateHolds (foldl fold.fed k p) after

-- a line of which used bytes are held and a part follows, put together: no line feed is in it, and it is that line
pub record JoinedLine (s : List ℕ) (used : ℕ) (part line : List ℕ) (n : ℕ) : Type 0 where
  pub long : n ≡ used + length part
  pub free : is_line (take n line) ≡ true
  pub same : is_line (take used (drop line_at s)) ≡ true → take n line ≡ take used (drop line_at s) ++ part

-- the held line with the part behind it, ended: what is kept behind it
abbrev pub EndedStep : List ℕ → ℕ → List ℕ → Reading → Reading → List ℕ → List ℕ → List ℕ → List ℕ → List ℕ → Type 0
EndedStep s used part r q s' row row' counts counts' =
    (f : fold.Found) (l : List ℕ) → is_line l ≡ true → length l ≤ line_most
    → (fold.is_lost f.stage ≡ false → take used (drop line_at s) ≡ l) → KeptAs f r (held_bytes s) row counts
    → KeptAs (fold.lined f (l ++ part)) q (held_bytes s') row' counts'

-- what was found is kept in the state
abbrev pub KeptIn : fold.Found → List ℕ → Type 0
KeptIn f s = KeptAs f (reading_in s) (held_bytes s) (row_bytes s) (twos_in fields_most (count_bytes s))

-- no line is held, and of the row's part n lines
pub record Cleared (n : ℕ) (before after : List ℕ) : Type 0 where
  pub long : length after ≡ length before
  pub front : take used_at after ≡ take used_at before
  pub back : drop counts_at after ≡ drop counts_at before
  pub reading : reading_in after ≡ reading_in before
  pub noted : NoteIn before → NoteIn after
  pub used : two_at after used_at ≡ 0
  pub rows : take (65 * n) (row_bytes after) ≡ take (65 * n) (row_bytes before)
  pub clean : (reading_in after).row ≡ n → Clean after

-- the state of an unfinished line that got too long
pub record CutState (size : ℕ) (before after : List ℕ) : Type 0 where
  pub fits : Fits size (reading_in after)
  pub noted : NoteIn after
  pub used : two_at after used_at ≡ 0
  pub clean : Clean after
  pub step : (f : fold.Found) → Fits size (reading_in before) → KeptIn f before → KeptIn (fold.cut f) after

-- a reading, the lines of a row and counts are stored in a state, and no line
pub record StoredState (before : List ℕ) (r : Reading) (row counts after : List ℕ) : Type 0 where
  pub reading : Fits text_most r → reading_in after ≡ r
  pub noted : Fits text_most r → NoteIn after
  pub used : two_at after used_at ≡ 0
  pub rows : take (65 * r.row) (row_bytes after) ≡ take (65 * r.row) row
  pub clean : Fits text_most r → Clean after
  pub twos : twos_in fields_most (count_bytes after) ≡ take fields_most counts
  pub held : held_bytes after ≡ held_bytes before

-- the lines of a piece whose first byte that is not printable has the place e, behind a held line
abbrev pub PieceWalk : List ℕ → ℕ → List ℕ → Reading → Walked → List ℕ → List ℕ → List ℕ → List ℕ → List ℕ → Type 0
PieceWalk s used piece r w s' row row' counts counts' =
    (k : fold.Kept) → k.size + length piece ≤ text_most → is_line k.line ≡ true → length k.line ≤ line_most
    → (fold.is_lost k.found.stage ≡ false → take used (drop line_at s) ≡ k.line)
    → KeptAs k.found r (held_bytes s) row counts → WalkedTo k piece 0 w (held_bytes s') row' counts'
