-- The numbers of what is kept of a text, as bytes of a state: mirrors the code, no public promise rests on it.
-- [02, R-9]
use Rattle.std.specs.Prelude.{◌≡◌, cond, List, [], ◌∷◌, ℕ, zero, suc, ◌+◌, ◌*◌, ◌/◌, ◌%◌, ◌≤◌, eqb, length}
use Rattle.std.specs.Prelude.{Option, Some, None, take, drop, get_or, min}
use Rattle.std.proofs.Math.Option as rule
use Rattle.rules.specs.Answers.{Answer, refused}
use Rattle.rules.specs.Limits.{text_most, line_most, fields_most}
use Rattle.rules.specs.Values.{yes_no}
use Rattle.laws.specs.Places.{two_at}
use Rattle.texts.specs.Noted.{number_of, place_of, note_of}
use Rattle.texts.specs.RowPlaces.{row_room}
use Rattle.texts.specs.HeldAreas.{held_room}
use Rattle.texts.specs.States.{Room}
use Rattle.texts.specs.declared.notes.Note.{Note}
use Rattle.texts.specs.declared.notes.Note.TheVariants as by
use Rattle.texts.specs.declared.states.Stage.{Stage}
use Rattle.texts.specs.declared.states.Stage.TheVariants as at
use Rattle.texts.specs.declared.states.Reading.{Reading}

-- ── places ──

-- the bytes so far, the bytes of the unfinished line, and the numbers of the reading
abbrev pub used_at : ℕ
used_at = 2

abbrev pub numbers_at : ℕ
numbers_at = 4

-- behind them the unfinished line, the lines of the open row, how often each field is read, and what else is held
abbrev pub line_at : ℕ
line_at = 24

abbrev pub row_at : ℕ
row_at = line_at + line_most

abbrev pub counts_at : ℕ
counts_at = row_at + row_room

abbrev pub held_at : ℕ
held_at = counts_at + 2 * fields_most

abbrev pub state_room : ℕ
state_room = held_at + held_room

-- ── numbers ──

unfoldable pub stage_code : Stage → ℕ
stage_code at.Opening = 0
stage_code at.Blank = 1
stage_code at.TensRuler = 2
stage_code at.UnitsRuler = 3
stage_code at.TopBorder = 4
stage_code at.FirstRow = 5
stage_code at.InRow = 6
stage_code at.RowOrBlank = 7
stage_code at.WhereLine = 8
stage_code at.LastBlank = 9
stage_code at.FirstField = 10
stage_code at.FieldLine = 11
stage_code at.Lost = 12

-- the stage of a code; a code of none stands for the last
unfoldable pub stage_at : ℕ → Stage
stage_at n =
    cond (eqb n 0) at.Opening
    (cond (eqb n 1) at.Blank
    (cond (eqb n 2) at.TensRuler
    (cond (eqb n 3) at.UnitsRuler
    (cond (eqb n 4) at.TopBorder
    (cond (eqb n 5) at.FirstRow
    (cond (eqb n 6) at.InRow
    (cond (eqb n 7) at.RowOrBlank
    (cond (eqb n 8) at.WhereLine
    (cond (eqb n 9) at.LastBlank
    (cond (eqb n 10) at.FirstField
    (cond (eqb n 11) at.FieldLine at.Lost)))))))))))

-- the number of a refusal, 0 where there is none
unfoldable pub note_code : Option Note → ℕ
note_code None = 0
note_code (Some a) = number_of a

-- its place, or another where there is none
unfoldable pub place_or : ℕ → Option Note → ℕ
place_or p None = p
place_or p (Some a) = place_of (Some a)

-- the refusal of a number and a place; the number of none stands for none
unfoldable pub note_at : ℕ → ℕ → Option Note
note_at n p =
    cond (eqb n 2) (Some by.BadByte)
    (cond (eqb n 3) (Some (by.BadLine p))
    (cond (eqb n 4) (Some by.TooMany)
    (cond (eqb n 5) (Some (by.BadForm p))
    (cond (eqb n 6) (Some (by.OverLimit p))
    (cond (eqb n 7) (Some (by.Mismatch p))
    (cond (eqb n 8) (Some (by.Repeated p))
    (cond (eqb n 9) (Some (by.BadName p))
    (cond (eqb n 10) (Some (by.BadRest p)) None))))))))

-- the reading whose numbers stand in a state
abbrev pub reading_in : List ℕ → Reading
reading_in s = record {
  lines = two_at s 4;
  stage = stage_at (get_or s 6 0);
  width = get_or s 7 0;
  name = get_or s 8 0;
  row = get_or s 9 0;
  cells = get_or s 10 0;
  slots = two_at s 14;
  cell = two_at s 16;
  count = get_or s 11 0;
  fields = get_or s 12 0;
  end = two_at s 18;
  rested = eqb (get_or s 13 0) 1;
  note = note_at (get_or s 20 0) (two_at s 22);
}

-- the refusal of the number and the place that stand in a state, whatever they are; the number 0 stands for none
abbrev pub refusal_in : List ℕ → rule.Option Answer
refusal_in s = cond (eqb (get_or s 20 0) 0) rule.none (rule.some (refused (get_or s 20 0) (two_at s 22)))

-- the place that stands beside the number of none, as far as it is one behind so many lines
unfoldable pub place_beside : List ℕ → ℕ → ℕ
place_beside s lines = cond (eqb (get_or s 20 0) 0) (min (two_at s 22) (lines + 1)) 0

-- it is that of the reading, and its place is at most behind the lines
pub record NoteIn (s : List ℕ) : Type 0 where
  pub told : refusal_in s ≡ note_of (reading_in s).note
  pub placed : two_at s 22 ≤ (reading_in s).lines + 1

-- the bytes of a reading's numbers, from the place numbers_at on, with the place p where nothing is refused
abbrev pub low : ℕ → ℕ
low n = n % 256

abbrev pub high : ℕ → ℕ
high n = n / 256 % 256

abbrev pub number_bytes : Reading → ℕ → List ℕ
number_bytes r p =
    low r.lines
    ∷ high r.lines
    ∷ stage_code r.stage
    ∷ low r.width
    ∷ low r.name
    ∷ low r.row
    ∷ low r.cells
    ∷ low r.count
    ∷ low r.fields
    ∷ yes_no r.rested
    ∷ low r.slots
    ∷ high r.slots
    ∷ low r.cell
    ∷ high r.cell
    ∷ low r.end
    ∷ high r.end
    ∷ note_code r.note
    ∷ 0
    ∷ low (place_or p r.note)
    ∷ high (place_or p r.note)
    ∷ []

-- the numbers of r are such that a text of so many bytes can leave them
abbrev pub Fits : ℕ → Reading → Type 0
Fits size r = Room r × (r.lines ≤ size)

-- what is loaded from a state of so many bytes: safe, whatever stands there, and the reading itself if that is safe
pub record Loaded (size : ℕ) (s : List ℕ) (r : Reading) : Type 0 where
  pub fits : Fits size r
  pub same : Fits size (reading_in s) → r ≡ reading_in s

-- a reading is saved in a state
pub record Saved (before : List ℕ) (r : Reading) (after : List ℕ) : Type 0 where
  pub long : length after ≡ length before
  pub front : take numbers_at after ≡ take numbers_at before
  pub numbers : Fits text_most r → reading_in after ≡ r
  pub noted : Fits text_most r → NoteIn after
  pub beyond : drop line_at after ≡ drop line_at before

-- ── counts ──

-- n numbers of two bytes each
unfoldable pub twos_in : ℕ → List ℕ → List ℕ
twos_in zero b = []
twos_in (suc n) b = two_at b 0 ∷ twos_in n (drop 2 b)
