-- The lines of a row as the code keeps them, and its cells at their columns: mirrors the code.
-- No public promise rests on this file.
use Rattle.std.specs.Prelude.{◌≡◌, Bool, cond, List, [], ◌∷◌, ◌++◌, ℕ, zero, suc, ◌+◌, ◌*◌, ◌/◌, eqb, length, take}
use Rattle.std.specs.Prelude.{drop, get_or}
use Rattle.std.proofs.Math.Option.{Option, none, some}
use Rattle.base.specs.Lists.{is_empty}
use Rattle.rules.specs.Rows.{trimmed, Cell, cell_text, Row, row_lines}
use Rattle.rules.specs.Frames.{Slot}
use Rattle.text_laws.specs.FrameReader.{pieces}

-- room for the lines of a row, each with room for 2 * 32 + 1 bytes
abbrev pub row_room : ℕ
row_room = 260

-- of each of n kept lines the part of so many bytes from a column on
unfoldable pub strips_at : List ℕ → ℕ → ℕ → ℕ → List (List ℕ)
strips_at row a size zero = []
strips_at row a size (suc n) = strips_at row a size n ++ (take size (drop (65 * n + a) row) ∷ [])

-- the lines of a row that is begun, or of none
abbrev pub lines_in : Option Row → List (List ℕ)
lines_in none = []
lines_in (some r) = row_lines r

-- they are the n kept ones, for W
pub record RowKept (o : Option Row) (w n : ℕ) (row : List ℕ) : Type 0 where
  pub lines : strips_at row 0 (2 * w + 1) n ≡ lines_in o

-- what one more line adds to a cell's text: its characters without the blanks around them, behind a space unless bare
abbrev pub added_line : Bool → List ℕ → List ℕ
added_line bare s = cond (is_empty (trimmed s)) [] (cond bare (trimmed s) (32 ∷ trimmed s))

-- the cell of so many columns from a column on, and what it shows
abbrev pub cell_at : List ℕ → ℕ → ℕ → ℕ → Cell
cell_at row n a size = record { bits = (size + 1) / 2; lines = strips_at row a size n }

abbrev pub slot_at : Bool → List ℕ → ℕ → ℕ → ℕ → Slot
slot_at long row n a size = record { long = long; bits = (size + 1) / 2; text = cell_text (cell_at row n a size) }

-- cells as wide as these parts of the first line, from a column on
unfoldable pub slots_from : Bool → List ℕ → ℕ → ℕ → List (List ℕ) → List Slot
slots_from long row n a [] = []
slots_from long row n a (s ∷ ss) =
    slot_at long row n a (length s) ∷ slots_from long row n (a + suc (length s)) ss

-- the cells of n kept lines of so many bytes, from a column on: between bars, or between colons
abbrev pub slots_at : List ℕ → ℕ → ℕ → ℕ → List Slot
slots_at row n size a =
    slots_from (eqb (get_or row 0 0) 58) row n a (pieces (get_or row 0 0) (drop a (take size row)))
