-- The frame of a text: opening line, rulers, borders, rows of cells, and field lines of any form.
-- From the frame to its text. [01, The lines of a text] [02, R-1] [02, R-9]
use Rattle.std.specs.Prelude.{◌≡◌, Bool, true, false, cond, ◌&&◌, ◌||◌, not, List, [], ◌∷◌, ◌++◌, map, ℕ, suc, ◌+◌}
use Rattle.std.specs.Prelude.{◌*◌, ◌-◌, ◌/◌, ◌%◌, leb, ltb, eqb, length}
use Rattle.base.specs.Bytes.{bytes}
use Rattle.base.specs.Lists.{all, is_empty, joined, tabulate}
use Rattle.rules.specs.Editions.{Edition, current}
use Rattle.rules.specs.Names.{is_label, line_feed}
use Rattle.rules.specs.Within.{is_row_width}
use Rattle.rules.specs.Rows.{Row, row_lines, is_drawn_row, row_cells, cell_text, is_labelled, is_long}

-- ── rulers and borders: the character at each column, from 0 ──

-- the digit i / 10 at the column 2i + 1 of each i divisible by 10
abbrev pub tens_at : ℕ → ℕ
tens_at c = cond (eqb (c % 20) 1) (48 + c / 20) 32

-- it ends with the last digit
unfoldable pub tens : ℕ → List ℕ
tens w = tabulate tens_at 0 (20 * ((w - 1) / 10) + 2)

-- a space and the digit i mod 10
abbrev pub units_at : ℕ → ℕ
units_at c = cond (eqb (c % 2) 0) 32 (48 + c / 2 % 10)

unfoldable pub units : ℕ → List ℕ
units w = tabulate units_at 0 (2 * w)

abbrev pub border_at : ℕ → ℕ
border_at c = cond (eqb (c % 2) 0) 43 45

unfoldable pub border : ℕ → List ℕ
border w = tabulate border_at 0 (2 * w + 1)

-- ── the whole ──

pub record Frame : Type 0 where
  -- `An` and not `A`
  pub an : Bool
  pub name : List ℕ
  pub row_width : ℕ
  pub rows : List Row
  pub lines : List (List ℕ)

abbrev pub article : Bool → List ℕ
article true = bytes "An "
article false = bytes "A "

abbrev pub is_line : List ℕ → Bool
is_line l = all (λ b. not (eqb b line_feed)) l

-- short enough, by an edition: asked of field lines, since the other lines of a frame are so by themselves [02, R-9]
abbrev pub is_brief_in : Edition → List ℕ → Bool
is_brief_in e l = leb (length l) e.line_bytes

-- drawn right, whatever the cells say, by an edition
unfoldable pub is_drawn_in : Edition → Frame → Bool
is_drawn_in e f =
    is_label f.name
    && (is_row_width f.row_width
    && (not (is_empty f.rows)
    && (all (is_drawn_row e.row_lines f.row_width) f.rows
    && (not (is_empty f.lines)
    && (all is_line f.lines && all (is_brief_in e) f.lines)))))

-- and the text of each cell is a label
abbrev pub is_frame_in : Edition → Frame → Bool
is_frame_in e f = is_drawn_in e f && all is_labelled f.rows

-- the lines up to the rows, and up to the field lines
abbrev pub top_lines : Frame → List (List ℕ)
top_lines f =
    (article f.an ++ (f.name ++ bytes " is formatted as follows:"))
    ∷ []
    ∷ tens f.row_width
    ∷ units f.row_width
    ∷ border f.row_width
    ∷ []

unfoldable pub head_lines : Frame → List (List ℕ)
head_lines f =
    top_lines f
    ++ (joined (λ r. row_lines r ++ (border f.row_width ∷ [])) f.rows ++ ([] ∷ bytes "where:" ∷ [] ∷ []))

abbrev pub ended : List ℕ → List ℕ
ended l = l ++ (line_feed ∷ [])

unfoldable pub frame_text : Frame → List ℕ
frame_text f = joined ended (head_lines f ++ f.lines)

-- the text is that of the frame, by an edition
pub record FrameOfIn (e : Edition) (text : List ℕ) (f : Frame) : Type 0 where
  pub is_framed : is_frame_in e f ≡ true
  pub is_text : frame_text f ≡ text

-- the number, from 1, of the field line of an index [01, Refusal numbers]
abbrev pub line_number : Frame → ℕ → ℕ
line_number f i = suc (length (head_lines f)) + i

-- ── the cells in order ──

-- a cell of a long row, or of some bits
pub record Slot : Type 0 where
  pub long : Bool
  pub bits : ℕ
  pub text : List ℕ

abbrev pub slots_in : Row → List Slot
slots_in r = map (λ c. record { long = is_long r; bits = c.bits; text = cell_text c }) (row_cells r)

unfoldable pub cells : Frame → List Slot
cells f = joined slots_in f.rows

-- too many cells or field lines, by an edition [01, Refusal numbers] [02, R-10]
abbrev pub is_overfull_in : Edition → Frame → Bool
is_overfull_in e f = ltb e.fields (length (cells f)) || ltb e.fields (length f.lines)

-- by the edition in force
abbrev pub is_brief : List ℕ → Bool
is_brief l = is_brief_in current l

abbrev pub is_drawn : Frame → Bool
is_drawn f = is_drawn_in current f

abbrev pub is_frame : Frame → Bool
is_frame f = is_frame_in current f

abbrev pub FrameOf : List ℕ → Frame → Type 0
FrameOf text f = FrameOfIn current text f

abbrev pub is_overfull : Frame → Bool
is_overfull f = is_overfull_in current f
