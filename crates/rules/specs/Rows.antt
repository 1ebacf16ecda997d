-- Rows between borders: the text of a cell, and the lines of a row. From the row to its lines.
-- [01, The lines of a text] [02, R-1]
use Rattle.std.specs.Prelude.{Bool, true, false, cond, ◌&&◌, not, List, [], ◌∷◌, ◌++◌, map, ℕ, ◌+◌, ◌*◌, eqb, length}
use Rattle.base.specs.Bytes.{bytes}
use Rattle.base.specs.Lists.{all, only, is_empty, between, joined, sum}
use Rattle.rules.specs.Names.{is_label, is_space, line_feed}

-- ── the text of a cell ──

-- without blanks in front, and without them at both ends
unfoldable pub left_trim : List ℕ → List ℕ
left_trim [] = []
left_trim (c ∷ s) = cond (is_space c) (left_trim s) (c ∷ s)

unfoldable pub keep_end : ℕ → List ℕ → List ℕ
keep_end c [] = cond (is_space c) [] (c ∷ [])
keep_end c (d ∷ s) = c ∷ d ∷ s

unfoldable pub right_trim : List ℕ → List ℕ
right_trim [] = []
right_trim (c ∷ s) = keep_end c (right_trim s)

abbrev pub trimmed : List ℕ → List ℕ
trimmed s = right_trim (left_trim s)

-- one after the other, with a space between two
unfoldable pub by_spaces : List (List ℕ) → List ℕ
by_spaces [] = []
by_spaces (s ∷ []) = s
by_spaces (s ∷ t ∷ ss) = s ++ (32 ∷ by_spaces (t ∷ ss))

-- what stands between two bars, from the row's first line to its last
pub record Cell : Type 0 where
  pub bits : ℕ
  pub lines : List (List ℕ)

-- of one bit: its characters from top to bottom, without blanks; of more: its trimmed lines that are not empty, with a
-- space between two
unfoldable pub cell_text : Cell → List ℕ
cell_text c =
    cond (eqb c.bits 1) (only (λ b. not (is_space b)) (joined (λ l. l) c.lines))
    (by_spaces (only (λ l. not (is_empty l)) (map trimmed c.lines)))

-- ── the lines of a row ──

pub data Row : Type 0 where
  -- the bits of its cells, and what stands between the bars: line by line, and in a line cell by cell
  bit_row : List ℕ → List (List (List ℕ)) → Row
  -- the bits, and what stands between the colons
  long_row : ℕ → List ℕ → Row

abbrev pub bar_line : List (List ℕ) → List ℕ
bar_line ss = bytes "|" ++ joined (λ s. s ++ bytes "|") ss

unfoldable pub row_lines : Row → List (List ℕ)
row_lines (bit_row bits lines) = map bar_line lines
row_lines (long_row bits s) = (bytes ":" ++ (s ++ bytes ":")) ∷ []

-- with a bar, a cell takes two columns for each bit; neither its bar nor an LF stands in it
abbrev pub is_fitted : ℕ → ℕ → List ℕ → Bool
is_fitted bar n s =
    eqb (length s + 1) (2 * n) && (all (λ b. not (eqb b bar)) s && all (λ b. not (eqb b line_feed)) s)

-- a line has the bars of the row
unfoldable pub are_fitted : List ℕ → List (List ℕ) → Bool
are_fitted [] [] = true
are_fitted [] (s ∷ ss) = false
are_fitted (n ∷ bits) [] = false
are_fitted (n ∷ bits) (s ∷ ss) = is_fitted 124 n s && are_fitted bits ss

-- the row is drawn right, whatever its cells say: W bits, in 1 to so many lines with the same bars, or in a long one
abbrev pub is_drawn_row : ℕ → ℕ → Row → Bool
is_drawn_row most w (bit_row bits lines) =
    eqb (sum (λ n. n) bits) w && (between 1 (length lines) most && all (are_fitted bits) lines)
is_drawn_row most w (long_row bits s) = eqb bits w && is_fitted 58 bits s

-- ── the cells of a row ──

abbrev pub first : List (List ℕ) → List ℕ
first [] = []
first (s ∷ ss) = s

abbrev pub others : List (List ℕ) → List (List ℕ)
others [] = []
others (s ∷ ss) = ss

-- each cell with its part of each line
unfoldable pub columns : List ℕ → List (List (List ℕ)) → List Cell
columns [] lines = []
columns (n ∷ bits) lines = record { bits = n; lines = map first lines } ∷ columns bits (map others lines)

abbrev pub row_cells : Row → List Cell
row_cells (bit_row bits lines) = columns bits lines
row_cells (long_row bits s) = record { bits = bits; lines = s ∷ [] } ∷ []

-- each cell's text is a label
abbrev pub is_labelled : Row → Bool
is_labelled r = all (λ c. is_label (cell_text c)) (row_cells r)

abbrev pub is_long : Row → Bool
is_long (bit_row bits lines) = false
is_long (long_row bits s) = true
