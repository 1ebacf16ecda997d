-- A reader of frames, line by line: it mirrors the code, and no public promise rests on this file.
use Rattle.std.specs.Prelude.{Bool, true, false, cond, ◌&&◌, List, [], ◌∷◌, ◌++◌, map, ℕ, suc, ◌+◌, ◌-◌, ◌/◌, leb}
use Rattle.std.specs.Prelude.{eqb, length, take, drop}
use Rattle.std.proofs.Math.Option.{Option, none, some}
use Rattle.base.specs.Bytes.{bytes}
use Rattle.base.specs.Lists.{all, is_empty, same}
use Rattle.rules.specs.Limits.{line_most, row_lines_most}
use Rattle.rules.specs.Names.{is_label, line_feed}
use Rattle.rules.specs.Rows.{Row, bit_row, long_row, is_drawn_row, is_labelled}
use Rattle.rules.specs.Frames.{tens, units, border, Frame}
use Rattle.rules.specs.Refusals.{unlabelled_line, or_behind}

-- ── a text in pieces, each ended by the byte e ──

-- one more byte in front of the first piece
unfoldable pub on_first : ℕ → List (List ℕ) → List (List ℕ)
on_first b [] = []
on_first b (l ∷ ls) = (b ∷ l) ∷ ls

unfoldable pub pieces : ℕ → List ℕ → List (List ℕ)
pieces e [] = []
pieces e (b ∷ t) = cond (eqb b e) ([] ∷ pieces e t) (on_first b (pieces e t))

-- what is behind the last e
unfoldable pub rest : ℕ → List ℕ → List ℕ
rest e [] = []
rest e (b ∷ t) = cond (eqb b e) (rest e t) (cond (is_empty (pieces e t)) (b ∷ rest e t) (rest e t))

abbrev pub lines_of : List ℕ → List (List ℕ)
lines_of t = pieces line_feed t

-- ── rows ──

-- the bits of what stands between two bars
abbrev pub bits_of : List ℕ → ℕ
bits_of s = (length s + 1) / 2

unfoldable pub keep_row : ℕ → Row → Option Row
keep_row w r = cond (is_drawn_row row_lines_most w r) (some r) none

-- what stands between the bars of a line that begins and ends with one
unfoldable pub strips_of : List ℕ → Option (List (List ℕ))
strips_of [] = none
strips_of (b ∷ l) = cond (eqb b 124 && is_empty (rest 124 l)) (some (pieces 124 l)) none

unfoldable pub long_of : ℕ → List ℕ → List (List ℕ) → Option Row
long_of w r [] = none
long_of w r (s ∷ []) = cond (is_empty r) (keep_row w (long_row (bits_of s) s)) none
long_of w r (s ∷ t ∷ ss) = none

unfoldable pub read_long : ℕ → List ℕ → Option Row
read_long w [] = none
read_long w (b ∷ l) = cond (eqb b 58) (long_of w (rest 58 l) (pieces 58 l)) none

-- the row of a first line: of bits if it has bars
unfoldable pub row_of : ℕ → List ℕ → Option (List (List ℕ)) → Option Row
row_of w l none = read_long w l
row_of w l (some ss) = keep_row w (bit_row (map bits_of ss) (ss ∷ []))

unfoldable pub read_row : ℕ → List ℕ → Option Row
read_row w l = row_of w l (strips_of l)

-- the row with one more line, if that has its bars
unfoldable pub with_strips : ℕ → Row → Option (List (List ℕ)) → Option Row
with_strips w r none = none
with_strips w (bit_row bits lines) (some ss) = keep_row w (bit_row bits (lines ++ (ss ∷ [])))
with_strips w (long_row bits s) (some ss) = none

unfoldable pub more_row : ℕ → Row → List ℕ → Option Row
more_row w r l = with_strips w r (strips_of l)

-- ── the opening line and the tens ruler ──

unfoldable pub closing : List ℕ
closing = bytes " is formatted as follows:"

-- the NAME in front of the closing words
unfoldable pub read_name : List ℕ → Option (List ℕ)
read_name s =
    let n = length s - length closing in
    cond (same (drop n s) closing && is_label (take n s)) (some (take n s)) none

-- W by the tens ruler
unfoldable pub read_tens : List ℕ → Option ℕ
read_tens l =
    cond (same l (tens 8)) (some 8)
    (cond (same l (tens 16)) (some 16)
    (cond (same l (tens 32)) (some 32) none))

-- ── a frame, line by line ──

pub record Top : Type 0 where
  pub an : Bool
  pub name : List ℕ
  pub row_width : ℕ

-- what was read last
pub data State : Type 0 where
  begun : State
  named : Bool → List ℕ → State
  spaced : Bool → List ℕ → State
  ruled : Top → State
  counted : Top → State
  -- a border behind the rows
  bordered : Top → List Row → State
  -- lines of a row behind the last border
  rowed : Top → List Row → Row → State
  -- the three lines behind the last border, and then field lines
  closed : Top → List Row → State
  headed : Top → List Row → State
  filled : Top → List Row → List (List ℕ) → State

unfoldable pub on_name : Bool → Option (List ℕ) → Option State
on_name an none = none
on_name an (some n) = some (named an n)

unfoldable pub on_width : Bool → List ℕ → Option ℕ → Option State
on_width an n none = none
on_width an n (some w) = some (ruled (record { an = an; name = n; row_width = w }))

unfoldable pub on_row : Top → List Row → Option Row → Option State
on_row h rows none = none
on_row h rows (some r) = some (rowed h rows r)

-- behind a border
unfoldable pub row_or_end : Top → List Row → List ℕ → Option State
row_or_end h rows [] = cond (is_empty rows) none (some (closed h rows))
row_or_end h rows (b ∷ l) = on_row h rows (read_row h.row_width (b ∷ l))

unfoldable pub opened : List ℕ → Option State
opened l =
    cond (same (take 3 l) (bytes "An ")) (on_name true (read_name (drop 3 l)))
    (cond (same (take 2 l) (bytes "A ")) (on_name false (read_name (drop 2 l))) none)

-- the line that must be this one
unfoldable pub on_same : List ℕ → State → List ℕ → Option State
on_same w s l = cond (same l w) (some s) none

-- in a row: one more line of it, or the border
unfoldable pub row_or_border : Top → List Row → Row → List ℕ → Option Row → Option State
row_or_border h rows r l none = on_same (border h.row_width) (bordered h (rows ++ (r ∷ []))) l
row_or_border h rows r l (some x) = some (rowed h rows x)

-- one more field line, if it is short enough
unfoldable pub on_brief : Top → List Row → List (List ℕ) → List ℕ → Bool → Option State
on_brief h rows ls l b = cond b (some (filled h rows (ls ++ (l ∷ [])))) none

-- one more line
unfoldable pub step : State → List ℕ → Option State
step begun l = opened l
step (named an n) l = on_same [] (spaced an n) l
step (spaced an n) l = on_width an n (read_tens l)
step (ruled h) l = on_same (units h.row_width) (counted h) l
step (counted h) l = on_same (border h.row_width) (bordered h []) l
step (bordered h rows) l = row_or_end h rows l
step (rowed h rows r) l = row_or_border h rows r l (more_row h.row_width r l)
step (closed h rows) l = on_same (bytes "where:") (headed h rows) l
step (headed h rows) l = on_same [] (filled h rows []) l
step (filled h rows ls) l = on_brief h rows ls l (leb (length l) line_most)

abbrev pub on_state : {A : Type 0} → A → (State → A) → Option State → A
on_state d f none = d
on_state d f (some s) = f s

-- the state behind all lines
unfoldable pub run : State → List (List ℕ) → Option State
run s [] = some s
run s (l ∷ ls) = on_state none (λ q. run q ls) (step s l)

-- the number of right lines in front
unfoldable pub right_from : State → List (List ℕ) → ℕ
right_from s [] = 0
right_from s (l ∷ ls) = on_state 0 (λ q. suc (right_from q ls)) (step s l)

unfoldable pub right_lines : List ℕ → ℕ
right_lines t = right_from begun (lines_of t)

-- a frame ends with a field line
unfoldable pub whole : State → Option Frame
whole begun = none
whole (named an n) = none
whole (spaced an n) = none
whole (ruled h) = none
whole (counted h) = none
whole (bordered h rows) = none
whole (rowed h rows r) = none
whole (closed h rows) = none
whole (headed h rows) = none
whole (filled h rows ls) =
    cond (is_empty ls) none
    (some (record { an = h.an; name = h.name; row_width = h.row_width; rows = rows; lines = ls }))

-- the drawn frame of a text, and its frame: that one, if its cells say labels
unfoldable pub read_drawn : List ℕ → Option Frame
read_drawn t = cond (is_empty (rest line_feed t)) (on_state none whole (run begun (lines_of t))) none

unfoldable pub if_labelled : Option Frame → Option Frame
if_labelled none = none
if_labelled (some f) = cond (all is_labelled f.rows) (some f) none

unfoldable pub read_frame : List ℕ → Option Frame
read_frame t = if_labelled (read_drawn t)

-- ── where a line is wrong ──

-- the state behind the right lines
unfoldable pub reach : State → List (List ℕ) → State
reach s [] = s
reach s (l ∷ ls) = on_state s (λ q. reach q ls) (step s l)

-- its rows, and the one that is not ended
abbrev pub rows_in : State → List Row
rows_in begun = []
rows_in (named an n) = []
rows_in (spaced an n) = []
rows_in (ruled h) = []
rows_in (counted h) = []
rows_in (bordered h rows) = rows
rows_in (rowed h rows r) = rows ++ (r ∷ [])
rows_in (closed h rows) = rows
rows_in (headed h rows) = rows
rows_in (filled h rows ls) = rows

unfoldable pub place_of : List ℕ → ℕ
place_of t = or_behind (right_lines t) (unlabelled_line 5 (rows_in (reach begun (lines_of t))))

-- ── the reader that leaves no row with a cell that is no label ──

-- the rows that are ended
abbrev pub ended_rows : State → List Row
ended_rows begun = []
ended_rows (named an n) = []
ended_rows (spaced an n) = []
ended_rows (ruled h) = []
ended_rows (counted h) = []
ended_rows (bordered h rows) = rows
ended_rows (rowed h rows r) = rows
ended_rows (closed h rows) = rows
ended_rows (headed h rows) = rows
ended_rows (filled h rows ls) = rows

unfoldable pub leave : Top → List Row → Row → List ℕ → Option Row → Option State
leave h rows r l none =
    cond (is_labelled r) (on_same (border h.row_width) (bordered h (rows ++ (r ∷ []))) l) none
leave h rows r l (some x) = some (rowed h rows x)

unfoldable pub strict : State → List ℕ → Option State
strict begun l = step begun l
strict (named an n) l = step (named an n) l
strict (spaced an n) l = step (spaced an n) l
strict (ruled h) l = step (ruled h) l
strict (counted h) l = step (counted h) l
strict (bordered h rows) l = step (bordered h rows) l
strict (rowed h rows r) l = leave h rows r l (more_row h.row_width r l)
strict (closed h rows) l = step (closed h rows) l
strict (headed h rows) l = step (headed h rows) l
strict (filled h rows ls) l = step (filled h rows ls) l

unfoldable pub strict_run : State → List (List ℕ) → Option State
strict_run s [] = some s
strict_run s (l ∷ ls) = on_state none (λ q. strict_run q ls) (strict s l)

-- where it stops behind n lines: the last line of such a row, or the next one
abbrev pub stop_at : ℕ → State → ℕ
stop_at n begun = suc n
stop_at n (named an m) = suc n
stop_at n (spaced an m) = suc n
stop_at n (ruled h) = suc n
stop_at n (counted h) = suc n
stop_at n (bordered h rows) = suc n
stop_at n (rowed h rows r) = cond (is_labelled r) (suc n) n
stop_at n (closed h rows) = suc n
stop_at n (headed h rows) = suc n
stop_at n (filled h rows ls) = suc n

unfoldable pub strict_place : ℕ → State → List (List ℕ) → ℕ
strict_place n s [] = stop_at n s
strict_place n s (l ∷ ls) = on_state (stop_at n s) (λ q. strict_place (suc n) q ls) (strict s l)
