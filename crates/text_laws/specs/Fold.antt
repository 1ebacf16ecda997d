-- One fold over the bytes of a text. What is kept between bytes is what document 02 (R-9) allows, and nothing else.
-- No public promise rests on this file.
use Rattle.std.specs.Prelude.{◌≡◌, Bool, true, false, cond, ℕ, suc, leb, ltb, eqb, length, take, drop}
use mathlib.Core.List.{List, [], ◌∷◌, ◌++◌, foldl}
use Rattle.std.proofs.Math.Option.{Option, none, some}
use Rattle.base.specs.Bytes.{bytes}
use Rattle.base.specs.Lists.{is_empty, same}
use Rattle.rules.specs.Answers.{Answer, refused}
use Rattle.rules.specs.Limits.{text_most, line_most, fields_most}
use Rattle.rules.specs.Names.{is_allowed, line_feed}
use Rattle.rules.specs.Fields.{Description}
use Rattle.rules.specs.Rows.{Row, is_labelled}
use Rattle.rules.specs.Frames.{Slot, units, border, slots_in}
use Rattle.rules.specs.Stored.{stored}
use Rattle.rules.specs.Promises.{Outcome, leaves, delivered}
use Rattle.text_laws.specs.FrameReader.{read_name, read_tens, read_row, more_row}
use Rattle.text_laws.specs.Lowest.{lower}
use Rattle.text_laws.specs.Judging.{Judged, many, judge}

-- ── what is kept ──

-- the line that must come next
pub data Stage : Type 0 where
  opening : Stage
  blank : Stage
  tens_ruler : Stage
  units_ruler : Stage
  top_border : Stage
  first_row : Stage
  -- a further line of a row, or its border
  in_row : Stage
  row_or_blank : Stage
  where_line : Stage
  last_blank : Stage
  first_field : Stage
  field_line : Stage
  -- 1, 2 or 3 was found: no line matters any more
  lost : Stage

-- by whole lines
pub record Found : Type 0 where
  -- whole lines so far
  pub lines : ℕ
  pub stage : Stage
  -- NAME and W, once they are read
  pub name : List ℕ
  pub width : ℕ
  -- the row that is not ended
  pub row : Option Row
  -- of the rows that are, no more than there may be
  pub cells : List Slot
  pub judged : Judged

-- by bytes
pub record Kept : Type 0 where
  -- bytes so far, at most the limit
  pub size : ℕ
  -- the unfinished line, at most the limit
  pub line : List ℕ
  pub found : Found

abbrev pub unjudged : Judged
unjudged = record { count = 0; fields = []; lowest = none }

abbrev pub start : Found
start = record { lines = 0; stage = opening; name = []; width = 0; row = none; cells = []; judged = unjudged }

abbrev pub fresh : Kept
fresh = record { size = 0; line = []; found = start }

-- ── a whole line ──

-- a right line, and what must come next
abbrev pub onward : Stage → Found → Found
onward s f = record {
  lines = suc f.lines;
  stage = s;
  name = f.name;
  width = f.width;
  row = f.row;
  cells = f.cells;
  judged = f.judged;
}

abbrev pub noted : Answer → Judged → Judged
noted a j = record { count = j.count; fields = j.fields; lowest = some a }

-- a refusal by 1, 2 or 3: each is lower than what was noted before
abbrev pub losing : Answer → Found → Found
losing a f = record {
  lines = f.lines;
  stage = lost;
  name = f.name;
  width = f.width;
  row = f.row;
  cells = f.cells;
  judged = noted a f.judged;
}

-- behind n lines: the next one, or the last one of a row with a cell that is no label
abbrev pub blamed : Option Row → ℕ → ℕ
blamed none n = suc n
blamed (some r) n = cond (is_labelled r) (suc n) n

-- 3 where this line is wrong
abbrev pub wrong : Found → Found
wrong f = losing (refused 3 (blamed f.row f.lines)) f

-- the line that must be this one
abbrev pub expect : List ℕ → Stage → Found → List ℕ → Found
expect w s f l = cond (same l w) (onward s f) (wrong f)

unfoldable pub opening_name : List ℕ → Option (List ℕ)
opening_name l =
    cond (same (take 3 l) (bytes "An ")) (read_name (drop 3 l))
    (cond (same (take 2 l) (bytes "A ")) (read_name (drop 2 l)) none)

abbrev pub with_name : Found → Option (List ℕ) → Found
with_name f none = wrong f
with_name f (some n) = record {
  lines = suc f.lines;
  stage = blank;
  name = n;
  width = f.width;
  row = f.row;
  cells = f.cells;
  judged = f.judged;
}

abbrev pub with_width : Found → Option ℕ → Found
with_width f none = wrong f
with_width f (some w) = record {
  lines = suc f.lines;
  stage = units_ruler;
  name = f.name;
  width = w;
  row = none;
  cells = f.cells;
  judged = f.judged;
}

-- in a row
abbrev pub with_line : Found → Row → Found
with_line f r = record {
  lines = suc f.lines;
  stage = in_row;
  name = f.name;
  width = f.width;
  row = some r;
  cells = f.cells;
  judged = f.judged;
}

abbrev pub with_row : Found → Option Row → Found
with_row f none = wrong f
with_row f (some r) = with_line f r

-- cells with those of the row that ends, or 4
abbrev pub with_cells : Found → List Slot → Found
with_cells f cs = record {
  lines = suc f.lines;
  stage = row_or_blank;
  name = f.name;
  width = f.width;
  row = none;
  cells = cond (ltb fields_most (length cs)) f.cells cs;
  judged = cond (ltb fields_most (length cs)) (many f.judged) f.judged;
}

-- a further line of a row, or its border if all cells say labels
abbrev pub on_more : Found → ℕ → Row → List ℕ → Option Row → Found
on_more f w r l none =
    cond (is_labelled r) (cond (same l (border w)) (with_cells f (f.cells ++ slots_in r)) (wrong f)) (wrong f)
on_more f w r l (some x) = with_line f x

abbrev pub with_more : Found → List ℕ → Option Row → Found
with_more f l none = wrong f
with_more f l (some r) = on_more f f.width r l (more_row f.width r l)

abbrev pub brief_field : Found → List ℕ → Found
brief_field f l = record {
  lines = suc f.lines;
  stage = field_line;
  name = f.name;
  width = f.width;
  row = f.row;
  cells = f.cells;
  judged = judge f.cells (suc f.lines) f.judged l;
}

-- 3 where it is too long
abbrev pub with_field : Found → List ℕ → Found
with_field f l = cond (leb (length l) line_most) (brief_field f l) (wrong f)

unfoldable pub lined_at : Stage → Found → List ℕ → Found
lined_at opening f l = with_name f (opening_name l)
lined_at blank f l = expect [] tens_ruler f l
lined_at tens_ruler f l = with_width f (read_tens l)
lined_at units_ruler f l = expect (units f.width) top_border f l
lined_at top_border f l = expect (border f.width) first_row f l
lined_at first_row f l = with_row f (read_row f.width l)
lined_at in_row f l = with_more f l f.row
lined_at row_or_blank f l = cond (is_empty l) (onward where_line f) (with_row f (read_row f.width l))
lined_at where_line f l = expect (bytes "where:") last_blank f l
lined_at last_blank f l = expect [] first_field f l
lined_at first_field f l = with_field f l
lined_at field_line f l = with_field f l
lined_at lost f l = f

-- one more line
abbrev pub lined : Found → List ℕ → Found
lined f l = lined_at f.stage f l

-- ── a line that is too long ──

abbrev pub is_lost : Stage → Bool
is_lost opening = false
is_lost blank = false
is_lost tens_ruler = false
is_lost units_ruler = false
is_lost top_border = false
is_lost first_row = false
is_lost in_row = false
is_lost row_or_blank = false
is_lost where_line = false
is_lost last_blank = false
is_lost first_field = false
is_lost field_line = false
is_lost lost = true

-- 3 where the line that has begun is wrong, unless 1, 2 or 3 was found
abbrev pub cut : Found → Found
cut f = cond (is_lost f.stage) f (wrong f)

-- behind bytes that no LF ends
unfoldable pub unended : Found → List ℕ → Found
unended f l = cond (ltb line_most (length l)) (cut f) f

-- ── a byte ──

abbrev pub put : Kept → List ℕ → Found → Kept
put k l f = record { size = suc k.size; line = l; found = f }

-- an LF hands on a whole line; of a line that is too long no more bytes are kept
abbrev pub taken : Kept → ℕ → Kept
taken k b =
    cond (eqb b line_feed) (put k [] (lined k.found k.line))
    (cond (ltb (length k.line) line_most) (put k (k.line ++ (b ∷ [])) k.found)
    (put k k.line (cut k.found)))

-- 1
abbrev pub over : Kept → Kept
over k = record { size = k.size; line = k.line; found = losing (refused 1 0) k.found }

-- one more byte: 1, then 2, then the lines
unfoldable pub fed : Kept → ℕ → Kept
fed k b =
    cond (ltb k.size text_most)
    (cond (is_allowed b) (taken k b) (put k k.line (losing (refused 2 0) k.found)))
    (over k)

unfoldable pub kept : List ℕ → Kept
kept t = foldl fed fresh t

-- ── the end ──

-- 3 where the text ends early
abbrev pub early : Found → Option Answer
early f = some (refused 3 (blamed f.row f.lines))

-- 7 where cells remain
abbrev pub uncelled : Found → Option Answer
uncelled f =
    cond (ltb (length f.judged.fields) (length f.cells)) (some (refused 7 (suc f.lines))) none

-- the lowest refusal of the whole text
unfoldable pub lowest_at : Stage → List ℕ → Found → Option Answer
lowest_at opening l f = early f
lowest_at blank l f = early f
lowest_at tens_ruler l f = early f
lowest_at units_ruler l f = early f
lowest_at top_border l f = early f
lowest_at first_row l f = early f
lowest_at in_row l f = early f
lowest_at row_or_blank l f = early f
lowest_at where_line l f = early f
lowest_at last_blank l f = early f
lowest_at first_field l f = early f
lowest_at field_line l f = cond (is_empty l) (lower f.judged.lowest (uncelled f)) (early f)
lowest_at lost l f = f.judged.lowest

abbrev pub lowest_of : Kept → Option Answer
lowest_of k = lowest_at k.found.stage k.line k.found

abbrev pub found_description : Found → Description
found_description f = record { name = f.name; row_width = f.width; fields = f.judged.fields }

abbrev pub outcome : Found → List ℕ → Option Answer → Outcome
outcome f out none = delivered (stored (found_description f)) out
outcome f out (some a) = leaves a out

unfoldable pub finish : Kept → List ℕ → Outcome
finish k out = outcome k.found out (lowest_of k)

-- ── alike ──

-- no difference at the end, nor for later bytes if as many came before: where 1, 2 or 3 was found, no unfinished line
-- matters
pub record Alike (a b : Kept) : Type 0 where
  pub found : a.found ≡ b.found
  pub line : is_lost a.found.stage ≡ false → a.line ≡ b.line
