-- Worked cases: rows of several lines. [02, R-1]
use Rattle.std.specs.Prelude.{List, [], ◌∷◌, ◌++◌, map, ℕ, replicate}
use Rattle.std.proofs.Math.Option.{none, some}
use Prim.Native.String.{String}
use Rattle.base.specs.Bytes.{bytes}
use Rattle.base.specs.Lists.{joined}
use Rattle.rules.specs.declared.Op.TheVariants.{Eq}
use Rattle.rules.specs.Trees.{num, read, two}
use Rattle.rules.specs.Fields.{fixed, Form, Description}
use Rattle.rules.specs.Frames.{ended}
use Rattle.rules.specs.Answers.{accepted, refused}
use Rattle.rules.specs.Promises.{leaves}
use Rattle.rules.specs.Stored.{stored}
use Rattle.rules.specs.Cases.{Case, spells, unframed, keeps, breaks, refuses, answers, unnamed, named}
use Rattle.rules.specs.Rows.{Row}
use Rattle.rules.specs.Sheets.{lines_of, many, framed, sheet, plain}

-- ── frames ──

-- fields of one bit and of more
abbrev bit : String → Form
bit l = unnamed l (fixed 1) none none

abbrev wide : ℕ → String → Form
wide n l = unnamed l (fixed n) none none

-- three lines of 8 bits
abbrev word_row : String → Row
word_row last = lines_of (8 ∷ []) ((" abcdefghijklm " ∷ []) ∷ (" nopqrstuvwxyz " ∷ []) ∷ (last ∷ []) ∷ [])

abbrev frames : List Case
frames =
    -- one bit downwards, without its blanks; more bits line by line, without empty lines
    keeps
    (sheet (lines_of (1 ∷ 1 ∷ 1 ∷ 5 ∷ [])
    (("U" ∷ "A" ∷ " " ∷ "   Size  " ∷ [])
    ∷ ("R" ∷ " " ∷ "F" ∷ "         " ∷ [])
    ∷ ("G" ∷ "K" ∷ " " ∷ "of body  " ∷ [])
    ∷ []) ∷ []) 4)
    (bit "URG" ∷ bit "AK" ∷ bit "F" ∷ wide 5 "Size of body" ∷ [])
    -- two bits are read line by line; four lines; blanks inside a line stay
    ∷ keeps
    (sheet (lines_of (2 ∷ 1 ∷ 5 ∷ [])
    (("   " ∷ "A" ∷ "         " ∷ [])
    ∷ (" U " ∷ "C" ∷ "         " ∷ [])
    ∷ ("R-G" ∷ "K" ∷ " a b - c " ∷ [])
    ∷ ("   " ∷ "2" ∷ "         " ∷ [])
    ∷ []) ∷ []) 3)
    (wide 2 "U R-G" ∷ bit "ACK2" ∷ wide 5 "a b - c" ∷ [])
    -- the label of two lines has a space, and that of one bit none
    ∷ breaks (sheet (lines_of (8 ∷ []) (many 2 "       A       ") ∷ []) 1) (plain "AA" ∷ []) (refused 7 12)
    ∷ breaks
    (sheet (lines_of (1 ∷ 7 ∷ []) (("A" ∷ "      C      " ∷ []) ∷ ("B" ∷ "             " ∷ []) ∷ []) ∷ []) 2)
    (bit "A B" ∷ wide 7 "C" ∷ []) (refused 7 12)
    -- four lines; the field lines come so much later
    ∷ keeps (sheet (lines_of (8 ∷ []) (many 4 "       A       ") ∷ []) 1) (plain "A A A A" ∷ [])
    ∷ breaks (sheet (lines_of (8 ∷ []) (many 4 "       A       ") ∷ []) 1) (plain "A" ∷ []) (refused 7 14)
    -- a hyphen at the end of a line is one as any other
    ∷ keeps (sheet (lines_of (8 ∷ []) (("     Run-      " ∷ []) ∷ ("     Time      " ∷ []) ∷ []) ∷ []) 1)
    (named "Run- Time" "T" (fixed 8) none none ∷ [])
    -- a label of 40 characters, and one of 41
    ∷ keeps (sheet (word_row " ABCDEFGHIJKL  " ∷ []) 1) (plain "abcdefghijklm nopqrstuvwxyz ABCDEFGHIJKL" ∷ [])
    ∷ unframed (sheet (word_row " ABCDEFGHIJKLM " ∷ []) 1)
    -- 16 and 32 bits a row
    ∷ keeps (framed "Sheet" 16 (lines_of (1 ∷ 15 ∷ [])
    (("A" ∷ " B                           " ∷ [])
    ∷ ("K" ∷ "                           C " ∷ [])
    ∷ []) ∷ [])
    (replicate 2 (bytes "line"))) (bit "AK" ∷ wide 15 "B C" ∷ [])
    ∷ keeps (framed "Sheet" 32 (lines_of (1 ∷ 31 ∷ [])
    (("A" ∷ " B                                                           " ∷ [])
    ∷ ("K" ∷ "                                                           C " ∷ [])
    ∷ []) ∷ [])
    (replicate 2 (bytes "line"))) (bit "AK" ∷ wide 31 "B C" ∷ [])
    ∷ []

abbrev no_frames : List Case
no_frames =
    -- no line, five lines, other bars in the second line, a cell that is no label, an empty one
    unframed (sheet (lines_of (8 ∷ []) [] ∷ []) 1)
    ∷ unframed (sheet (lines_of (8 ∷ []) (many 5 "       A       ") ∷ []) 1)
    ∷ unframed (sheet (lines_of (1 ∷ 7 ∷ []) (("A" ∷ "      B      " ∷ []) ∷ ("A  " ∷ "     B     " ∷ []) ∷ []) ∷ []) 1)
    ∷ unframed (sheet (lines_of (1 ∷ 7 ∷ []) (("A" ∷ "      B      " ∷ []) ∷ ("-" ∷ "             " ∷ []) ∷ []) ∷ []) 1)
    ∷ unframed (sheet (lines_of (1 ∷ 7 ∷ []) ((" " ∷ "      B      " ∷ []) ∷ (" " ∷ "      C      " ∷ []) ∷ []) ∷ []) 1)
    ∷ []

-- ── the place of 3 ──

-- five lines of 8 bits a row, and then more: the first row begins at line 6
abbrev pub row_text : List String → List ℕ
row_text ls = joined ended (map bytes
    ("A Sheet is formatted as follows:" ∷ "" ∷ " 0" ∷ " 0 1 2 3 4 5 6 7" ∷ "+-+-+-+-+-+-+-+-+" ∷ ls))

abbrev edge : String
edge = "+-+-+-+-+-+-+-+-+"

-- a line of which each cell is a label, and one with an empty second cell
abbrev flags : String
flags = "|U|A|    Size   |"

abbrev empty : String
empty = "|U| |    Size   |"

abbrev at : List String → ℕ → Case
at ls place = refuses (row_text ls) (refused 3 place)

abbrev places : List Case
places =
    -- the text ends in a row, behind one line of it and behind two
    at (flags ∷ []) 7
    ∷ at (empty ∷ []) 6
    ∷ at (flags ∷ flags ∷ []) 8
    ∷ at (empty ∷ empty ∷ []) 7
    -- a line without LF does not count
    ∷ refuses (row_text (flags ∷ []) ++ bytes flags) (refused 3 7)
    ∷ refuses (row_text (empty ∷ []) ++ bytes flags) (refused 3 6)
    -- a wrong line right behind a row: the row's last line if a cell is no label, or else the wrong line
    ∷ at (empty ∷ "" ∷ []) 6
    ∷ at (empty ∷ empty ∷ "where:" ∷ []) 7
    ∷ at (flags ∷ "" ∷ []) 7
    -- in the second line: other bars, a bar at an odd column, one less, too short, too long
    ∷ at (flags ∷ "|R|C  |   of    |" ∷ edge ∷ []) 7
    ∷ at (empty ∷ "|R|C  |   of    |" ∷ edge ∷ []) 6
    ∷ at (flags ∷ "|R|C |    of    |" ∷ edge ∷ []) 7
    ∷ at (flags ∷ "|R| C     of    |" ∷ edge ∷ []) 7
    ∷ at (flags ∷ "|R|C|     of   |" ∷ edge ∷ []) 7
    ∷ at (flags ∷ "|R|C|     of    | " ∷ edge ∷ []) 7
    -- in the first
    ∷ at ("| U|A|   Size   |" ∷ edge ∷ []) 6
    ∷ at ("| U|A|   Size   |" ∷ flags ∷ edge ∷ []) 6
    -- in an empty line between two of a row
    ∷ at (flags ∷ "" ∷ flags ∷ edge ∷ []) 7
    ∷ []

abbrev more_places : List Case
more_places =
    -- a fifth line; with an empty cell in the four before it
    at (flags ∷ flags ∷ flags ∷ flags ∷ flags ∷ edge ∷ []) 10
    ∷ at (empty ∷ empty ∷ empty ∷ empty ∷ flags ∷ edge ∷ []) 9
    -- four lines and a border, and then the text ends
    ∷ at (flags ∷ empty ∷ empty ∷ empty ∷ edge ∷ []) 11
    ∷ at (empty ∷ empty ∷ empty ∷ empty ∷ edge ∷ []) 9
    -- an empty cell, and one that is no label; the first row counts, at its last line
    ∷ at (empty ∷ edge ∷ "" ∷ "where:" ∷ "" ∷ "x" ∷ []) 6
    ∷ at ("|U|#|    Size   |" ∷ flags ∷ edge ∷ "" ∷ "where:" ∷ "" ∷ "x" ∷ []) 7
    ∷ at (flags ∷ edge ∷ empty ∷ empty ∷ edge ∷ empty ∷ edge ∷ []) 9
    ∷ at (empty ∷ edge ∷ "wrong" ∷ []) 6
    ∷ at (flags ∷ flags ∷ edge ∷ "wrong" ∷ []) 9
    ∷ at (flags ∷ flags ∷ edge ∷ empty ∷ empty ∷ edge ∷ []) 10
    -- a label of 41 characters in three lines
    ∷ at ("| abcdefghijklm |" ∷ "| nopqrstuvwxyz |" ∷ "| ABCDEFGHIJKLM |" ∷ edge ∷ []) 8
    -- blanks inside a line stay
    ∷ at ("|U|A|  a  b     |" ∷ edge ∷ []) 6
    -- a further line mends a cell
    ∷ at (empty ∷ flags ∷ edge ∷ []) 9
    -- a long row has one line
    ∷ at (":     Body      :" ∷ ":               :" ∷ edge ∷ []) 7
    ∷ at (":               :" ∷ edge ∷ []) 6
    ∷ at (":               :" ∷ ":     Body      :" ∷ edge ∷ []) 6
    ∷ at (":     Body      :" ∷ flags ∷ edge ∷ []) 7
    ∷ at (flags ∷ ":     Body      :" ∷ edge ∷ []) 7
    -- a first line that is none of a row
    ∷ at (edge ∷ []) 6
    ∷ at ("" ∷ []) 6
    ∷ []

-- ── whole texts ──

abbrev pub flag_lines : List String
flag_lines = "URG: 1 bit." ∷ "AK: 1 bit." ∷ "F: 1 bit." ∷ "Size of body: 5 bits; URG == 1." ∷ []

abbrev pub flag_row : List String
flag_row = "|U|A| |   Size  |" ∷ "|R| |F|         |" ∷ "|G|K| |of body  |" ∷ edge ∷ "" ∷ "where:" ∷ "" ∷ []

abbrev pub flag_page : Description
flag_page = record {
  name = bytes "Sheet";
  row_width = 8;
  fields =
      unnamed "URG" (fixed 1) none none
      ∷ unnamed "AK" (fixed 1) none none
      ∷ unnamed "F" (fixed 1) none none
      ∷ unnamed "Size of body" (fixed 5) (some (two Eq (read 0) (num 1))) none
      ∷ [];
}

abbrev texts : List Case
texts =
    spells (row_text (flag_row ++ flag_lines)) flag_page
    ∷ answers (row_text (flag_row ++ flag_lines)) (replicate 109 9) (leaves (accepted 109) (stored flag_page))
    ∷ answers (row_text (flag_row ++ flag_lines)) (replicate 108 9) (leaves (refused 11 0) (replicate 108 9))
    -- numbers of field lines: behind the row's three lines; a cell that is not the line's
    ∷ refuses (row_text (flag_row ++ ("URG: 1 bit" ∷ []))) (refused 5 13)
    ∷ refuses (row_text (flag_row ++ ("U R G: 1 bit." ∷ "AK: 1 bit." ∷ "F: 1 bit." ∷ "Size of body: 5 bits." ∷ [])))
    (refused 7 13)
    ∷ refuses (row_text (flag_row ++ ("URG: 1 bit." ∷ "AK: 1 bit." ∷ "F: 1 bit." ∷ "Sizeof body: 5 bits." ∷ [])))
    (refused 7 16)
    ∷ []

-- rows of eight cells, of two lines each: of 16, and of one more, that make too many cells
abbrev flag_rows : ℕ → List String
flag_rows n = joined (λ ls. ls) (replicate n ("|A|B|C|D|E|F|G|H|" ∷ "|1|2|3|4|5|6|7|8|" ∷ edge ∷ []))

abbrev many_cells : List Case
many_cells =
    refuses (row_text (flag_rows 16 ++ ("" ∷ "where:" ∷ "" ∷ "x" ∷ []))) (refused 5 57)
    ∷ refuses (row_text (flag_rows 17 ++ ("" ∷ "where:" ∷ "" ∷ "x" ∷ []))) (refused 4 0)
    ∷ []

abbrev pub rows : List Case
rows = frames ++ (no_frames ++ (places ++ (more_places ++ (texts ++ many_cells))))
