-- Answers of programs that are wrong about rows of several lines. [02, R-1]
use Rattle.std.specs.Prelude.{List, [], ◌∷◌, ◌++◌, map, ℕ, Err}
use Rattle.std.proofs.Math.Option.{none}
use Prim.Native.String.{String}
use Rattle.base.specs.Bytes.{bytes}
use Rattle.base.specs.Lists.{joined}
use Rattle.rules.specs.declared.TextRefusal.TheVariants.{BadLine, BadForm, Mismatch, BadName}
use Rattle.rules.specs.Fields.{fixed, rest, Description}
use Rattle.rules.specs.Frames.{ended}
use Rattle.rules.specs.Cases.{unnamed}
use Rattle.rules.specs.Pages.{page}
use Rattle.text_laws.specs.WrongTexts.{Claim, leaves_it, writes_table}

-- ── texts and descriptions ──

abbrev pub edge : String
edge = "+-+-+-+-+-+-+-+-+"

-- lines of 8 bits a row, behind the top border at line 5
abbrev pub behind_top : List String → List ℕ
behind_top ls = joined ended (map bytes
    ("A Page is formatted as follows:" ∷ "" ∷ " 0" ∷ " 0 1 2 3 4 5 6 7" ∷ edge ∷ ls))

-- a row, its border, and field lines
abbrev pub row_page : List String → List String → List ℕ
row_page row lines = behind_top (row ++ (edge ∷ "" ∷ "where:" ∷ "" ∷ lines))

-- one field of 8 bits
abbrev pub one_field : String → Description
one_field l = page (unnamed l (fixed 8) none none ∷ [])

-- two flags of one bit, and 6 bits
abbrev pub flags : String → String → String → Description
flags a b c = page
    (unnamed a (fixed 1) none none ∷ unnamed b (fixed 1) none none ∷ unnamed c (fixed 6) none none ∷ [])

-- a label of two lines, at lines 6 and 7, with its field line
abbrev pub two_lines : String → List ℕ
two_lines line = row_page ("|     Run       |" ∷ "|       Time    |" ∷ []) (line ∷ [])

abbrev pub hyphened : String → List ℕ
hyphened line = row_page ("|     Run-      |" ∷ "|     Time      |" ∷ []) (line ∷ [])

-- two lines of 13 letters and a third one, at lines 6 to 8
abbrev pub forty_text : String → List String → List ℕ
forty_text last lines = row_page ("| abcdefghijklm |" ∷ "| nopqrstuvwxyz |" ∷ last ∷ []) lines

-- flags downwards, at lines 6 to 8
abbrev pub flag_row : List String
flag_row = "|S|A|   Time    |" ∷ "|Y| |           |" ∷ "|N|K|           |" ∷ []

abbrev pub flag_text : List String → List ℕ
flag_text lines = row_page flag_row lines

-- four lines of one cell
abbrev pub four : List String
four = "|       A       |" ∷ "|               |" ∷ "|               |" ∷ "|               |" ∷ []

-- and a fifth one, with a field line
abbrev pub five_text : List ℕ
five_text = row_page (four ++ ("|               |" ∷ [])) ("A: 8 bits." ∷ [])

-- a long row with a second line, and the label of its field line
abbrev pub long_text : String → String → String → List ℕ
long_text first second label =
    behind_top (first ∷ second ∷ edge ∷ "" ∷ "where:" ∷ "" ∷ []) ++ ended (bytes label ++ bytes ": variable.")

abbrev pub body : String → Description
body l = page (unnamed l rest none none ∷ [])

-- ── claims ──

abbrev cell_texts : List Claim
cell_texts =
    -- the lines of a wider cell joined without a space, only the first one, only the last one, or any other label
    writes_table (two_lines "RunTime: 8 bits.") (one_field "RunTime")
    ∷ writes_table (two_lines "Run: 8 bits.") (one_field "Run")
    ∷ writes_table (two_lines "Time: 8 bits.") (one_field "Time")
    ∷ leaves_it (two_lines "Run Time: 8 bits.") (Err (Mismatch 12))
    -- a word joined to the rest of it behind a hyphen, which then goes or stays
    ∷ writes_table (hyphened "RunTime: 8 bits.") (one_field "RunTime")
    ∷ writes_table (hyphened "Run-Time: 8 bits.") (one_field "Run-Time")
    -- a second line refused, as where rows have one
    ∷ leaves_it (two_lines "Run Time: 8 bits.") (Err (BadLine 7))
    -- an empty line in a wider cell counted as a part of its text
    ∷ leaves_it (row_page ("|     Run       |" ∷ "|               |" ∷ "|       Time    |" ∷ [])
    ("Run Time: 8 bits." ∷ [])) (Err (BadLine 8))
    ∷ leaves_it (row_page ("|               |" ∷ "|       Time    |" ∷ []) ("Time: 8 bits." ∷ [])) (Err (BadLine 7))
    ∷ leaves_it (row_page ("|               |" ∷ "|       Time    |" ∷ []) ("Time: 8 bits." ∷ [])) (Err (BadLine 6))
    -- a blank in a cell of one bit refused, and other labels there
    ∷ leaves_it (flag_text ("SYN: 1 bit." ∷ "AK: 1 bit." ∷ "Time: 6 bits." ∷ [])) (Err (BadLine 8))
    ∷ leaves_it (flag_text ("SYN: 1 bit." ∷ "AK: 1 bit." ∷ "Time: 6 bits." ∷ [])) (Err (Mismatch 13))
    ∷ leaves_it (flag_text ("SYN: 1 bit." ∷ "AK: 1 bit." ∷ "Time: 6 bits." ∷ [])) (Err (Mismatch 14))
    -- its lines joined by spaces, a blank kept in it, its lines read from below
    ∷ writes_table (flag_text ("S Y N: 1 bit." ∷ "A K: 1 bit." ∷ "Time: 6 bits." ∷ [])) (flags "S Y N" "A K" "Time")
    ∷ writes_table (flag_text ("SYN: 1 bit." ∷ "A K: 1 bit." ∷ "Time: 6 bits." ∷ [])) (flags "SYN" "A K" "Time")
    ∷ writes_table (flag_text ("NYS: 1 bit." ∷ "KA: 1 bit." ∷ "Time: 6 bits." ∷ [])) (flags "NYS" "KA" "Time")
    ∷ []

abbrev labelled : List Claim
labelled =
    -- a wider cell read downwards
    leaves_it (row_page ("| R |    B      |" ∷ "| M |           |" ∷ []) ("R M: 2 bits." ∷ "B: 6 bits." ∷ []))
    (Err (Mismatch 12))
    -- a flag's label that is not found where it is read
    ∷ leaves_it (flag_text ("SYN: 1 bit." ∷ "AK: 1 bit; SYN == 1." ∷ "Time: 6 bits." ∷ [])) (Err (BadName 14))
    -- field lines counted as if each row had one line
    ∷ leaves_it (flag_text ("SYN: 1 bit." ∷ "AK: 1 bit" ∷ "Time: 6 bits." ∷ [])) (Err (BadForm 12))
    ∷ leaves_it (flag_text ("SYN: 1 bit." ∷ "K: 1 bit." ∷ "Time: 6 bits." ∷ [])) (Err (Mismatch 12))
    -- each line taken for a row of cells of its own
    ∷ writes_table (row_page ("|       A       |" ∷ "|       B       |" ∷ []) ("A: 8 bits." ∷ "B: 8 bits." ∷ []))
    (page (unnamed "A" (fixed 8) none none ∷ unnamed "B" (fixed 8) none none ∷ []))
    -- a label of 41 characters accepted, since each line is short or its two spaces are not counted; and blamed on the
    -- border
    ∷ leaves_it (forty_text "| ABCDEFGHIJKLM |" ("A: 8 bits." ∷ [])) (Err (Mismatch 13))
    ∷ leaves_it (forty_text "| ABCDEFGHIJKLM |" ("A: 8 bits." ∷ [])) (Err (BadLine 9))
    -- one of 40 refused
    ∷ leaves_it (forty_text "| ABCDEFGHIJKL  |" ("A: 8 bits." ∷ [])) (Err (BadLine 8))
    ∷ []

abbrev bars_and_lines : List Claim
bars_and_lines =
    -- a fifth line accepted, or blamed on the line before it or behind it
    writes_table five_text (one_field "A")
    ∷ leaves_it five_text (Err (BadLine 9))
    ∷ leaves_it five_text (Err (BadLine 11))
    -- a fourth refused
    ∷ leaves_it (row_page four ("A: 8 bits." ∷ [])) (Err (BadLine 9))
    -- other bars in the third line accepted; in the second, blamed on the row's first line, or on its border
    ∷ writes_table (row_page ("|   A   |   B   |" ∷ "|       |       |" ∷ "|     |         |" ∷ [])
    ("A: 4 bits." ∷ "B: 4 bits." ∷ [])) (page (unnamed "A" (fixed 4) none none ∷ unnamed "B" (fixed 4) none none ∷ []))
    ∷ leaves_it (behind_top ("|   A   |   B   |" ∷ "|     |         |" ∷ edge ∷ [])) (Err (BadLine 6))
    ∷ leaves_it (behind_top ("|   A   |   B   |" ∷ "|     |         |" ∷ edge ∷ [])) (Err (BadLine 8))
    -- more bars in a further line, and fewer, taken for a line of the row
    ∷ leaves_it (behind_top ("|   A   |   B   |" ∷ "|   |   |       |" ∷ edge ∷ [])) (Err (BadLine 9))
    ∷ leaves_it (behind_top ("|   A   |   B   |" ∷ "|               |" ∷ edge ∷ [])) (Err (BadLine 9))
    -- a second line under a long row accepted, blamed on the first, on the border, or joined to the row's text
    ∷ writes_table (long_text ":     Body      :" ":               :" "Body") (body "Body")
    ∷ leaves_it (long_text ":     Body      :" ":               :" "Body") (Err (BadLine 6))
    ∷ leaves_it (long_text ":     Body      :" ":               :" "Body") (Err (BadLine 8))
    ∷ writes_table (long_text ":     Bo        :" ":     dy        :" "Bo dy") (body "Bo dy")
    -- a long row whose text is no label, blamed on the second line under it
    ∷ leaves_it (long_text ":               :" ":     Body      :" "Body") (Err (BadLine 7))
    -- a bit row under a long one, and the other way round, taken for further lines
    ∷ leaves_it (behind_top (":     Body      :" ∷ "|       A       |" ∷ edge ∷ [])) (Err (BadLine 9))
    ∷ leaves_it (behind_top ("|       A       |" ∷ ":     Body      :" ∷ edge ∷ [])) (Err (BadLine 9))
    ∷ []

abbrev blame : List Claim
blame =
    -- a cell that is no label blamed on the line behind the row, on the row's first line, or on none
    leaves_it (behind_top ("|   A   |       |" ∷ "|       |       |" ∷ edge ∷ [])) (Err (BadLine 8))
    ∷ leaves_it (behind_top ("|   A   |       |" ∷ "|       |       |" ∷ edge ∷ [])) (Err (BadLine 6))
    ∷ leaves_it (behind_top ("|   A   |       |" ∷ "|       |       |" ∷ edge ∷ [])) (Err (BadLine 9))
    -- judged before the row's last line, which mends it
    ∷ leaves_it (behind_top ("|   A   |       |" ∷ "|       |   B   |" ∷ edge ∷ [])) (Err (BadLine 6))
    -- the wrong line behind the row blamed, where a cell is no label
    ∷ leaves_it (behind_top ("|   A   |   #   |" ∷ "|     |         |" ∷ edge ∷ [])) (Err (BadLine 7))
    ∷ leaves_it (behind_top ("|   A   |   #   |" ∷ "where:" ∷ [])) (Err (BadLine 7))
    -- the fifth line blamed, where a cell of the four is no label
    ∷ leaves_it (behind_top ("|   A   |       |" ∷ "|       |       |" ∷ "|       |       |" ∷ "|       |       |"
    ∷ "|       |   B   |" ∷ edge ∷ [])) (Err (BadLine 10))
    -- a later row blamed for an earlier one
    ∷ leaves_it (behind_top ("|   A   |       |" ∷ edge ∷ "|   A   |       |" ∷ edge ∷ [])) (Err (BadLine 8))
    -- the end of the text blamed, where a cell is no label; and the other way round
    ∷ leaves_it (behind_top ("|   A   |       |" ∷ [])) (Err (BadLine 7))
    ∷ leaves_it (behind_top ("|   A   |   B   |" ∷ [])) (Err (BadLine 6))
    -- bytes behind the last LF counted as a line of the row
    ∷ leaves_it (behind_top ("|   A   |       |" ∷ []) ++ bytes "|       |   B   |") (Err (BadLine 7))
    ∷ []

abbrev pub wrong_text_rows : List Claim
wrong_text_rows = cell_texts ++ (labelled ++ (bars_and_lines ++ blame))
