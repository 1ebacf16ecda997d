-- Answers of programs that are wrong about how long a line may be. [02, R-9]
use Rattle.std.specs.Prelude.{List, [], ◌∷◌, ◌++◌, ℕ, ◌+◌, ◌-◌, replicate, Err}
use Rattle.base.specs.Bytes.{bytes}
use Rattle.base.specs.Lists.{joined}
use Rattle.rules.specs.declared.TextRefusal.TheVariants.{BadByte, BadLine, BadForm, Mismatch, TooLong}
use Rattle.rules.specs.Limits.{text_most, line_most}
use Rattle.rules.specs.Frames.{ended}
use Rattle.text_laws.specs.WrongTexts.{Claim, leaves_it, writes_table}
use Rattle.text_laws.specs.WrongTextRows.{edge, behind_top, one_field}

-- ── texts ──

-- a field line of n bytes: all behind the full stop and a space is a remark
abbrev pub remarked : ℕ → List ℕ
remarked n = bytes "A: 8 bits. " ++ replicate (n - 11) 120

-- one row and its border, the other lines up to the field lines, and then these; the first one is line 11
abbrev pub field_page : List (List ℕ) → List ℕ
field_page lines =
    behind_top ("|       A       |" ∷ edge ∷ "" ∷ "where:" ∷ "" ∷ []) ++ joined ended lines

-- a byte more than a line may have
abbrev over_line : ℕ
over_line = 1 + line_most

abbrev pub long_page : List ℕ
long_page = field_page (remarked over_line ∷ [])

-- a line of blanks
abbrev blanks : List ℕ
blanks = ended (replicate over_line 32)

-- ── claims ──

abbrev lengths : List Claim
lengths =
    -- a byte too many accepted: a remark not counted, or the line cut to its limit
    writes_table long_page (one_field "A")
    -- 1,024 refused: the LF counted
    ∷ leaves_it (field_page (remarked line_most ∷ [])) (Err (BadLine 11))
    -- at the next line, at the line before, at none; another number
    ∷ leaves_it long_page (Err (BadLine 12))
    ∷ leaves_it long_page (Err (BadLine 10))
    ∷ leaves_it long_page (Err (BadLine 0))
    ∷ leaves_it long_page (Err (BadForm 11))
    ∷ leaves_it long_page (Err TooLong)
    -- the rest of a cut line taken for a line of its own
    ∷ leaves_it long_page (Err (BadForm 12))
    -- bytes behind the last LF: the line behind them blamed, the last whole line blamed
    ∷ leaves_it (field_page [] ++ remarked over_line) (Err (BadLine 12))
    ∷ leaves_it (field_page (remarked 20 ∷ []) ++ remarked over_line) (Err (BadLine 11))
    ∷ []

abbrev order : List Claim
order =
    -- it wins over 2, and over 1
    leaves_it (long_page ++ (0x7F ∷ [])) (Err (BadLine 11))
    ∷ leaves_it (field_page ((0x7F ∷ remarked over_line) ∷ [])) (Err (BadLine 11))
    ∷ leaves_it (replicate (1 + text_most) 120) (Err (BadLine 1))
    -- 2 for it
    ∷ leaves_it long_page (Err BadByte)
    -- 5, 7 of an earlier line win over it
    ∷ leaves_it (field_page (bytes "A: 8 bits" ∷ remarked over_line ∷ [])) (Err (BadForm 11))
    ∷ leaves_it (field_page (bytes "B: 8 bits." ∷ remarked over_line ∷ [])) (Err (Mismatch 11))
    -- the wrong line in front of it passed over, in a row's place, or a cell that is no label
    ∷ leaves_it (behind_top ("where:" ∷ []) ++ blanks) (Err (BadLine 7))
    ∷ leaves_it (behind_top ("|   A   |       |" ∷ []) ++ blanks) (Err (BadLine 7))
    -- the row in front of it blamed, where its cells are labels
    ∷ leaves_it (behind_top ("|   A   |   B   |" ∷ []) ++ blanks) (Err (BadLine 6))
    -- in a row's place taken for a row, and the next line blamed; for the blank line behind the rows
    ∷ leaves_it (behind_top [] ++ blanks) (Err (BadLine 7))
    ∷ leaves_it (behind_top ("|       A       |" ∷ edge ∷ []) ++ blanks) (Err (BadLine 9))
    ∷ []

abbrev pub wrong_text_lines : List Claim
wrong_text_lines = lengths ++ order
