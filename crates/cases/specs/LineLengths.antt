-- Worked cases: lines of a limited length. [02, R-9]
use Rattle.std.specs.Prelude.{List, [], ◌∷◌, ◌++◌, ℕ, ◌+◌, ◌-◌, replicate}
use Rattle.std.proofs.Math.Option.{none}
use Prim.Native.String.{String}
use Rattle.base.specs.Bytes.{bytes}
use Rattle.base.specs.Lists.{joined}
use Rattle.rules.specs.Limits.{text_most, fields_most}
use Rattle.rules.specs.Fields.{fixed, Description}
use Rattle.rules.specs.Frames.{ended}
use Rattle.rules.specs.Answers.{accepted, refused}
use Rattle.rules.specs.Promises.{leaves}
use Rattle.rules.specs.Stored.{stored}
use Rattle.rules.specs.Cases.{Case, spells, unframed, keeps, refuses, answers, unnamed}
use Rattle.rules.specs.Sheets.{bits_of, framed, plain}
use Rattle.cases.specs.Rows.{row_text}

-- ── frames ──

abbrev frames : List Case
frames =
    -- field lines of 1,024 bytes and of 1,025
    keeps (framed "Sheet" 8 (bits_of "A" ∷ []) (replicate 1024 120 ∷ [])) (plain "A" ∷ [])
    ∷ unframed (framed "Sheet" 8 (bits_of "A" ∷ []) (replicate 1025 120 ∷ []))
    ∷ unframed (framed "Sheet" 8 (bits_of "A" ∷ bits_of "B" ∷ []) (bytes "line" ∷ replicate 1025 120 ∷ []))
    ∷ []

-- ── texts ──

-- a field line of n bytes, all but the first 11 a remark
abbrev remarked : ℕ → List ℕ
remarked n = bytes "A: 8 bits. " ++ replicate (n - 11) 120

-- a row and its border, the other lines up to the field lines
abbrev head : List String
head = "|       A       |" ∷ "+-+-+-+-+-+-+-+-+" ∷ "" ∷ "where:" ∷ "" ∷ []

-- and then field lines, from line 11
abbrev one_page : List (List ℕ) → List ℕ
one_page lines = row_text head ++ joined ended lines

abbrev one_field : Description
one_field = record { name = bytes "Sheet"; row_width = 8; fields = unnamed "A" (fixed 8) none none ∷ [] }

abbrev lengths : List Case
lengths =
    -- 1,024 bytes: accepted, with its remark; another refusal of the line stays
    spells (one_page (remarked 1024 ∷ [])) one_field
    ∷ answers (one_page (remarked 1024 ∷ [])) (replicate 36 9) (leaves (accepted 36) (stored one_field))
    ∷ refuses (one_page (replicate 1024 120 ∷ [])) (refused 5 11)
    ∷ refuses (one_page (remarked 20 ∷ remarked 1024 ∷ [])) (refused 7 12)
    -- 1,025, whatever the line says; 2,000
    ∷ refuses (one_page (remarked 1025 ∷ [])) (refused 3 11)
    ∷ answers (one_page (remarked 1025 ∷ [])) (replicate 36 9) (leaves (refused 3 11) (replicate 36 9))
    ∷ refuses (one_page (replicate 1025 120 ∷ [])) (refused 3 11)
    ∷ refuses (one_page (remarked 2000 ∷ [])) (refused 3 11)
    -- behind other field lines, and in front of one; twice
    ∷ refuses (one_page (remarked 1024 ∷ remarked 1025 ∷ [])) (refused 3 12)
    ∷ refuses (one_page (remarked 1025 ∷ remarked 20 ∷ [])) (refused 3 11)
    ∷ refuses (one_page (remarked 1025 ∷ remarked 1025 ∷ [])) (refused 3 11)
    -- behind the last LF: a wrong line, of any length
    ∷ refuses (one_page [] ++ remarked 1025) (refused 3 11)
    ∷ refuses (one_page [] ++ remarked 1024) (refused 3 11)
    ∷ refuses (one_page (remarked 20 ∷ []) ++ remarked 1025) (refused 3 12)
    ∷ refuses (one_page (remarked 1025 ∷ []) ++ remarked 1025) (refused 3 11)
    ∷ []

-- a line of blanks
abbrev blanks : List ℕ
blanks = ended (replicate 1025 32)

abbrev in_front : List Case
in_front =
    -- the opening line, a row's place, a further line of a row, behind a border, behind the rows
    refuses (bytes "A " ++ (replicate 1024 120 ++ bytes " is formatted as follows:\n")) (refused 3 1)
    ∷ refuses (row_text [] ++ blanks) (refused 3 6)
    ∷ refuses (row_text ("|       A       |" ∷ []) ++ blanks) (refused 3 7)
    ∷ refuses (row_text ("|       A       |" ∷ "+-+-+-+-+-+-+-+-+" ∷ []) ++ blanks) (refused 3 8)
    ∷ refuses (row_text ("|       A       |" ∷ "+-+-+-+-+-+-+-+-+" ∷ "" ∷ []) ++ blanks) (refused 3 9)
    -- a row of bars
    ∷ refuses (row_text [] ++ ended (replicate 1025 124)) (refused 3 6)
    -- no line but it
    ∷ refuses blanks (refused 3 1)
    ∷ refuses (replicate 1025 32) (refused 3 1)
    ∷ []

abbrev order : List Case
order =
    -- the first 3 wins: a wrong row, a cell that is no label, a wrong line behind
    refuses (row_text ("where:" ∷ []) ++ blanks) (refused 3 6)
    ∷ refuses (row_text ("|   A   |       |" ∷ []) ++ blanks) (refused 3 6)
    ∷ refuses (row_text ("|   A   |   B   |" ∷ []) ++ blanks) (refused 3 7)
    ∷ refuses (row_text ("|   A   |   B   |" ∷ []) ++ (blanks ++ bytes "where:\n")) (refused 3 7)
    -- 2 and 1 win over it, in front of it and behind it
    ∷ refuses (one_page (remarked 1025 ∷ []) ++ (0x7F ∷ [])) (refused 2 0)
    ∷ refuses (one_page ((0x7F ∷ remarked 1025) ∷ [])) (refused 2 0)
    ∷ refuses (one_page (remarked 1025 ∷ []) ++ replicate text_most 10) (refused 1 0)
    -- and it over 4, 5, 7 and 11
    ∷ refuses (one_page (replicate (1 + fields_most) (bytes "x") ++ (remarked 1025 ∷ [])))
    (refused 3 (12 + fields_most))
    ∷ refuses (one_page (bytes "A: 8 bits" ∷ remarked 1025 ∷ [])) (refused 3 12)
    ∷ refuses (one_page (bytes "B: 8 bits." ∷ remarked 1025 ∷ [])) (refused 3 12)
    ∷ answers (one_page (remarked 1025 ∷ [])) [] (leaves (refused 3 11) [])
    ∷ []

abbrev pub line_lengths : List Case
line_lengths = frames ++ (lengths ++ (in_front ++ order))
