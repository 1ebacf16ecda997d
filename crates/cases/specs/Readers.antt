-- Worked cases: how often a field is read by others, the numbers that records keep, and old tables. [02, R-5]
use Rattle.std.specs.Prelude.{List, [], ◌∷◌, ◌++◌, map, ℕ, length, set}
use Rattle.base.specs.Bytes.{bytes}
use Rattle.rules.specs.declared.Op.TheVariants.{Div, Rem, Pow}
use Rattle.rules.specs.Fields.{Description}
use Rattle.rules.specs.Stored.{stored}
use Rattle.rules.specs.Answers.{accepted, refused}
use Rattle.rules.specs.Promises.{leaves, overlaid}
use Rattle.rules.specs.Cases.{Case, read_by, converts, stores, checks, spells, answers}
use Rattle.rules.specs.Marked.{blade_report, tag, tag_table}
use Rattle.rules.specs.Pages.{all_kinds, with_rest, blade_text, old_tag_table}
use Rattle.laws.specs.WrongLimits.{fields_of}
use Rattle.laws.specs.WrongOperators.{sized}
use Rattle.laws.specs.WrongNumbers.{often, many_times, numbered, old, mixed, nines}
use Rattle.laws.specs.WrongRecords.{chained}
use Rattle.text_laws.specs.WrongTextNumbers as texts

-- ── tables ──

-- the blade report's first record, and what follows length, kind and number in those of its fields
abbrev blade_head : List ℕ
blade_head = 0x16 ∷ 0x00 ∷ 0x01 ∷ 0x00 ∷ 0x10 ∷ 0x00 ∷ 0x07 ∷ 0x00 ∷ 0x0C ∷ 0x00 ∷ bytes "Blade Report"

abbrev pub version_body : List ℕ
version_body =
    (0x07 ∷ 0x00 ∷ bytes "Version")
    ++ (0x01 ∷ 0x00 ∷ 0x56 ∷ 0x02 ∷ 0x00
    ∷ 0x08 ∷ 0x00 ∷ 0x20 ∷ 0x02 ∷ 0x00 ∷ 0x01 ∷ 0x01 ∷ 0x00 ∷ 0x00 ∷ 0x00 ∷ 0x00 ∷ 0x00 ∷ [])

abbrev pub loan_body : List ℕ
loan_body =
    (0x07 ∷ 0x00 ∷ bytes "On Loan") ++ (0x01 ∷ 0x00 ∷ 0x4C ∷ 0x01 ∷ 0x00 ∷ 0x00 ∷ 0x00 ∷ 0x00 ∷ 0x00 ∷ [])

abbrev pub cells_body : List ℕ
cells_body =
    (0x05 ∷ 0x00 ∷ bytes "Cells")
    ++ (0x01 ∷ 0x00 ∷ 0x4E ∷ 0x05 ∷ 0x00
    ∷ 0x08 ∷ 0x00 ∷ 0x23 ∷ 0x02 ∷ 0x02 ∷ 0x01 ∷ 0x14 ∷ 0x00 ∷ 0x00 ∷ 0x00 ∷ 0x00 ∷ 0x00 ∷ [])

abbrev pub blade_body : List ℕ
blade_body = (0x05 ∷ 0x00 ∷ bytes "Blade") ++ (0x00 ∷ 0x00 ∷ 0x08 ∷ 0x00 ∷ 0x00 ∷ 0x00 ∷ 0x00 ∷ 0x00 ∷ [])

abbrev pub borrower_body : List ℕ
borrower_body =
    (0x08 ∷ 0x00 ∷ bytes "Borrower")
    ++ (0x03 ∷ 0x00 ∷ 0x42 ∷ 0x6F ∷ 0x72 ∷ 0x10 ∷ 0x00 ∷ 0x00 ∷ 0x00
    ∷ 0x08 ∷ 0x00 ∷ 0x20 ∷ 0x02 ∷ 0x01 ∷ 0x01 ∷ 0x01 ∷ 0x00 ∷ 0x00 ∷ 0x00 ∷ [])

abbrev pub readings_body : List ℕ
readings_body =
    (0x08 ∷ 0x00 ∷ bytes "Readings")
    ++ (0x00 ∷ 0x00 ∷ 0x08 ∷ 0x00 ∷ 0x02 ∷ 0x00 ∷ 0x02 ∷ 0x02 ∷ 0x00 ∷ 0x00 ∷ 0x00 ∷ 0x00 ∷ [])

abbrev pub sum_body : List ℕ
sum_body = (0x03 ∷ 0x00 ∷ bytes "Sum") ++ (0x00 ∷ 0x00 ∷ 0x10 ∷ 0x00 ∷ 0x00 ∷ 0x00 ∷ 0x00 ∷ 0x00 ∷ [])

-- its table, 215 bytes; and the old one, 201 bytes
abbrev pub blade_table : List ℕ
blade_table =
    blade_head
    ++ ((0x20 ∷ 0x00 ∷ 0x0C ∷ 0x00 ∷ 0x00 ∷ 0x00 ∷ version_body)
    ++ ((0x18 ∷ 0x00 ∷ 0x0C ∷ 0x00 ∷ 0x01 ∷ 0x00 ∷ loan_body)
    ++ ((0x1E ∷ 0x00 ∷ 0x0C ∷ 0x00 ∷ 0x01 ∷ 0x00 ∷ cells_body)
    ++ ((0x15 ∷ 0x00 ∷ 0x0C ∷ 0x00 ∷ 0x00 ∷ 0x00 ∷ blade_body)
    ++ ((0x23 ∷ 0x00 ∷ 0x0C ∷ 0x00 ∷ 0x00 ∷ 0x00 ∷ borrower_body)
    ++ ((0x1C ∷ 0x00 ∷ 0x0D ∷ 0x00 ∷ 0x00 ∷ 0x00 ∷ readings_body)
    ++ ((0x13 ∷ 0x00 ∷ 0x0C ∷ 0x00 ∷ 0x00 ∷ 0x00 ∷ sum_body)
    ++ (0x04 ∷ 0x00 ∷ 0x05 ∷ 0x00 ∷ []))))))))

abbrev old_blade_table : List ℕ
old_blade_table =
    blade_head
    ++ ((0x1E ∷ 0x00 ∷ 0x02 ∷ 0x00 ∷ version_body)
    ++ ((0x16 ∷ 0x00 ∷ 0x02 ∷ 0x00 ∷ loan_body)
    ++ ((0x1C ∷ 0x00 ∷ 0x02 ∷ 0x00 ∷ cells_body)
    ++ ((0x13 ∷ 0x00 ∷ 0x02 ∷ 0x00 ∷ blade_body)
    ++ ((0x21 ∷ 0x00 ∷ 0x02 ∷ 0x00 ∷ borrower_body)
    ++ ((0x1A ∷ 0x00 ∷ 0x03 ∷ 0x00 ∷ readings_body)
    ++ ((0x11 ∷ 0x00 ∷ 0x02 ∷ 0x00 ∷ sum_body)
    ++ (0x04 ∷ 0x00 ∷ 0x05 ∷ 0x00 ∷ []))))))))

-- ── short ways to write a case ──

-- the bytes become these, in an output of n bytes; they are refused, and the output is as it was
abbrev becomes : ℕ → List ℕ → List ℕ → Case
becomes n table new = converts table (nines n) (leaves (accepted (length new)) (overlaid new (nines n)))

abbrev keeps_old : ℕ → List ℕ → ℕ → Case
keeps_old n table number = converts table (nines n) (leaves (refused number 0) (nines n))

-- the table of a text's description is written to an output of 1,000 bytes
abbrev writes : List ℕ → Description → Case
writes text d = answers text (nines 1000) (leaves (accepted (length (stored d))) (overlaid (stored d) (nines 1000)))

-- ── the cases ──

abbrev counts : List Case
counts =
    -- each field of the blade report: Version and Cells are read by their own constraints too; and beyond the last
    read_by blade_report 0 (accepted 0)
    ∷ read_by blade_report 1 (accepted 1)
    ∷ read_by blade_report 2 (accepted 1)
    ∷ read_by blade_report 3 (accepted 0)
    ∷ read_by blade_report 4 (accepted 0)
    ∷ read_by blade_report 5 (accepted 0)
    ∷ read_by blade_report 6 (accepted 0)
    ∷ read_by blade_report 7 (refused 30 0)
    ∷ read_by blade_report 258 (refused 30 0)
    -- the own constraint alone
    ∷ read_by tag 0 (accepted 0)
    ∷ read_by tag 1 (refused 30 0)
    -- in a width, in a constraint, and twice in a condition
    ∷ read_by often 0 (accepted 4)
    ∷ read_by often 1 (accepted 1)
    ∷ read_by often 2 (accepted 0)
    ∷ read_by often 4 (accepted 0)
    ∷ read_by often 5 (refused 30 0)
    -- of every kind of field; by either name; more often than a byte holds; in the most fields
    ∷ read_by all_kinds 0 (accepted 6)
    ∷ read_by all_kinds 5 (accepted 0)
    ∷ read_by texts.often 0 (accepted 5)
    ∷ read_by many_times 0 (accepted 256)
    ∷ read_by many_times 8 (accepted 0)
    ∷ read_by many_times 9 (refused 30 0)
    ∷ read_by (fields_of 128) 127 (accepted 0)
    ∷ read_by (fields_of 128) 128 (refused 30 0)
    ∷ []

abbrev tables : List Case
tables =
    -- the true numbers are kept, and no others are good
    stores blade_report blade_table
    ∷ checks blade_table (accepted 215)
    ∷ checks (numbered blade_report 2 1) (accepted 215)
    ∷ checks (numbered blade_report 2 2) (refused 21 0)
    ∷ checks (numbered blade_report 2 0) (refused 21 0)
    ∷ checks (numbered blade_report 1 256) (refused 21 0)
    ∷ checks (numbered many_times 0 0) (refused 21 0)
    ∷ checks (set tag_table 17 1) (refused 21 0)
    ∷ checks (set tag_table 18 1) (refused 21 0)
    -- old tables are good no longer; nor is a kind 2 with a number, or 15
    ∷ checks old_tag_table (refused 21 0)
    ∷ checks old_blade_table (refused 21 0)
    ∷ checks (old with_rest) (refused 21 0)
    ∷ checks mixed (refused 21 0)
    ∷ checks (set tag_table 15 2) (refused 21 0)
    ∷ checks (set tag_table 15 15) (refused 21 0)
    -- a text's table has them
    ∷ answers blade_text (nines 215) (leaves (accepted 215) blade_table)
    ∷ spells texts.often_text texts.often
    ∷ writes texts.often_text texts.often
    ∷ writes texts.many_times_text texts.many_times_page
    -- of the most fields
    ∷ answers (texts.chained_text 126) (nines 2484) (leaves (accepted 2484) (stored (chained 126)))
    ∷ []

abbrev conversions : List Case
conversions =
    -- the Tag table: room for it, for a byte more, for a byte less, for the old one alone
    converts old_tag_table (nines 46) (leaves (accepted 46) tag_table)
    ∷ converts old_tag_table (nines 47) (leaves (accepted 46) (tag_table ++ (9 ∷ [])))
    ∷ converts old_tag_table (nines 45) (leaves (refused 11 0) (nines 45))
    ∷ converts old_tag_table (nines 44) (leaves (refused 11 0) (nines 44))
    ∷ converts old_tag_table [] (leaves (refused 11 0) [])
    -- the blade report
    ∷ converts old_blade_table (nines 215) (leaves (accepted 215) blade_table)
    ∷ becomes 300 old_blade_table blade_table
    ∷ keeps_old 214 old_blade_table 11
    -- other tables: a rest field; numbers of more than one reference; the most fields that an old table has
    ∷ becomes 300 (old with_rest) (stored with_rest)
    ∷ becomes 300 (old all_kinds) (stored all_kinds)
    ∷ becomes 300 (old often) (stored often)
    ∷ becomes 1000 (old many_times) (stored many_times)
    ∷ becomes 1224 (old (fields_of 64)) (stored (fields_of 64))
    -- 21: tables of the kinds 12 to 14; one field more; `/`, `%` and `^`; other bytes; before 11
    ∷ keeps_old 300 tag_table 21
    ∷ keeps_old 300 blade_table 21
    ∷ keeps_old 300 mixed 21
    ∷ keeps_old 1300 (old (fields_of 65)) 21
    ∷ map (λ o. keeps_old 100 (old (sized o)) 21) (Div ∷ Rem ∷ Pow ∷ [])
    ++ (keeps_old 100 [] 21
    ∷ keeps_old 100 (old_tag_table ++ (0 ∷ [])) 21
    ∷ keeps_old 10 tag_table 21
    ∷ [])

abbrev pub readers : List Case
readers = counts ++ (tables ++ conversions)
