-- Worked cases: tables, and what is looked up in them. [01, The stored table]
use Rattle.std.specs.Prelude.{List, [], ◌∷◌, ◌++◌}
use Rattle.base.specs.Bytes.{bytes}
use Rattle.rules.specs.Answers.{accepted, refused}
use Rattle.rules.specs.Cases.{Case, stores, finds, labels}
use Rattle.rules.specs.Marked.{blade_report}
use Rattle.rules.specs.Pages.{all_kinds, all_kinds_table, all_codes, all_codes_table, added_codes, added_codes_table}

abbrev tables : List Case
tables =
    -- every kind of field, every code [02, R-7]
    stores all_kinds all_kinds_table
    ∷ stores all_codes all_codes_table
    ∷ stores added_codes added_codes_table
    ∷ []

abbrev lookups : List Case
lookups =
    -- a field by its short name, its label; case counts, and a whole name is asked for
    finds blade_report (bytes "V") (accepted 0)
    ∷ finds blade_report (bytes "Version") (accepted 0)
    ∷ finds blade_report (bytes "Sum") (accepted 6)
    ∷ finds blade_report (bytes "v") (refused 30 0)
    ∷ finds blade_report (bytes "Bla") (refused 30 0)
    ∷ finds blade_report [] (refused 30 0)
    -- a label as a part of the table; the empty part at its start where there is no such field
    ∷ labels blade_report 0 (bytes "Version") 30
    ∷ labels blade_report 1 (bytes "On Loan") 62
    ∷ labels blade_report 6 (bytes "Sum") 200
    ∷ labels blade_report 7 [] 0
    ∷ []

abbrev pub stored_table : List Case
stored_table = tables ++ lookups
