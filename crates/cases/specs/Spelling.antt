-- Worked cases: texts that spell a description. [01, Spelling]
use Rattle.std.specs.Prelude.{List, [], ◌∷◌}
use Rattle.std.proofs.Math.Option.{none, some}
use Rattle.rules.specs.Fields.{fixed}
use Rattle.rules.specs.Cases.{Case, spells, keeps, named}
use Rattle.rules.specs.Marked.{blade_report}
use Rattle.rules.specs.Pages.{blade_text, free_text, free_page}
use Rattle.rules.specs.Sheets.{bits_of, long_of, sheet, left, is_one}

abbrev pub spelling : List Case
spelling =
    -- texts with and without freedoms
    spells blade_text blade_report
    ∷ spells free_text free_page
    -- a cell may show either name, and a line may read by either [02, R-2]
    ∷ keeps (sheet (long_of "A" ∷ bits_of "B" ∷ bits_of "Y" ∷ []) 3)
    (left "A" ∷ named "X" "B" (fixed 8) (some (is_one "B")) none ∷ named "Y" "Z" (fixed 8) (some (is_one "X")) none ∷
    [])
    ∷ []
