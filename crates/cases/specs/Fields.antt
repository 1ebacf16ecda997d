-- Worked cases: how many fields, their names, their widths, their rows. [01, Fields] [02, R-10]
use Rattle.std.specs.Prelude.{List, [], ◌∷◌, ◌++◌}
use Rattle.std.proofs.Math.Option.{none, some}
use Rattle.base.specs.Bytes.{bytes}
use Rattle.rules.specs.declared.Op.TheVariants.{Add}
use Rattle.rules.specs.Trees.{num, two}
use Rattle.rules.specs.Fields.{fixed, measured, rest}
use Rattle.rules.specs.Cases.{Case, fits, exceeds, named, unnamed}
use Rattle.rules.specs.Pages.{page, all_kinds, many_fields, wide, amid, one_is_one, compared}

abbrev counts : List Case
counts =
    -- limits, at their value and one over: fields
    fits all_kinds
    ∷ exceeds (page [])
    ∷ fits (page (many_fields 0 128))
    ∷ exceeds (page (many_fields 0 129))
    ∷ []

abbrev together : List Case
together =
    -- NAME; repeated labels and short names
    exceeds (record { name = bytes "Page-"; row_width = 8; fields = many_fields 0 1 })
    ∷ exceeds (page (many_fields 0 1 ++ many_fields 0 1))
    ∷ exceeds (page (named "A" "X" (fixed 8) none none ∷ named "B" "X" (fixed 8) none none ∷ []))
    -- what may stand after a rest field
    ∷ exceeds (page (unnamed "A" rest none none ∷ unnamed "B" rest none none ∷ []))
    ∷ exceeds (page (unnamed "A" rest none none ∷ unnamed "B" (measured 8 (compared 1 Add 1)) none none ∷ []))
    ∷ exceeds (page (unnamed "A" rest none none ∷ unnamed "B" (fixed 8) none (some one_is_one) ∷ []))
    ∷ fits (page (unnamed "A" rest none none ∷ unnamed "B" (fixed 8) (some one_is_one) none ∷ []))
    ∷ []

abbrev widths : List Case
widths =
    -- widths and rows
    fits (wide 32 (fixed 32))
    ∷ exceeds (wide 32 (fixed 33))
    ∷ exceeds (wide 24 (fixed 24))
    ∷ exceeds (wide 16 (fixed 8))
    ∷ exceeds (wide 8 (fixed 16))
    ∷ exceeds (amid (fixed 8))
    ∷ exceeds (amid rest)
    ∷ exceeds (amid (measured 8 (two Add (num 1) (num 1))))
    ∷ exceeds (wide 8 (fixed 0))
    ∷ exceeds (wide 8 (measured 8 (num 1)))
    ∷ fits (wide 8 (measured 8 (two Add (num 1) (num 1))))
    ∷ exceeds (wide 8 (measured 2 (two Add (num 1) (num 1))))
    ∷ exceeds (wide 8 (measured 8 (two Add (num 1) (num 4_294_967_296))))
    ∷ []

abbrev pub fields : List Case
fields = counts ++ (together ++ widths)
