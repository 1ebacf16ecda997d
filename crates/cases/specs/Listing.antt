-- Worked cases: listings. [01, The blade report, marked cases and listing]
use Rattle.std.specs.Prelude.{List, [], ◌∷◌, ◌++◌, replicate}
use Rattle.base.specs.Bytes.{bytes}
use Rattle.rules.specs.declared.Op.TheVariants.{Div}
use Rattle.rules.specs.Cases.{Case, prints}
use Rattle.rules.specs.Marked.{blade_report, m1}
use Rattle.rules.specs.Pages.{with_rest, m2, m2_listing, m3}
use Rattle.laws.specs.WrongOperators.{sized}

abbrev pub listings : List Case
listings =
    -- an absent field, a refusal at a field, a refusal without one
    prints blade_report m2 m2_listing
    ∷ prints blade_report m3 (bytes "refused 24 at 7\n")
    ∷ prints blade_report [] (bytes "refused 24 at 1\n")
    ∷ prints blade_report (m1 ++ (0 ∷ [])) (bytes "refused 28 at 0\n")
    ∷ prints blade_report (replicate 8192 0) (bytes "refused 22 at 0\n")
    ∷ prints with_rest (replicate 8191 7) (bytes "Head: 0 8 7\nBody: 8 65512\nSum: 65520 8 7\nbits 65528\n")
    -- a quotient, and a zero divisor [02, R-7]
    ∷ prints (sized Div) (7 ∷ 2 ∷ 5 ∷ 5 ∷ 5 ∷ []) (bytes "First: 0 8 7\nSecond: 8 8 2\nBody: 16 24\nbits 40\n")
    ∷ prints (sized Div) (7 ∷ 0 ∷ []) (bytes "refused 29 at 3\n")
    ∷ []
