-- Texts by the edition without the operators of codes 0x13 to 0x15 and by the one in force: only 5 changes. [02, R-7]
use native.Mathlib.Omega.{arith}
use Rattle.rules.specs.Editions.{current, without_added}
use Rattle.rules.specs.Values.{Meaning}
use Rattle.rules.specs.Results.{WithoutTextStays, WithoutTextTotal}
use Rattle.laws.proofs.Without.{without_widens, without_alike}
use Rattle.text_laws.proofs.RowEditions.{Draws, frame_of_more, lines_like}
use Rattle.text_laws.proofs.EarlierTexts.{text_more, total_less}

forth : (means : Meaning) → Draws (without_added means) current
forth means = record { rows = omega arith; lines = omega arith }

back : (means : Meaning) → Draws current (without_added means)
back means = record { rows = omega arith; lines = omega arith }

-- both allow as many fields, so 4 stays
pub without_text_stays : WithoutTextStays
without_text_stays means text out o p ne =
    text_more (without_added means) current (without_widens means) text
    (frame_of_more (without_added means) current (forth means) text) (without_alike means) out o p
    (λ k e. lines_like (without_added means) current (forth means) (back means) text k) (λ f e h. h)
    (λ lines i e q. absurd (ne e))

pub without_text_total : WithoutTextTotal
without_text_total means text out =
    total_less (without_added means) (without_widens means) (forth means) (back means) text out
