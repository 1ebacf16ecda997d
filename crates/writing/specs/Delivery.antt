-- A text delivered at the start of an output. [01, Refusal numbers] [02, R-4]
use Rattle.std.specs.Prelude.{Bool, true, false, List, ℕ, length}
use Rattle.rules.specs.Answers.{Answer, accepted, refused}

-- there was room for w, or not
abbrev pub delivery_answer : Bool → List ℕ → Answer
delivery_answer true w = accepted (length w)
delivery_answer false w = refused 11 0
