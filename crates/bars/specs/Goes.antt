-- One more line of a bit row, told by its bars. [02, R-1]
use Rattle.std.specs.Prelude.{Bool, ◌&&◌, List, ℕ, ltb, eqb}
use Rattle.base.specs.Lists.{head_is}
use Rattle.rules.specs.Limits.{row_lines_most}
use Rattle.text_laws.specs.Bars.{same_bars}

-- behind n lines, of which this is the first: a row may have more, it is no long one, and the bars are at its columns
abbrev pub goes_on : ℕ → List ℕ → List ℕ → Bool
goes_on n first l = ltb n row_lines_most && (head_is (λ b. eqb b 124) first && same_bars first l)
