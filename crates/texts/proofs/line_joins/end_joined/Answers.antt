use mathlib.Core.Path.{subst}
use mathlib.Core.List.{List}
use Prim.Native.Nat.{ℕ}
use Rattle.texts.specs.States.{LineStep}
use Rattle.texts.proofs.line_joins.end_joined.Goals as goal

pub returns-clause-step : goal.returns-clause-step
returns-clause-step c =
    let a = c.args in
    let whole = rw c.in-Some.is at c.as_mut_array.ensures.cases in
    subst (λ (held : List ℕ). LineStep a.line.now a.r c.take_line.result held c.take_line.new.held a.row.now
    c.take_line.new.row a.counts.now c.take_line.new.counts) whole.same c.take_line.ensures.step
