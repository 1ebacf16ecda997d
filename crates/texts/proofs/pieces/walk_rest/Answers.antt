use Rattle.texts.proofs.pieces.walk_rest.Goals as goal

pub returns-clause-step : goal.returns-clause-step
returns-clause-step c =
    let whole = rw c.in-Some.is at c.as_mut_array.ensures.cases in
    rw (← whole.same) c.walk_lines.ensures.step
