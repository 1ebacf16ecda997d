use Rattle.texts.proofs.states.expect.Goals as goal

pub returns-then-right : goal.returns-then-right
returns-then-right c = rw c.if-right.true c.onward.ensures

pub returns : goal.returns
returns c = rw c.if-right.false c.wrong.ensures
