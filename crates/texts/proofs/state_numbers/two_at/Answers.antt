use Rattle.laws.specs.Places.{two_at}
use borrow.Author.Rules.{rules}
use Rattle.texts.proofs.state_numbers.two_at.Goals as goal

pub returns : goal.returns
unfolding two_at
returns c = search rules
