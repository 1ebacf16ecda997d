use Rattle.rules.specs.Frames.{units_at, units}
use Rattle.texts.proofs.rulers.is_units.Goals as goal

pub returns : goal.returns
unfolding units
returns c = c.is_ruler.ensures units_at (λ k r lt p. p)
