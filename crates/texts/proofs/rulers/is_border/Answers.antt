use Rattle.rules.specs.Frames.{border_at, border}
use Rattle.texts.proofs.rulers.is_border.Goals as goal

pub returns : goal.returns
unfolding border
returns c = c.is_ruler.ensures border_at (λ k r lt p. p)
