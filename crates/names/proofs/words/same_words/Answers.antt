use mathlib.Core.Path.{◌∙◌}
use Rattle.base.proofs.Library.{same-pointwise}
use Rattle.names.proofs.words.same_words.Goals as goal

pub returns : goal.returns
returns c = c.eq.ensures ∙ same-pointwise c.args.a.now c.args.b.now
