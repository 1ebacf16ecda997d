use mathlib.Core.Path.{◌∙◌}
use Rattle.texts.proofs.RowSteps.{row_told}
use Rattle.texts.proofs.text_ends.is_labelled.Goals as goal

pub returns : goal.returns
returns c = c.is_some.ensures ∙ row_told c.args.row.now c.args.n c.args.size _ _ 0 _ c.put_row.ensures
