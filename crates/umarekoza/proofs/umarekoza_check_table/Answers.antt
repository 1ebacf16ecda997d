use mathlib.Core.Path.{◌∙◌}
use Rattle.rules.specs.Answers.{of_table}
use Rattle.umarekoza.proofs.Tellings.{table_amounts, table_fits, replied, place_fits}
use Rattle.umarekoza.proofs.umarekoza_check_table.Goals as goal

pub reply-requires : goal.reply-requires
reply-requires c = place_fits of_table _ (table_fits c.check_table.result)

pub returns : goal.returns
returns c = λ good. replied of_table table_amounts _ _ c.reply.ensures ∙ c.check_table.ensures good
