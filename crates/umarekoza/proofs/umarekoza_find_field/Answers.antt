use mathlib.Core.Path.{◌∙◌}
use Rattle.rules.specs.Answers.{of_field}
use Rattle.umarekoza.proofs.Tellings.{field_amounts, field_fits, replied, place_fits}
use Rattle.umarekoza.proofs.umarekoza_find_field.Goals as goal

pub reply-requires : goal.reply-requires
reply-requires c = place_fits of_field _ (field_fits c.field_index.result)

pub returns : goal.returns
returns c = λ good. replied of_field field_amounts _ _ c.reply.ensures ∙ c.field_index.ensures good
