use Rattle.rules.specs.Answers.{of_conversion}
use Rattle.umarekoza.proofs.Tellings.{conversion_amounts, conversion_fits, replied, place_fits}
use Rattle.umarekoza.proofs.umarekoza_convert_table.Goals as goal

pub reply-requires : goal.reply-requires
reply-requires c = place_fits of_conversion _ (conversion_fits c.convert_table.result)

pub returns : goal.returns
returns c = rw (replied of_conversion conversion_amounts _ _ c.reply.ensures) c.convert_table.ensures
