use Rattle.rules.specs.Answers.{of_text}
use Rattle.umarekoza.proofs.Tellings.{text_amounts, replied, place_fits}
use Rattle.umarekoza.proofs.TextPlaces.{text_place_low}
use Rattle.umarekoza.proofs.umarekoza_write_table.Goals as goal

pub reply-requires : goal.reply-requires
reply-requires c = place_fits of_text _ (text_place_low c.args.text.now c.args.out.now (of_text c.read_text.result)
    c.read_text.new.out
    c.read_text.ensures)

pub returns : goal.returns
returns c = rw (replied of_text text_amounts _ _ c.reply.ensures) c.read_text.ensures
