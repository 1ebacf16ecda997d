use native.Mathlib.Omega.{arith}
use Rattle.rules.specs.Answers.{of_text}
use Rattle.umarekoza.proofs.Tellings.{text_amounts, replied, place_fits}
use Rattle.umarekoza.proofs.umarekoza_text_end.Goals as goal

pub reply-requires : goal.reply-requires
reply-requires c = place_fits of_text _ (omega (arith, c.text_end.ensures.place))

pub returns : goal.returns
returns c = rw (replied of_text text_amounts _ _ c.reply.ensures) c.text_end.ensures.end
