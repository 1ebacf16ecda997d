use Rattle.rules.specs.Answers.{of_listing}
use Rattle.umarekoza.proofs.Tellings.{listing_amounts, listing_fits, replied, place_fits}
use Rattle.umarekoza.proofs.umarekoza_list_packet.Goals as goal

pub reply-requires : goal.reply-requires
reply-requires c = place_fits of_listing _ (listing_fits c.list_packet.result)

pub returns : goal.returns
returns c = rw (replied of_listing listing_amounts _ _ c.reply.ensures) c.list_packet.ensures
