use native.Mathlib.Omega.{arith}
use Rattle.rules.specs.Answers.{of_packet}
use Rattle.umarekoza.proofs.Tellings.{packet_amounts, replied, place_fits}
use Rattle.umarekoza.proofs.PacketPlaces.{place_low}
use Rattle.umarekoza.proofs.umarekoza_read_packet.Goals as goal

pub reply-requires : goal.reply-requires
reply-requires c = place_fits of_packet _ (omega (
  arith,
  place_low c.args.table.now _ c.args.run.now (of_packet c.read_packet.result)
      c.read_packet.new.run c.read_packet.ensures,
))

pub returns : goal.returns
returns c = rw (replied of_packet packet_amounts _ _ c.reply.ensures) c.read_packet.ensures
