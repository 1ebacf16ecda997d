use native.Mathlib.Omega.{arith}
use Rattle.rules.specs.Answers.{of_edit}
use Rattle.umarekoza.proofs.Tellings.{edit_amounts, replied, place_fits}
use Rattle.umarekoza.proofs.EditPlaces.{cut_place_low}
use Rattle.umarekoza.proofs.umarekoza_cut_fields.Goals as goal

pub reply-requires : goal.reply-requires
reply-requires c = place_fits of_edit _ (omega (
  arith,
  cut_place_low c.args.table.now c.args.out.now c.args.first c.args.last (of_edit c.cut_fields.result) _
      c.cut_fields.ensures,
))

pub returns : goal.returns
returns c = rw (replied of_edit edit_amounts _ _ c.reply.ensures) c.cut_fields.ensures
