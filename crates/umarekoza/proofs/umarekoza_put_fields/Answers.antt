use native.Mathlib.Omega.{arith}
use Rattle.rules.specs.Answers.{of_edit}
use Rattle.umarekoza.proofs.Tellings.{edit_amounts, replied, place_fits}
use Rattle.umarekoza.proofs.EditPlaces.{put_place_low}
use Rattle.umarekoza.proofs.umarekoza_put_fields.Goals as goal

pub reply-requires : goal.reply-requires
reply-requires c = place_fits of_edit _ (omega (
  arith,
  put_place_low c.args.table.now c.args.records.now c.args.out.now c.args.index
      (of_edit c.put_fields.result) _ c.put_fields.ensures,
))

pub returns : goal.returns
returns c = rw (replied of_edit edit_amounts _ _ c.reply.ensures) c.put_fields.ensures
