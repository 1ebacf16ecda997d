use Rattle.std.proofs.Common.{sym, ◌∙◌}
use Rattle.packets.proofs.FieldSteps.{inside_of}
use Rattle.packets.proofs.fields.is_field.Goals as goal

pub is_formed-requires : goal.is_formed-requires
is_formed-requires c =
    let bounds = sym c.is_bounded.ensures ∙ c.if-is_bounded.true in
    (c.requires.2, inside_of _ _ _ c.requires.3 bounds)
