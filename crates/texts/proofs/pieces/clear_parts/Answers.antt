use Rattle.texts.proofs.ClearedStates.{parts_cleared}
use Rattle.texts.proofs.pieces.clear_parts.Goals as goal

pub returns : goal.returns
returns c =
    parts_cleared c.args.n c.args.s.now c.put_two.new.out c.fill.new.s
    c.fill-2.new.s c.requires.1 c.requires.0 c.put_two.ensures c.fill.ensures
    c.fill-2.ensures
