use Rattle.texts.proofs.FillLaws.{filled_put}
use Rattle.texts.proofs.fills.fill.Goals as goal

pub returns : goal.returns
returns c =
    filled_put c.args.from c.args.to c.args.b c.args.s.now _ c.requires.0 c.requires.1
    (c.fill.ensures.after (λ y h. h))
