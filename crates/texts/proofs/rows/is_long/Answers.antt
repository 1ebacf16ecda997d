use mathlib.Core.Path.{◌∙◌}
use borrow.Author.Tests.{ne_eqb}
use Rattle.texts.proofs.RowLeaves.{long_end, long_size}
use Rattle.texts.proofs.rows.is_long.Goals as goal

pub returns-then-l-e-eq1 : goal.returns-then-l-e-eq1
returns-then-l-e-eq1 c =
    let p = c.part_end-e in
    long_size c.args.w c.args.l.now p.result p.ensures.first c.requires.1 c.if-l-e-eq1.true

pub returns-else-l-e-eq1 : goal.returns-else-l-e-eq1
returns-else-l-e-eq1 c =
    let p = c.part_end-e in
    ne_eqb _ 1 c.if-l-e-eq1.false
    ∙ long_end c.args.w c.args.l.now p.result p.ensures.first p.ensures.place.1 c.if-l-e-eq1.false
