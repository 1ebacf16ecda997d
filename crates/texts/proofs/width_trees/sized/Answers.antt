use mathlib.Core.Path.{sym, ◌∙◌}
use Rattle.texts.proofs.WidthTrees.{sized_single, sized_other}
use Rattle.texts.proofs.width_trees.sized.Goals as goal

pub returns-then-is_single : goal.returns-then-is_single
returns-then-is_single c =
    let m = c.number_in-m in
    let both =
    sized_single c.args.s.now c.args.at c.args.t c.args.u c.args.next c.requires.0 c.requires.1 m.result
    c.times.result _ (sym c.is_single.ensures ∙ c.if-is_single.true) m.ensures.same
    c.times.ensures c.fixed_width.ensures in record {
      place = both.0;
      same = both.1;
    }

pub returns : goal.returns
returns c =
    let both =
    sized_other c.args.s.now c.args.at c.args.t c.args.u c.args.next c.requires.0 c.requires.1
    (sym c.is_single.ensures ∙ c.if-is_single.false) c.requires.2 in rw c.from.ensures record {
      place = both.0;
      same = both.1;
    }
