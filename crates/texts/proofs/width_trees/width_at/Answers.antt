use mathlib.Core.Path.{refl, sym, ◌∙◌}
use Rattle.texts.proofs.WidthTrees.{width_rest, width_measure}
use Rattle.texts.proofs.width_trees.width_at.Goals as goal

pub returns-then-starts_at : goal.returns-then-starts_at
returns-then-starts_at c =
    let a = c.args in
    let both =
    width_rest _ a.n a.s.now a.at c.requires.0 _
    (sym c.starts_at.ensures ∙ c.if-starts_at.true) _ refl in record {
      place = both.0;
      same = both.1;
    }

pub returns : goal.returns
returns c =
    let a = c.args in
    let m = c.measure_at in
    let n = sym c.starts_at.ensures ∙ c.if-starts_at.false in record {
      place = m.ensures.place;
      same = width_measure _ a.n a.s.now a.at c.requires.0 _ _ n m.ensures.same;
    }
