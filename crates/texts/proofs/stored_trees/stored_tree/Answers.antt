use Rattle.texts.proofs.StoredExprs.{whole_stored}
use Rattle.texts.proofs.stored_trees.stored_tree.Goals as goal

pub returns : goal.returns
returns c =
    let a = c.args in record {
      place = c.tree_expr.ensures.place;
      same = whole_stored _ a.n a.s.now a.at _ c.tree_expr.ensures.same;
    }
