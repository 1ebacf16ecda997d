use mathlib.Core.Path.{refl}
use native.Mathlib.Omega.{arith}
use Rattle.texts.proofs.StoredSteps.{close_end, close_no, close_not, close_same}
use Rattle.texts.proofs.stored_trees.tree_closed.Goals as goal

pub returns-then-at-s : goal.returns-then-at-s
returns-then-at-s c =
    let a = c.args in
    let both = close_end a.s.now a.p a.neg a.out.now a.out.now c.if-at-s.true in record {
      place = both.0;
      same = both.1;
    }

pub returns-then-neg : goal.returns-then-neg
returns-then-neg c =
    let a = c.args in
    let both =
    close_not a.s.now a.p a.neg a.out.now _ c.not_node.result (omega (arith, c.requires.0, c.if-at-s.false))
    c.if-s-at-eq41.true c.if-neg.true c.requires.3 c.not_node.auto.out c.not_node.ensures in record {
      place = both.0;
      same = both.1;
    }

pub returns-then-s-at-eq41 : goal.returns-then-s-at-eq41
returns-then-s-at-eq41 c =
    let a = c.args in
    let both =
    close_same a.s.now a.p a.neg a.out.now _ _ (omega (arith, c.requires.0, c.if-at-s.false)) c.if-s-at-eq41.true
    c.if-neg.false refl refl refl refl refl c.requires.3 in record {
      place = both.0;
      same = both.1;
    }

pub returns : goal.returns
returns c =
    let a = c.args in
    let both =
    close_no a.s.now a.p a.neg a.out.now a.out.now (omega (arith, c.requires.0, c.if-at-s.false))
    c.if-s-at-eq41.false in record {
      place = both.0;
      same = both.1;
    }
