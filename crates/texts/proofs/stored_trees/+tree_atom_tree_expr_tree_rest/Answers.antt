use mathlib.Core.Path.{◌≡◌, refl, ap, ◌∙◌}
use native.Mathlib.Omega.{arith}
use Rattle.std.specs.Prelude.{None, Some}
use Rattle.rules.specs.Operators.{atom_level}
use Rattle.texts.specs.HeldNames.{names_in}
use Rattle.texts.specs.StoredTrees.{held}
use Rattle.texts.specs.declared.chains.Chain.{Chain}
use Rattle.texts.proofs.TakenSteps.{is_missing_lem, is_found}
use Rattle.texts.proofs.AtomSteps.{told_none, told_word, told_in}
use Rattle.texts.proofs.StoredBytes.{joined_min}
use Rattle.texts.proofs.StoredSteps.{is_two, up_within}
use Rattle.texts.proofs.StoredExprs.{more_none, more_fail, more_go, more_next}
use Rattle.texts.proofs.StoredExprs.{atom_none, atom_leaf, atom_fail, atom_closed}
use Rattle.texts.proofs.ChainSteps.{chain_none, chain_fails, rest_link, rest_ends, rest_fails, rest_whole}
use Rattle.texts.proofs.ChainGoes.{chain_goes}
use Prim.Native.Nat.{◌+◌}
use Rattle.texts.proofs.stored_trees.+tree_atom_tree_expr_tree_rest.Goals as goal

pub tree_atom-returns-in_err-start-clause-same : goal.tree_atom-returns-in_err-start-clause-same
tree_atom-returns-in_err-start-clause-same t c =
    let a = c.args in
    let gone : c.from_residual.result ≡ None = grind arith in
    rw gone (atom_none (names_in a.names.now) a.n a.s.now a.at a.b
    (told_none _ _ _ _ c.in_err-start.was c.atom_at.ensures))

pub tree_atom-overflow_sub-b : goal.tree_atom-overflow_sub-b
tree_atom-overflow_sub-b t c =
    let w = told_in _ _ _ _ _ _ (c.in_ok-start.was ∙ ap Some c.in-Open.is) c.atom_at.ensures in
    omega (arith, w.2)

pub tree_atom-tree_expr-requires : goal.tree_atom-tree_expr-requires
tree_atom-tree_expr-requires t c =
    let w = told_in _ _ _ _ _ _ (c.in_ok-start.was ∙ ap Some c.in-Open.is) c.atom_at.ensures in
    (omega (arith, w.0, w.1), (w.1, c.requires.1, c.requires.2, c.requires.3))

pub tree_atom-returns-in_err-e-in-Open-clause-same : goal.tree_atom-returns-in_err-e-in-Open-clause-same
tree_atom-returns-in_err-e-in-Open-clause-same t c =
    let a = c.args in
    let w = told_in _ _ _ _ _ _ (c.in_ok-start.was ∙ ap Some c.in-Open.is) c.atom_at.ensures in
    let gone : c.from_residual-in_err-e-in-Open.result ≡ None = grind arith in
    rw gone (atom_fail (names_in a.names.now) a.n a.s.now a.at a.b c.in-Open.from c.in-Open.neg w.0 w.1 w.3
    (rw c.in_err-e-in-Open.was at c.tree_expr.ensures.same))

pub tree_atom-returns-in-Word-clause-same : goal.tree_atom-returns-in-Word-clause-same
tree_atom-returns-in-Word-clause-same t c =
    let a = c.args in
    atom_leaf _ a.n a.s.now a.at a.b _
    (told_word _ _ _ _ (c.in_ok-start.was ∙ ap Some c.in-Word.is) c.atom_at.ensures) c.tree_leaf.ensures.same

pub tree_atom-returns-in_ok-e-in-Open-clause-place : goal.tree_atom-returns-in_ok-e-in-Open-clause-place
tree_atom-returns-in_ok-e-in-Open-clause-place t c =
    let a = c.args in
    let e = c.in_ok-e-in-Open.e in
    let w = told_in _ _ _ _ _ _ (c.in_ok-start.was ∙ ap Some c.in-Open.is) c.atom_at.ensures in
    let g = rw c.in_ok-e-in-Open.was at c.tree_expr.ensures.place in
    up_within a.s.now (e.next + 1) e.next e.len (a.at + 1) a.at 0 _ (omega (arith, g.0, w.0))
    (omega (arith, g.2, w.0)) c.tree_closed.ensures.place

pub tree_atom-returns-in_ok-e-in-Open-clause-same : goal.tree_atom-returns-in_ok-e-in-Open-clause-same
tree_atom-returns-in_ok-e-in-Open-clause-same t c =
    let a = c.args in
    let w = told_in _ _ _ _ _ _ (c.in_ok-start.was ∙ ap Some c.in-Open.is) c.atom_at.ensures in
    atom_closed _ a.n a.s.now a.at a.b c.in-Open.from c.in-Open.neg w.0 w.1 w.3 _
    (rw c.in_ok-e-in-Open.was at c.tree_expr.ensures.same) _ c.tree_closed.ensures.same

pub tree_expr-loop-a-init : goal.tree_expr-loop-a-init
tree_expr-loop-a-init t c =
    let a = c.args in (
      refl,
      rw c.no_chain-c.ensures (chain_none _ a.n a.s.now a.at a.k a.b a.out.now c.requires.0),
      λ _. c.no_chain-c.ensures,
    )

pub tree_expr-returns-in_err-a-clause-same : goal.tree_expr-returns-in_err-a-clause-same
tree_expr-returns-in_err-a-clause-same t c =
    let a = c.args in
    let gone : c.from_residual.result ≡ None = grind arith in
    rw gone (chain_fails _ a.n a.s.now a.at a.k a.b _ _ c.loop-a.invariant.1
    (rw c.in_err-a.was at c.tree_atom.ensures.same))

pub tree_expr-tree_rest-requires : goal.tree_expr-tree_rest-requires
tree_expr-tree_rest-requires t c =
    let l = c.loop-a.invariant.1 in
    let p = c.requires in
    let w = rw c.in_ok-a.was at c.tree_atom.ensures.place in (
      omega (arith, l.low, w.0, w.1, c.requires.0),
      (w.1, p.1, p.2, refl, omega (arith, w.2), w.3, omega (arith, l.grown, l.high, p.1), l.few, p.3),
    )

pub tree_expr-returns-in_err-q-clause-same : goal.tree_expr-returns-in_err-q-clause-same
tree_expr-returns-in_err-q-clause-same t c =
    let a = c.args in
    let l = c.loop-a.invariant in
    let r = c.tree_atom in
    let j = joined_min _ c.min-from.result _ _ c.min-from.ensures r.auto.out in
    let gone : c.from_residual-in_err-q.result ≡ None = grind arith in
    rw gone (rest_fails _ a.n a.s.now a.at a.k a.b _ _ _ _ l.1 l.2 j c.in_ok-a.a
    (rw c.in_ok-a.was at r.ensures.same) (rw c.in_ok-a.was at r.ensures.place) c.tree_rest.new.out
    (rw c.in_err-q.was at c.tree_rest.ensures))

pub tree_expr-returns-in-Whole : goal.tree_expr-returns-in-Whole
tree_expr-returns-in-Whole t c =
    let a = c.args in
    let l = c.loop-a.invariant in
    let r = c.tree_atom in
    let j = joined_min _ c.min-from.result _ _ c.min-from.ensures r.auto.out in
    let is = c.in_ok-q.was ∙ ap Some c.in-Whole.is in
    let both =
    rest_whole _ a.n a.s.now a.at a.k a.b _ _ _ _ l.1 l.2 j c.in_ok-a.a (rw c.in_ok-a.was at r.ensures.same)
    (rw c.in_ok-a.was at r.ensures.place) _ _ (rw is at c.tree_rest.ensures) in record {
      place = both.0;
      same = both.1;
    }

pub tree_expr-loop-a-smaller : goal.tree_expr-loop-a-smaller
tree_expr-loop-a-smaller t c =
    let is = c.in_ok-q.was ∙ ap Some c.in-Waits.is in
    let x = (rw is at c.tree_rest.ensures).1 in
    let w = rw c.in_ok-a.was at c.tree_atom.ensures.place in
    let e = ap (λ (d : Chain). d.next) x.waits.is_pushed in
    omega (arith, e, w.0, x.low, x.high)

pub tree_expr-loop-a-preserved : goal.tree_expr-loop-a-preserved
tree_expr-loop-a-preserved t c =
    let a = c.args in
    let l = c.loop-a.invariant in
    let r = c.tree_atom in
    let j = joined_min _ c.min-from.result _ _ c.min-from.ensures r.auto.out in
    let is = c.in_ok-q.was ∙ ap Some c.in-Waits.is in
    let x = rw is at c.tree_rest.ensures in (
      (c.tree_rest.auto.out ∙ j.long) ∙ l.0,
      chain_goes _ a.n a.s.now a.at a.k a.b x.0 _ _ _ _ l.1 j _ (rw c.in_ok-a.was at r.ensures.same)
          (rw c.in_ok-a.was at r.ensures.place) _ _ x.1,
      λ lt. absurd (omega (arith, lt, x.0)),
    )

pub tree_rest-loop-out-init : goal.tree_rest-loop-out-init
tree_rest-loop-out-init t c =
    let a = c.args in
    let p = c.requires in (
      omega (arith, p.3),
      omega (arith, p.0, p.3),
      omega (arith, p.3),
      p.5,
      refl,
      more_next _ a.n a.s.now a.at a.k atom_level a.b a.left a.out.now p.3,
      λ _. (refl, refl, refl),
    )

pub tree_rest-returns-then-k-ge-TIGHTEST_LEVEL : goal.tree_rest-returns-then-k-ge-TIGHTEST_LEVEL
tree_rest-returns-then-k-ge-TIGHTEST_LEVEL t c =
    let a = c.args in
    let l = c.loop-out in
    let p = c.requires in
    let t = c.taken_at-g in
    rest_link _ a.n a.s.now a.at a.k a.b c.if-k-ge-TIGHTEST_LEVEL.true a.c a.left _ _ p.3 a.out.now _
    _ _ _
    t.ensures.place t.ensures.same c.next_link.ensures (l.invariant.6 c.if-k-ge-TIGHTEST_LEVEL.true)

pub tree_rest-returns-in_default : goal.tree_rest-returns-in_default
tree_rest-returns-in_default t c =
    let a = c.args in
    let l = c.loop-out.invariant in
    rest_ends _ a.n a.s.now a.at a.k a.b (omega (arith, c.if-k-ge-TIGHTEST_LEVEL.false)) a.c a.left a.out.now
    _ _ (l.0, l.1, l.2, l.3)
    (l.5 (Some (held c.loop-out.p c.loop-out.out)) (more_none _ a.n a.s.now _ a.k _ a.b _
    (is_missing_lem _ _ _ c.in_default.is c.taken_at-g.ensures.same) refl))

pub tree_rest-tree_expr-requires : goal.tree_rest-tree_expr-requires
tree_rest-tree_expr-requires t c =
    let p = c.requires in
    let u = is_found _ _ _ _ _ c.in-Some.is c.taken_at-g.ensures.place c.taken_at-g.ensures.same in
    (omega (arith, u.low, u.high, c.loop-out.invariant.0, c.requires.0), (u.high, p.1, p.2, p.8))

pub tree_rest-returns-in_err-y : goal.tree_rest-returns-in_err-y
tree_rest-returns-in_err-y t c =
    let a = c.args in
    let l = c.loop-out.invariant in
    let u = is_found _ _ _ _ _ c.in-Some.is c.taken_at-g.ensures.place c.taken_at-g.ensures.same in
    let gone : c.from_residual.result ≡ None = grind arith in
    rw gone (
      omega (arith, c.if-k-ge-TIGHTEST_LEVEL.false),
      l.5 None (more_fail _ a.n a.s.now _ a.k _ a.b _ c.in-Some.t.op c.in-Some.t.end u.found u.low u.high _ _
          u.level u.right (rw c.in_err-y.was at c.tree_expr.ensures.same)),
    )

pub tree_rest-two_node-p-requires : goal.tree_rest-two_node-p-requires
tree_rest-two_node-p-requires t c =
    let p = c.requires in
    let l = c.loop-out in
    let u = is_found _ _ _ _ _ c.in-Some.is c.taken_at-g.ensures.place c.taken_at-g.ensures.same in
    let w = rw c.in_ok-y.was at c.tree_expr.ensures.place in
    (omega (arith, l.invariant.1, l.invariant.2, p.1, p.4), omega (arith, w.1, w.2, p.1), l.invariant.3, w.3)

pub tree_rest-loop-out-smaller : goal.tree_rest-loop-out-smaller
tree_rest-loop-out-smaller t c =
    let u = is_found _ _ _ _ _ c.in-Some.is c.taken_at-g.ensures.place c.taken_at-g.ensures.same in
    let w = rw c.in_ok-y.was at c.tree_expr.ensures.place in
    let m = c.two_node-p.ensures in
    omega (arith, m.next, u.low, u.high, w.0, w.1)

pub tree_rest-loop-out-preserved : goal.tree_rest-loop-out-preserved
tree_rest-loop-out-preserved t c =
    let a = c.args in
    let l = c.loop-out in
    let u = is_found _ _ _ _ _ c.in-Some.is c.taken_at-g.ensures.place c.taken_at-g.ensures.same in
    let y = c.tree_expr in
    let v = c.in_ok-y.y in
    let w = rw c.in_ok-y.was at y.ensures.place in
    let t = c.two_node-p in
    let m = t.ensures in
    let j = joined_min _ c.min-from.result _ _ c.min-from.ensures y.auto.out in (
      omega (arith, m.next, l.invariant.0, u.low, w.0),
      omega (arith, m.next, w.1),
      omega (arith, m.next, m.len, l.invariant.2, u.low, w.0, w.2),
      omega (arith, m.len, m.deep, l.invariant.3, w.3),
      (t.auto.out ∙ j.long) ∙ l.invariant.4,
      λ q g. l.invariant.5 q (more_go _ a.n a.s.now _ a.k _ a.b _ c.in-Some.t.op c.in-Some.t.end u.found u.low u.high
          _ _ u.level u.right _ (rw c.in_ok-y.was at y.ensures.same) _ m.next
          (λ t' u' x z. is_two _ a.n c.in-Some.t.op _ v _ _ _ _ t' u' m (t.auto.out ∙ j.long) x z j) q
          g
          (omega (arith, w.0)) w.1),
      λ le. absurd (omega (arith, le, c.if-k-ge-TIGHTEST_LEVEL.false)),
    )
