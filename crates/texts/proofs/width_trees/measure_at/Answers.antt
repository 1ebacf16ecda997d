use mathlib.Core.Path.{◌≡◌}
use native.Mathlib.Omega.{arith}
use Rattle.std.specs.Prelude.{None}
use Rattle.texts.specs.HeldNames.{names_in}
use Rattle.texts.proofs.FieldWidths.{bits_none, bits_some, bits_unit, bits_within}
use Rattle.texts.proofs.WidthTrees.{measure_fail, measure_bare, measure_sized}
use Rattle.texts.proofs.width_trees.measure_at.Goals as goal

pub returns-in_err-t-clause-same : goal.returns-in_err-t-clause-same
returns-in_err-t-clause-same c =
    let a = c.args in
    let gone : c.from_residual.result ≡ None = grind arith in
    rw gone (measure_fail (names_in a.names.now) a.n a.s.now a.at c.stored_tree.new.out
    (rw c.in_err-t.was at c.stored_tree.ensures.same)).1

pub returns-in_err-u-clause-same : goal.returns-in_err-u-clause-same
returns-in_err-u-clause-same c =
    let a = c.args in
    let t = c.in_ok-t.t in
    let gone : c.from_residual-in_err-u.result ≡ None = grind arith in
    let m = bits_none a.s.now t.next _ c.unit_behind.ensures.same c.in_err-u.was in
    rw gone (measure_bare (names_in a.names.now) a.n a.s.now a.at c.stored_tree.new.out t
    (rw c.in_ok-t.was at c.stored_tree.ensures.same) m).1

pub sized-requires : goal.sized-requires
sized-requires c =
    let h = c.unit_behind.ensures in
    let w = rw c.in_ok-t.was at c.stored_tree.ensures.place in
    let v = bits_within _ _ c.in_ok-u.was h.place in (
      omega (arith, w.0, v.0),
      v.1,
      bits_unit c.args.s.now c.in_ok-t.t.next _ h.same c.in_ok-u.was,
    )

pub returns-clause-same : goal.returns-clause-same
returns-clause-same c =
    let a = c.args in
    let t = c.in_ok-t.t in
    let k = c.sized in
    let m = bits_some a.s.now t.next _ c.unit_behind.ensures.same c.in_ok-u.was in
    (measure_sized (names_in a.names.now) a.n a.s.now a.at c.stored_tree.new.out t
    (rw c.in_ok-t.was at c.stored_tree.ensures.same) c.in_ok-u.u c.in_ok-u.next k.result m k.ensures.place
    k.ensures.same).1
