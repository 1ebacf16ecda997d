use mathlib.Core.Path.{◌≡◌, refl, ap, ◌∙◌}
use Prim.Native.Nat.{ℕ, ◌+◌, ◌<◌}
use native.Mathlib.Omega.{arith}
use lib.ListN.{length}
use Rattle.texts.proofs.OperatorRows.{row_code}
use Rattle.texts.proofs.stored_nodes.two_node.Goals as goal

pub returns : goal.returns
returns c = record {
  next = refl;
  gives = c.two_type-gives.ensures;
  deep = ap (λ (d : ℕ). 1 + d) c.max-depth.ensures;
  len = refl;
  bytes = λ h.
      let n = c.args.a.len + c.args.b.len in
      let lt : n < length c.args.out.now = omega (arith, h, c.put_first.auto.out) in
      let e : 1 + n ≡ n + 1 = omega arith in
      rw e (c.put_first.ensures lt ∙ rw (row_code c.operator-row.result c.args.o c.operator-row.ensures) refl);
}
