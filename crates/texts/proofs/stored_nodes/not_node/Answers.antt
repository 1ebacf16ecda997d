use mathlib.Core.Path.{◌≡◌, refl}
use Prim.Native.Nat.{◌+◌, ◌<◌}
use native.Mathlib.Omega.{arith}
use lib.ListN.{length}
use Rattle.texts.proofs.stored_nodes.not_node.Goals as goal

pub returns : goal.returns
returns c = record {
  next = refl;
  gives = c.not_type-gives.ensures;
  deep = refl;
  len = refl;
  bytes = λ h.
      let n = c.args.p.len in
      let lt : n < length c.args.out.now = omega
      (arith, h, c.put_first.auto.out) in
      let e : 1 + n ≡ n + 1 = omega arith in
      rw e (c.put_first.ensures lt);
}
