use mathlib.Core.Path.{refl}
use native.Mathlib.Omega.{arith}
use Prim.Native.Nat.{◌<◌}
use lib.ListN.{length}
use Rattle.rules.specs.Trees.{le4}
use Rattle.texts.proofs.StoredBytes.{set_five}
use borrow.Author.Rules.{rules}
use Rattle.texts.proofs.stored_nodes.number_node.Goals as goal

pub bounds-out-0 : goal.bounds-out-0
bounds-out-0 c =
    let q : 0 < length c.args.out.now = omega (arith, c.if-out-ge5.true) in
    search (rules, q)

pub bounds-out-1 : goal.bounds-out-1
bounds-out-1 c =
    let q : 1 < length c.args.out.now = omega (arith, c.if-out-ge5.true) in
    search (rules, q)

pub bounds-out-2 : goal.bounds-out-2
bounds-out-2 c =
    let q : 2 < length c.args.out.now = omega (arith, c.if-out-ge5.true) in
    search (rules, q)

pub bounds-out-3 : goal.bounds-out-3
bounds-out-3 c =
    let q : 3 < length c.args.out.now = omega (arith, c.if-out-ge5.true) in
    search (rules, q)

pub bounds-out-4 : goal.bounds-out-4
bounds-out-4 c =
    let q : 4 < length c.args.out.now = omega (arith, c.if-out-ge5.true) in
    search (rules, q)

pub returns-then-out-ge5 : goal.returns-then-out-ge5
unfolding le4
returns-then-out-ge5 c = record {
  next = refl;
  gives = refl;
  deep = refl;
  len = refl;
  bytes = λ h. set_five c.args.out.now _ _ _ _ _ (omega (arith, c.if-out-ge5.true));
}

pub returns-else-out-ge5 : goal.returns-else-out-ge5
returns-else-out-ge5 c = record {
  next = refl;
  gives = refl;
  deep = refl;
  len = refl;
  bytes = λ h. absurd (omega (arith, h, c.if-out-ge5.false));
}
