use borrow.Author.Rules.{rules}
use borrow.Author.Tests.{tests}
use mathlib.Core.Path.{refl}
use native.Mathlib.Omega.{arith}
use Rattle.texts.proofs.StoredBytes.{set_two}
use Rattle.texts.proofs.stored_nodes.field_node.Goals as goal

pub returns-then-out-ge2 : goal.returns-then-out-ge2
returns-then-out-ge2 c = record {
  next = refl;
  gives = search (tests, rules);
  deep = refl;
  len = refl;
  bytes = λ h. set_two c.args.out.now _ _ (omega (arith, c.if-out-ge2.true));
}

pub returns-else-out-ge2 : goal.returns-else-out-ge2
returns-else-out-ge2 c = record {
  next = refl;
  gives = search (tests, rules);
  deep = refl;
  len = refl;
  bytes = λ h. absurd (omega (arith, h, c.if-out-ge2.false));
}
