-- Operators that wait for their right operand: the whole with one more is the whole with that operand.
use mathlib.Core.Path.{◌≡◌, refl, sym}
use mathlib.Core.Bool.{Bool, true, false, cond, ◌&&◌}
use Prim.Native.Nat.{ℕ, ◌+◌, max}
use native.Mathlib.Omega.{arith}
use native.Mathlib.Nat.{zero-add}
use lib.Dec.{eqb}
use borrow.Author.Tests.{ne_eqb}
use Rattle.std.specs.Prelude.{Option, None, Some}
use Rattle.rules.specs.declared.Op.{Op}
use Rattle.rules.specs.declared.ValueType.{ValueType}
use Rattle.rules.specs.Operators.{takes, gives}
use Rattle.texts.specs.StoredTrees.{is_type}
use Rattle.texts.specs.StoredPlaces.{two_type}
use Rattle.texts.specs.Chains.{no_chain, chain_type, chained, pushed}
use Rattle.texts.specs.declared.stored_trees.StoredTree.{StoredTree}
use Rattle.texts.specs.declared.chains.Chain.{Chain}

-- an operator with its operands
abbrev pub joined_tree : Op → StoredTree → StoredTree → StoredTree
joined_tree o a y = record {
  next = y.next;
  gives = two_type o a.gives y.gives;
  depth = 1 + max a.depth y.depth;
  len = 1 + (a.len + y.len);
}

-- ── the whole ──

pub none_waits : (at : ℕ) (y : StoredTree) → chained (no_chain at) y ≡ y
unfolding chain_type
none_waits at y = let d : max 0 (0 + y.depth) ≡ y.depth = omega arith in rw (d, zero-add y.len)

type_waits : (c : Chain) (o : Op) (a y : Option ValueType)
    → cond (is_type (takes o) y) (cond (is_type (takes o) a) (chain_type c (Some (gives o))) None) None
    ≡ chain_type c (two_type o a y)
unfolding chain_type
type_waits c o a y = go (is_type (takes o) a) (is_type (takes o) y)
  where
    wrong : chain_type c None ≡ None
    wrong = pick (eqb c.ops 0)
      where
        pick : (b : Bool) → cond {A = Option ValueType} b None None ≡ None
        pick true = refl
        pick false = refl

    go : (p q : Bool) → cond q (cond p (chain_type c (Some (gives o))) None) None
        ≡ chain_type c (cond (p && q) (Some (gives o)) None)
    go true true = refl
    go true false = sym wrong
    go false true = sym wrong
    go false false = sym wrong

pub one_more : (c : Chain) (o : Op) (a y : StoredTree) (next : ℕ)
    → chained (pushed c o a next) y ≡ chained c (joined_tree o a y)
unfolding chain_type
one_more c o a y next =
    let nz : eqb (c.ops + 1) 0 ≡ false = ne_eqb (c.ops + 1) 0 (λ e. omega arith) in
    let d : max (max c.deep (c.ops + 1 + a.depth)) (c.ops + 1 + y.depth)
    ≡ max c.deep (c.ops + (1 + max a.depth y.depth)) = omega arith in
    let l : c.len + (1 + a.len) + y.len ≡ c.len + (1 + (a.len + y.len)) = omega arith in
    rw (nz, type_waits c o a.gives y.gives, d, l)
