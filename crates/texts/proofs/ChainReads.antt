-- The reader of expressions at the tightest level, whose operators group to the right.
use mathlib.Core.Path.{◌≡◌, refl, sym}
use mathlib.Core.List.{List}
use Prim.Native.Nat.{ℕ, ◌≤◌, ◌<◌}
use native.Mathlib.Omega.{arith}
use lib.ListN.{length, drop}
use Rattle.std.specs.Prelude.{None, Some}
use Rattle.rules.specs.declared.Op.{Op}
use Rattle.rules.specs.Operators.{level, right_level, atom_level}
use Rattle.rules.specs.Trees.{Tree, two, stored_length}
use Rattle.text_laws.specs.Reader.{missing, found, operator_at}
use Rattle.texts.specs.HeldNames.{Names}
use Rattle.texts.specs.ExprPlaces.{taken_in}
use Rattle.texts.specs.StoredTrees.{TreeBytes, held, StoredIs}
use Rattle.texts.specs.StoredPlaces.{ExprStored, AtomStored}
use Rattle.texts.specs.Chains.{tightest_level}
use Rattle.texts.specs.declared.stored_trees.StoredTree.{StoredTree}
use Rattle.texts.proofs.TakenSteps.{taken_level, tightest_right, tightest_stops}
use Rattle.texts.proofs.StoredSteps.{some_length}
use Rattle.texts.proofs.StoredExprs.{expr_go, more_none, more_fail, more_go}

module _ (names : Names) (n : ℕ) (s : List ℕ) where
  -- the bytes matter only where the stored form fits
  pub expr_bytes : (at k b : ℕ) (a : StoredTree) (l m : List ℕ) → (0 < a.len → a.len ≤ length m → m ≡ l)
      → ExprStored names n s at k b (Some (held a l)) → ExprStored names n s at k b (Some (held a m))
  expr_bytes at k b a l m e E f lt =
      let w = E f lt in
      let x = w.stored in
      let z : a.len ≡ stored_length w.tree = x.len in
      let g = some_length w.tree in
      record {
        tree = w.tree;
        is_read = w.is_read;
        stored = record {
          len = x.len;
          gives = x.gives;
          deep = x.deep;
          bytes = λ h. (let p = e (omega (arith, z, g)) (omega (arith, h, z)) in rw p (x.bytes (rw p at h)));
        };
      }

-- ── the reader at the tightest level ──

module _ (names : Names) (n : ℕ) (s : List ℕ) (k b at : ℕ) (a : TreeBytes) (A : AtomStored names n s at b (Some a))
    (lo : at < a.next) (hi : a.next ≤ length s) where
  pub expr_ends : taken_in k atom_level (operator_at (drop a.next s)) ≡ missing → ExprStored names n s at k b (Some a)
  expr_ends e = expr_go names n s at k b a A lo hi (Some a) (more_none names n s a.next k atom_level b a e refl)

module _ (names : Names) (n : ℕ) (s : List ℕ) (k b : ℕ) (ge : tightest_level ≤ k) (at : ℕ) (a : TreeBytes)
    (A : AtomStored names n s at b (Some a)) (lo : at < a.next) (hi : a.next ≤ length s) (o : Op)
    (end : ℕ) (i : taken_in k atom_level (operator_at (drop a.next s)) ≡ found o (drop end s)) (lo' : a.next < end)
    (hi' : end ≤ length s) where
  levels : (right_level o ≡ k) × (level o ≡ k)
  levels = tightest_right k ge o (taken_level k atom_level (operator_at (drop a.next s)) o (drop end s) i)

  pub expr_fails : ExprStored names n s end k b None → ExprStored names n s at k b None
  expr_fails E =
      expr_go names n s at k b a A lo hi None
      (more_fail names n s a.next k atom_level b a o end i lo' hi' k k (sym levels.1) (sym levels.0) E)

  pub expr_goes : (y : TreeBytes) → ExprStored names n s end k b (Some y) → end < y.next → y.next ≤ length s
      → (z : TreeBytes) → z.next ≡ y.next
      → ((t u : Tree (List ℕ)) → StoredIs names n t a → StoredIs names n u y → StoredIs names n (two o t u) z)
      → ExprStored names n s at k b (Some z)
  expr_goes y E lo'' hi'' z mn made =
      let stop = more_none names n s z.next k k b z (tightest_stops k ge (operator_at (drop z.next s))) refl in
      expr_go names n s at k b a A lo hi (Some z)
      (more_go names n s a.next k atom_level b a o end i lo' hi' k k (sym levels.1) (sym levels.0) y E z mn
      made (Some z) stop lo'' hi'')
