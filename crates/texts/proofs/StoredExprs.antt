-- The code that makes the stored forms of expressions, step by step, against the reader over what is left of the text.
use mathlib.Core.Path.{◌≡◌, refl, ap, ◌∙◌, subst}
use mathlib.Core.Bool.{Bool}
use mathlib.Core.List.{List}
use Prim.Native.Nat.{ℕ, zero, suc, ◌-◌, ◌≤◌, ◌<◌}
use native.Mathlib.Omega.{arith}
use lib.ListN.{length, drop, length-drop}
use Rattle.std.specs.Prelude.{Option as CodeOption, None, Some}
use Rattle.rules.specs.declared.Op.{Op}
use Rattle.rules.specs.Operators.{level, right_level, atom_level}
use Rattle.rules.specs.Trees.{Tree, two}
use Rattle.rules.specs.Limits.{open_most}
use Rattle.text_laws.specs.Reader.{Out, fail, got, missing, found, operator_at, word, behind, leaf, close, atom}
use Rattle.text_laws.specs.Reader.{and_then, expr, more}
use Rattle.text_laws.specs.LineReader.{of_out, read_tree}
use Rattle.texts.specs.HeldNames.{Names}
use Rattle.texts.specs.ExprPlaces.{taken_in, wrap_of}
use Rattle.texts.specs.StoredTrees.{TreeBytes, held, StoredIs, TreeGot, SameStored, StoredFor}
use Rattle.texts.specs.StoredPlaces.{LeafStored, ExprStored, AtomStored, ClosedStored, MoreStored}
use Rattle.texts.specs.declared.stored_trees.StoredTree.{StoredTree}
use Rattle.texts.proofs.TakenSteps.{step_none, step_some}
use Rattle.texts.proofs.StoredSteps.{same_here}

module _ (names : Names) (n : ℕ) (s : List ℕ) where
  -- ── expr ──

  pub expr_fail : (at k b : ℕ) → AtomStored names n s at b None → ExprStored names n s at k b None
  unfolding expr and_then
  expr_fail at k b A zero lt = absurd (omega arith)
  expr_fail at k b A (suc f) lt = rw (A f lt) refl

  pub expr_go : (at k b : ℕ) (a : TreeBytes) → AtomStored names n s at b (Some a) → at < a.next → a.next ≤ length s
      → (r : CodeOption TreeBytes) → MoreStored names n s a.next k atom_level b a r → ExprStored names n s at k b r
  unfolding expr and_then
  expr_go at k b a A lo hi r M zero lt = absurd (omega arith)
  expr_go at k b a A lo hi r M (suc f) lt =
      let w = A f lt in
      let lt' : length (drop a.next s) < f = simp length-drop (omega (arith, simp length-drop at lt)) in
      rw w.is_read (M w.tree f w.stored lt')

  -- ── more ──

  module _ (at k h b : ℕ) (p : TreeBytes) where
    pub more_none : taken_in k h (operator_at (drop at s)) ≡ missing → p.next ≡ at
        → MoreStored names n s at k h b p (Some p)
    unfolding more
    more_none e q t zero x lt = absurd (omega arith)
    more_none e q t (suc f) x lt =
        rw (step_none k h (got t (drop at s)) _ (operator_at (drop at s)) e)
        (same_here names n s t (drop at s) p x (rw q refl))

    module _ (o : Op) (end : ℕ) (i : taken_in k h (operator_at (drop at s)) ≡ found o (drop end s)) (lo : at < end)
        (hi : end ≤ length s) (l r : ℕ) (le : l ≡ level o) (re : r ≡ right_level o) where
      -- what is read behind the operator
      more_by : (t : Tree (List ℕ)) (f : ℕ) → more (suc f) k h b t (drop at s)
          ≡ and_then (expr f r b (drop end s)) (λ u q. more f k l b (two o t u) q)
      unfolding more
      more_by t f = rw (re, le) (step_some k h (got t (drop at s)) _ (operator_at (drop at s)) o (drop end s) i)

      more_got : (t u : Tree (List ℕ)) (f : ℕ) (q : List ℕ) → expr f r b (drop end s) ≡ got u q
          → more (suc f) k h b t (drop at s) ≡ more f k l b (two o t u) q
      unfolding and_then
      more_got t u f q e =
          more_by t f ∙ ap (λ (x : Out). and_then x (λ v q. more f k l b (two o t v) q)) e

      lower_to : (m : ℕ) → end ≤ m → (f : ℕ) → length (drop at s) < suc f → length (drop m s) < f
      lower_to m le f lt = simp length-drop (omega (arith, simp length-drop at lt))

      pub more_fail : ExprStored names n s end r b None → MoreStored names n s at k h b p None
      unfolding and_then
      more_fail E t zero x lt = absurd (omega arith)
      more_fail E t (suc f) x lt = rw (more_by t f, E f (lower_to end (omega arith) f lt)) refl

      module _ (y : TreeBytes) (E : ExprStored names n s end r b (Some y)) (z : TreeBytes) (mn : z.next ≡ y.next)
          (made : (t u : Tree (List ℕ)) → StoredIs names n t p → StoredIs names n u y → StoredIs names n (two o t u) z)
          (v : CodeOption TreeBytes) (M : MoreStored names n s z.next k l b z v) where
        more_held : (t : Tree (List ℕ)) (f : ℕ) → StoredIs names n t p → length (drop z.next s) < f
            → TreeGot names n s (expr f r b (drop end s)) y
            → SameStored names n s (more (suc f) k h b t (drop at s)) v
        more_held t f q lt u =
            rw (more_got t u.tree f (drop y.next s) u.is_read)
            (subst (λ (x : ℕ). SameStored names n s (more f k l b (two o t u.tree) (drop x s)) v) mn
            (M (two o t u.tree) f (made t u.tree q u.stored) lt))

        pub more_go : end < y.next → y.next ≤ length s → MoreStored names n s at k h b p v
        more_go lo' hi' t zero q lt = absurd (omega arith)
        more_go lo' hi' t (suc f) q lt =
            more_held t f q (rw mn (lower_to y.next (omega arith) f lt))
            (E f (lower_to end (omega arith) f lt))

  -- behind an expression, by the place where it ends
  pub more_next : (at k h b : ℕ) (left : StoredTree) (bytes : List ℕ) → left.next ≡ at → (q : CodeOption TreeBytes)
      → MoreStored names n s left.next k h b (held left bytes) q → MoreStored names n s at k h b (held left bytes) q
  more_next at k h b left bytes e q m = subst (λ (x : ℕ). MoreStored names n s x k h b (held left bytes) q) e m

  -- ── atom ──

  module _ (at b : ℕ) where
    pub atom_none : ((p : ℕ → List ℕ → Out) → atom p b (drop at s) ≡ fail) → AtomStored names n s at b None
    atom_none a f lt = a (expr f 0)

    pub atom_leaf : (r : CodeOption TreeBytes)
        → ((p : ℕ → List ℕ → Out) → atom p b (drop at s) ≡ leaf (word (drop at s)) (behind (drop at s)))
        → LeafStored names n s at r → AtomStored names n s at b r
    atom_leaf r a L f lt = rw (a (expr f 0)) L

  -- an expression in parentheses
  module _ (at b from : ℕ) (neg : Bool) (lo : at < from) (hi : from ≤ length s)
      (a : (p : ℕ → List ℕ → Out) → atom p b (drop at s) ≡ close (wrap_of neg) (p (b - 1) (drop from s)))
    where
      lower : (f : ℕ) → length (drop at s) < suc f → length (drop from s) < f
      lower f lt = simp length-drop (omega (arith, simp length-drop at lt))

      pub atom_fail : ExprStored names n s from 0 (b - 1) None → AtomStored names n s at b None
      unfolding close
      atom_fail E f lt = rw (a (expr f 0), E f (lower f lt)) refl

      pub atom_closed : (y : TreeBytes) → ExprStored names n s from 0 (b - 1) (Some y) → (r : CodeOption TreeBytes)
          → ClosedStored s neg y r → AtomStored names n s at b r
      atom_closed y E r C f lt =
          let v = E f (lower f lt) in
          rw (a (expr f 0), v.is_read) (C names n v.tree v.stored)

  -- ── the whole ──

  pub whole_stored : (at : ℕ) (r : CodeOption TreeBytes) → ExprStored names n s at 0 open_most r
      → StoredFor names n s (read_tree (drop at s)) r
  unfolding read_tree
  whole_stored at None E = ap of_out (E (suc (length (drop at s))) (omega arith))
  whole_stored at (Some r) E =
      let w = E (suc (length (drop at s))) (omega arith) in
      record { tree = w.tree; is_read = ap of_out w.is_read; stored = w.stored }
