-- A chain with one operator more stands for what the chain before it did.
use mathlib.Core.Path.{◌≡◌, refl, ap, sym, ◌∙◌, subst}
use mathlib.Core.List.{List, ◌∷◌}
use Prim.Native.Nat.{ℕ, ◌+◌, ◌-◌, ◌≤◌, max}
use native.Mathlib.Omega.{arith}
use lib.ListN.{length, take, drop, length-drop}
use lib.Seq.{take-take, take-add, drop-drop, drop_at, length-take-le}
use Rattle.rules.specs.Operators.{code}
use Rattle.rules.specs.Trees.{Tree, two, depth, stored_tree, stored_length}
use Rattle.texts.specs.HeldNames.{Names}
use Rattle.texts.specs.StoredTrees.{type_of, look_up, held, StoredIs}
use Rattle.texts.specs.StoredPlaces.{ExprStored, AtomStored, TreeWithin}
use Rattle.texts.specs.Chains.{tightest_level, Pushes, ChainStored}
use Rattle.texts.specs.declared.stored_trees.StoredTree.{StoredTree}
use Rattle.texts.specs.declared.chains.Chain.{Chain}
use Rattle.texts.proofs.ExprSteps.{two_length}
use Rattle.texts.proofs.StoredBytes.{Joined}
use Rattle.std.specs.Prelude.{Some}
use Rattle.texts.proofs.ChainReads.{expr_fails, expr_goes}
use Rattle.texts.proofs.ChainLaws.{joined_tree, one_more}

-- lists that begin alike go on alike behind their first bytes
behind_like : (m i : ℕ) (l r : List ℕ) → m ≤ length l → m ≤ length r → take (m + i) l ≡ take (m + i) r
    → take i (drop m l) ≡ take i (drop m r)
behind_like m i l r le re e =
    sym (drop_at (take m l) (take i (drop m l)) m (length-take-le m l le))
    ∙ (ap (drop m) (sym (take-add m i l) ∙ (e ∙ take-add m i r))
    ∙ drop_at (take m r) (take i (drop m r)) m (length-take-le m r re))

-- the operator with both operands, where the bytes begin as those of the chain
module _ (names : Names) (n : ℕ) (s : List ℕ) (k : ℕ) (c : Chain) (out part mid : List ℕ)
    (j : Joined c.len out part mid) (a : StoredTree) (after : List ℕ) (d : Chain) (x : Pushes s k c a mid after d)
    (y : StoredTree) (bytes : List ℕ) (long : length bytes ≡ length after)
    (front : c.len + (1 + a.len) + y.len ≤ length after
    → take (c.len + (1 + a.len)) bytes ≡ take (c.len + (1 + a.len)) after) where
  first_bytes : (t : Tree (List ℕ)) → StoredIs names n t (held a part)
      → c.len + (1 + a.len) + y.len ≤ length after
      → take (1 + a.len) (drop c.len bytes) ≡ code x.op ∷ stored_tree (look_up names n) t
  first_bytes t v fit =
      let q = j.back (omega (arith, fit, x.waits.long, j.long)) in
      let z : a.len ≡ stored_length t = v.len in
      let l : length part ≡ length mid - c.len = ap length (sym q) ∙ length-drop c.len mid in
      behind_like c.len (1 + a.len) bytes after (omega (arith, fit, long)) (omega (arith, fit)) (front fit)
      ∙ (x.waits.back (omega (arith, fit, x.waits.long))
      ∙ rw (q, v.bytes (omega (arith, fit, l, z, x.waits.long))) refl)

  made : (t u : Tree (List ℕ)) → StoredIs names n t (held a part)
      → StoredIs names n u (held y (drop (c.len + (1 + a.len)) bytes))
      → StoredIs names n (two x.op t u) (held (joined_tree x.op a y) (drop c.len bytes))
  unfolding type_of depth stored_tree
  made t u v w' =
      let l : stored_length (two x.op t u) ≡ 1 + (a.len + y.len) =
      two_length x.op t u a.len y.len (sym v.len) (sym w'.len) in
      let z : y.len ≡ stored_length u = w'.len in
      record {
        len = sym l;
        gives = rw (v.gives, w'.gives) refl;
        deep = rw (v.deep, w'.deep) (omega arith);
        bytes = λ h.
            let dl = length-drop c.len bytes in
            let el = length-drop (c.len + (1 + a.len)) bytes in
            let fit : c.len + (1 + a.len) + y.len ≤ length after = omega (arith, h, l, dl, long) in
            let q : 1 + (a.len + y.len) ≡ 1 + a.len + y.len = omega arith in
            rw (
              q,
              take-add (1 + a.len) y.len (drop c.len bytes),
              first_bytes t v fit,
              drop-drop (1 + a.len) c.len bytes,
              w'.bytes (omega (arith, fit, el, z, long)),
            ) refl;
      }

module _ (names : Names) (n : ℕ) (s : List ℕ) (at k b : ℕ) (ge : tightest_level ≤ k) (c : Chain) (out part mid : List ℕ)
    (C : ChainStored names n s at k b c out) (j : Joined c.len out part mid) (a : StoredTree)
    (A : AtomStored names n s c.next b (Some (held a part))) (p : TreeWithin s (c.next + 1) c.next 0 a)
    (after : List ℕ) (d : Chain) (x : Pushes s k c a mid after d) where
  pub chain_goes : ChainStored names n s at k b d after
  chain_goes = subst (λ (e : Chain). ChainStored names n s at k b e after) (sym x.waits.is_pushed) (record {
    low = omega (arith, C.low, p.0, x.low);
    high = x.high;
    grown = omega (arith, C.grown, p.2, x.low);
    flat = deep_le C.flat (omega (arith, C.few, p.3));
    few = omega (arith, C.few);
    fails = λ E.
        C.fails (expr_fails names n s k b ge c.next (held a part) A (omega (arith, p.0)) p.1
        x.op x.end x.is_taken x.low x.high E);
    goes = λ y bytes long front lo hi E.
        subst (λ (t : StoredTree). ExprStored names n s at k b (Some (held t bytes)))
        (sym (one_more c x.op a y x.end))
        (C.goes (joined_tree x.op a y) bytes (long ∙ (x.waits.long ∙ j.long)) (kept y bytes front)
        (omega (arith, lo, p.0, x.low)) hi
        (expr_goes names n s k b ge c.next (held a part) A (omega (arith, p.0)) p.1 x.op x.end
        x.is_taken x.low x.high (held y (drop (c.len + (1 + a.len)) bytes)) E lo hi
        (held (joined_tree x.op a y) (drop c.len bytes)) refl
        (made names n s k c out part mid j a after d x y bytes long front)));
  })
    where
      deep_le : c.deep ≤ c.len → c.ops + a.depth ≤ c.len + a.len
          → max c.deep (c.ops + 1 + a.depth) ≤ c.len + (1 + a.len)
      deep_le q r = omega arith

      kept : (y : StoredTree) (bytes : List ℕ)
          → (c.len + (1 + a.len) + y.len ≤ length after
          → take (c.len + (1 + a.len)) bytes ≡ take (c.len + (1 + a.len)) after)
          → c.len + (1 + (a.len + y.len)) ≤ length out → take c.len bytes ≡ take c.len out
      kept y bytes front h =
          let le : c.len ≤ c.len + (1 + a.len) = omega arith in
          let e = front (omega (arith, h, x.waits.long, j.long)) in
          sym (take-take c.len (c.len + (1 + a.len)) bytes le)
          ∙ (ap (take c.len) e
          ∙ (take-take c.len (c.len + (1 + a.len)) after le
          ∙ (x.waits.front (omega (arith, h, j.long)) ∙ j.front (omega (arith, h)))))
