-- Renumbering there and back.
use mathlib.Core.Path.{◌≡◌, refl, ap, ◌∙◌}
use mathlib.Core.Bool.{Bool, true, false}
use mathlib.Core.List.{List, [], ◌∷◌, ◌++◌, map, map-append, append-nil}
use mathlib.Core.Option.{Option, none, some}
use Prim.Native.Nat.{ℕ, suc, ◌+◌, ◌-◌, ◌≤◌, ◌<◌}
use native.Mathlib.Omega.{arith}
use lib.Dec.{ltb, eqb}
use borrow.Author.Tests.{ltb-true, ltb-false, lt-ltb, le-ltb, leb-false, lt-leb, le-leb, eqb-true}
use Rattle.base.specs.Lists.{all, between, joined, list_of}
use Rattle.base.proofs.Breaks.{all_cons, all_one, all_append}
use Rattle.base.proofs.Joined.{joined_append, joined_one}
use Rattle.rules.specs.Trees.{Tree, num, read, two, negation}
use Rattle.rules.specs.Fields.{Width, fixed, measured, rest, Field, width_trees}
use Rattle.rules.specs.References.{tree_reads, field_reads}
use Rattle.rules.specs.Edits.{renumbered_tree, renumbered_maybe, renumbered_width, renumbered}
use Rattle.rules.specs.Edits.{closed, opened, run_length}

-- ── numbers ──

module _ (at n i : ℕ) where
  pub closed_low : i < at → closed at n i ≡ i
  unfolding closed
  closed_low h = rw (lt-ltb i at h)

  pub closed_high : at ≤ i → closed at n i ≡ i - n
  unfolding closed
  closed_high h = rw (le-ltb i at h)

  pub opened_low : i < at → opened at n i ≡ i
  unfolding opened
  opened_low h = rw (lt-ltb i at h)

  pub opened_high : at ≤ i → opened at n i ≡ i + n
  unfolding opened
  opened_high h = rw (le-ltb i at h)

pub closed_opened : (at n i : ℕ) → closed at n (opened at n i) ≡ i
closed_opened at n i = go (ltb i at) refl
  where
    go : (b : Bool) → ltb i at ≡ b → closed at n (opened at n i) ≡ i
    go true e = let low = ltb-true i at e in rw (opened_low at n i low) (closed_low at n i low)
    go false e =
        let high = ltb-false i at e in
        let above : at ≤ i + n = omega arith in
        let back : i + n - n ≡ i = omega arith in
        rw (opened_high at n i high) (closed_high at n (i + n) above ∙ back)

-- no index is opened into the n new ones
pub opened_outside : (at n last i : ℕ) → suc last ≡ at + n → between at (opened at n i) last ≡ false
opened_outside at n last i h = go (ltb i at) refl
  where
    go : (b : Bool) → ltb i at ≡ b → between at (opened at n i) last ≡ false
    go true e = let low = ltb-true i at e in rw (opened_low at n i low, lt-leb at i low)
    go false e =
        let high = ltb-false i at e in
        let above : at ≤ i + n = omega arith in
        let beyond : last < i + n = omega (arith, h) in
        rw (opened_high at n i high, le-leb at (i + n) above, lt-leb (i + n) last beyond)

-- an index that is not cut comes back
pub opened_closed : (first last i : ℕ) → first ≤ last → between first i last ≡ false
    → opened first (run_length first last) (closed first (run_length first last) i) ≡ i
opened_closed first last i run outside = go (ltb i first) refl
  where
    n : ℕ
    n = run_length first last

    go : (b : Bool) → ltb i first ≡ b → opened first n (closed first n i) ≡ i
    go true e = let low = ltb-true i first e in rw (closed_low first n i low) (opened_low first n i low)
    go false e =
        let high = ltb-false i first e in
        let beyond : last < i = leb-false i last (rw (le-leb first i high) at outside) in
        let above : first ≤ i - n = omega arith in
        let back : i - n + n ≡ i = omega arith in
        rw (closed_high first n i high) (opened_high first n (i - n) above ∙ back)

-- ── trees and fields ──

module _ (f g : ℕ → ℕ) where
  -- the index comes back
  abbrev pub comes_back : ℕ → Bool
  comes_back i = eqb (g (f i)) i

  pub tree_back : (t : Tree ℕ) → all comes_back (tree_reads t) ≡ true → renumbered_tree g (renumbered_tree f t) ≡ t
  unfolding renumbered_tree tree_reads
  tree_back (num n) h = refl
  tree_back (read i) h = ap read (eqb-true (g (f i)) i (all_one comes_back i h))
  tree_back (two o a b) h =
      let e = all_append comes_back (tree_reads a) (tree_reads b) h in
      rw (tree_back a e.0, tree_back b e.1)
  tree_back (negation a) h = rw (tree_back a h)

  maybe_back : (o : Option (Tree ℕ)) → all comes_back (joined tree_reads (list_of o)) ≡ true → renumbered_maybe g
      (renumbered_maybe f o) ≡ o
  maybe_back none h = refl
  maybe_back (some t) h = ap some (tree_back t (rw (← joined_one tree_reads t) h))

  width_back : (w : Width ℕ) → all comes_back (joined tree_reads (width_trees w)) ≡ true → renumbered_width g
      (renumbered_width f w) ≡ w
  width_back (fixed n) h = refl
  width_back (measured u t) h = ap (measured u) (tree_back t (rw (← joined_one tree_reads t) h))
  width_back rest h = refl

  pub field_back : (x : Field ℕ) → all comes_back (field_reads x) ≡ true → renumbered g (renumbered f x) ≡ x
  unfolding renumbered field_reads
  field_back x h =
      let w = width_trees x.width in
      let c = list_of x.constraint in
      let k = list_of x.condition in
      let e = all_append comes_back (joined tree_reads w) (joined tree_reads (c ++ k))
      (rw (← joined_append tree_reads w (c ++ k)) h) in
      let s = all_append comes_back (joined tree_reads c) (joined tree_reads k)
      (rw (← joined_append tree_reads c k) e.1) in
      simp (width_back x.width e.0, maybe_back x.constraint s.0, maybe_back x.condition s.1)

  pub fields_back : (l : List (Field ℕ)) → all (λ x. all comes_back (field_reads x)) l ≡ true
      → map (renumbered g) (map (renumbered f) l) ≡ l
  fields_back [] h = refl
  fields_back (x ∷ l) h =
      let e = all_cons (λ y. all comes_back (field_reads y)) x l h in
      rw (field_back x e.0, fields_back l e.1)

-- ── what is read after a renumbering ──

module _ (g : ℕ → ℕ) where
  pub tree_reads_lem : (t : Tree ℕ) → tree_reads (renumbered_tree g t) ≡ map g (tree_reads t)
  unfolding renumbered_tree tree_reads
  tree_reads_lem (num n) = refl
  tree_reads_lem (read i) = refl
  tree_reads_lem (two o a b) = rw (tree_reads_lem a, tree_reads_lem b, map-append g (tree_reads a) (tree_reads b))
  tree_reads_lem (negation a) = tree_reads_lem a

  maybe_reads_lem : (o : Option (Tree ℕ)) → joined tree_reads (list_of (renumbered_maybe g o)) ≡ map g
      (joined tree_reads (list_of o))
  unfolding joined
  maybe_reads_lem none = refl
  maybe_reads_lem (some t) = rw (append-nil (tree_reads (renumbered_tree g t)), append-nil (tree_reads t))
      (tree_reads_lem t)

  width_reads : (w : Width ℕ) → joined tree_reads (width_trees (renumbered_width g w)) ≡ map g
      (joined tree_reads (width_trees w))
  unfolding joined
  width_reads (fixed n) = refl
  width_reads (measured u t) = rw (append-nil (tree_reads (renumbered_tree g t)), append-nil (tree_reads t))
      (tree_reads_lem t)
  width_reads rest = refl

  pub field_reads_lem : (x : Field ℕ) → field_reads (renumbered g x) ≡ map g (field_reads x)
  unfolding renumbered field_reads
  field_reads_lem x =
      simp (
        joined_append,
        map-append,
        width_reads x.width,
        maybe_reads_lem x.constraint,
        maybe_reads_lem x.condition,
      )
