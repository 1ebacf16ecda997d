-- The steps of the code that makes stored expressions, against those of the reader over what is left of the text.
use mathlib.Core.Path.{◌≡◌, refl, ap, sym, ◌∙◌}
use mathlib.Core.Bool.{Bool, true, false, cond}
use mathlib.Core.List.{List, [], ◌∷◌}
use Prim.Native.Nat.{ℕ, suc, ◌+◌, ◌*◌, ◌-◌, ◌≤◌, ◌<◌}
use native.Mathlib.Omega.{arith}
use native.Mathlib.Numerals.{add-one}
use lib.Dec.{ltb}
use lib.ListN.{length, take, drop, get_or, length-drop}
use lib.Seq.{drop-cons, drop-length, take-add}
use borrow.Author.Tests.{ne_eqb}
use Rattle.std.specs.Prelude.{Option as CodeOption, None, Some}
use Rattle.rules.specs.declared.ValueType.TheVariants.{Number}
use Rattle.rules.specs.declared.Op.{Op}
use Rattle.rules.specs.Operators.{code, number_code, field_code}
use Rattle.rules.specs.Names.{is_short}
use Rattle.rules.specs.Trees.{Tree, num, read, two, negation, depth, stored_tree, stored_length, le4}
use Rattle.text_laws.specs.Reader.{got, word, behind, word_value, is_numeral, is_number_word, leaf}
use Rattle.text_laws.specs.Reader.{close}
use Rattle.texts.specs.HeldNames.{Names}
use Rattle.texts.specs.StoredTrees.{look_up, type_of, TreeBytes, held, maybe_held, StoredIs, SameStored}
use Rattle.texts.specs.StoredPlaces.{Made, NotMade, TwoMade, WithinStored, LeafStored}
use Rattle.texts.specs.ExprPlaces.{wrap_of}
use Rattle.texts.specs.StoredPlaces.{ClosedStored}
use Rattle.texts.specs.declared.stored_trees.StoredTree.{StoredTree}
use Rattle.texts.proofs.ExprSteps.{two_length}
use Rattle.texts.proofs.ExprLeaves.{word_part, longer}
use Rattle.texts.proofs.StoredBytes.{Joined}

-- ── a stored expression that holds a tree ──

pub some_length : (t : Tree (List ℕ)) → 0 < stored_length t
unfolding stored_tree
some_length (num n) = omega arith
some_length (read w) = omega arith
some_length (two o a b) = omega arith
some_length (negation a) = omega arith

module _ (names : Names) (n : ℕ) where
  pub is_name : (w : List ℕ) (at : ℕ) (r : TreeBytes)
      → Made at (cond (ltb (look_up names n w) n) (Some Number) None) 1 2 (field_code ∷ look_up names n w ∷ []) r
      → StoredIs names n (read w) r
  unfolding stored_tree type_of depth
  is_name w at r m =
      record { len = m.len; gives = m.gives; deep = m.deep; bytes = λ h. rw m.len (m.bytes (omega arith)) }

  pub is_number : (v at : ℕ) (r : TreeBytes) → Made at (Some Number) 1 5 (number_code ∷ le4 v) r → StoredIs names n
      (num v) r
  unfolding stored_tree type_of le4 depth
  is_number v at r m =
      record { len = m.len; gives = m.gives; deep = m.deep; bytes = λ h. rw m.len (m.bytes (omega arith)) }

  pub is_not : (p : StoredTree) (before : List ℕ) (at : ℕ) (r : TreeBytes) (t : Tree (List ℕ))
      → length r.bytes ≡ length before → NotMade p before at r → StoredIs names n t (held p before)
      → StoredIs names n (negation t) r
  unfolding stored_tree type_of depth
  is_not p before at r t k m x =
      let e : p.len ≡ stored_length t = x.len in
      record {
        len = m.len ∙ rw e (omega arith);
        gives = m.gives ∙ rw x.gives refl;
        deep = m.deep ∙ rw x.deep (omega arith);
        bytes = λ h. rw m.len (m.bytes (omega arith) ∙ rw (x.bytes (omega (arith, h, k))) refl);
      }

  two_bytes : (o : Op) (t u : Tree (List ℕ)) (x y : ℕ) (a b : List ℕ) → take x a ≡ stored_tree (look_up names n) t
      → drop x a ≡ b → take y b ≡ stored_tree (look_up names n) u
      → code o ∷ take (x + y) a ≡ stored_tree (look_up names n) (two o t u)
  unfolding stored_tree
  two_bytes o t u x y a b p d q = rw (take-add x y a, p, d, q) refl

  pub is_two : (o : Op) (a b : StoredTree) (before right mid : List ℕ) (r : TreeBytes) (t u : Tree (List ℕ))
      → TwoMade o a b mid r → length r.bytes ≡ length before → StoredIs names n t (held a before)
      → StoredIs names n u (held b right) → Joined a.len before right mid → StoredIs names n (two o t u) r
  unfolding type_of depth
  is_two o a b before right mid r t u m k x y j =
      let l : stored_length (two o t u) ≡ 1 + (a.len + b.len) =
      two_length o t u a.len b.len (sym x.len) (sym y.len) in
      let lx : a.len ≡ stored_length t = x.len in
      let ly : b.len ≡ stored_length u = y.len in
      record {
        len = m.len ∙ sym l;
        gives = m.gives ∙ rw (x.gives, y.gives) refl;
        deep = m.deep ∙ rw (x.deep, y.deep) (omega arith);
        bytes = λ h.
            let le : a.len ≤ length before = omega (arith, h, l, k) in
            let n : length right ≡ length mid - a.len = ap length (sym (j.back le)) ∙ length-drop a.len mid in
            rw m.len (m.bytes (omega (arith, h, l)) ∙ two_bytes o t u a.len b.len mid right
            (j.front le ∙ x.bytes (omega (arith, le, lx))) (j.back le)
            (y.bytes (omega (arith, h, l, k, n, j.long, ly))));
      }

  -- the same expression, that ends elsewhere
  pub is_moved : (p r : StoredTree) (t : Tree (List ℕ)) (before after : List ℕ) → r.gives ≡ p.gives
      → r.depth ≡ p.depth → r.len ≡ p.len → after ≡ before → StoredIs names n t (held p before)
      → StoredIs names n t (held r after)
  is_moved p r t before after k d l b x = record {
    len = l ∙ x.len;
    gives = k ∙ x.gives;
    deep = d ∙ x.deep;
    bytes = λ h. rw (l, b) (x.bytes (rw b at h));
  }

  -- ── the code's answer is the reader's ──

  pub same_here : (s : List ℕ) (t : Tree (List ℕ)) (q : List ℕ) (r : TreeBytes) → StoredIs names n t r
      → drop r.next s ≡ q → SameStored names n s (got t q) (Some r)
  same_here s t q r x e = record { tree = t; is_read = ap (got t) (sym e); stored = x }

-- ── places ──

-- from a later place on
pub up_within : (s : List ℕ) (lo at z lo' at' z' : ℕ) (r : CodeOption StoredTree) → lo' ≤ lo
    → z + 5 * at' ≤ z' + 5 * at → WithinStored s lo at z r → WithinStored s lo' at' z' r
up_within s lo at z lo' at' z' None a b w = tt
up_within s lo at z lo' at' z' (Some t) a b w = (omega (arith, a, w.0), w.1, omega (arith, b, w.2), w.3)

-- ── a leaf ──

module _ (names : Names) (n : ℕ) (s : List ℕ) (at end : ℕ) (lo : at ≤ end) (hi : end ≤ length s)
    (e : drop end s ≡ behind (drop at s)) where
  part_is : take (end - at) (drop at s) ≡ word (drop at s)
  part_is = word_part s at end lo hi e

  abbrev pub LeafMade : CodeOption StoredTree → List ℕ → Type 0
  LeafMade r bytes = WithinStored s (at + 1) at 0 r × LeafStored names n s at (maybe_held r bytes)

  pub leaf_name : (i : ℕ) (r : StoredTree) (bytes : List ℕ) → is_short (take (end - at) (drop at s)) ≡ true
      → i ≡ look_up names n (take (end - at) (drop at s))
      → Made end (cond (ltb i n) (Some Number) None) 1 2 (field_code ∷ i ∷ []) (held r bytes) → LeafMade (Some r) bytes
  unfolding leaf is_short
  leaf_name i r bytes y q m =
      let u : at + 1 ≤ end = longer s at end lo hi e is_short refl y in
      let x : StoredIs names n (read (word (drop at s))) (held r bytes) =
      is_name names n (word (drop at s)) end (held r bytes) (rw part_is at (rw q at m)) in
      let d : drop r.next s ≡ behind (drop at s) = rw m.next e in (
        (rw m.next u, rw m.next hi, rw (m.next, m.len) (omega arith), rw (m.deep, m.len) (omega arith)),
        rw (rw part_is at y, leaf) (same_here names n s (read (word (drop at s))) (behind (drop at s)) (held r bytes)
            x d),
      )

  pub leaf_number : (v : ℕ) (r : StoredTree) (bytes : List ℕ) → is_short (take (end - at) (drop at s)) ≡ false
      → is_number_word (take (end - at) (drop at s)) ≡ true
      → (is_number_word (take (end - at) (drop at s)) ≡ true → v ≡ word_value (take (end - at) (drop at s)))
      → Made end (Some Number) 1 5 (number_code ∷ le4 v) (held r bytes) → LeafMade (Some r) bytes
  unfolding leaf is_number_word is_numeral
  leaf_number v r bytes k y q m =
      let u : at + 1 ≤ end = longer s at end lo hi e is_number_word refl y in
      let x : StoredIs names n (num (word_value (word (drop at s)))) (held r bytes) =
      is_number names n (word_value (word (drop at s))) end (held r bytes)
      (rw part_is at (rw (q y) at m)) in
      let d : drop r.next s ≡ behind (drop at s) = rw m.next e in (
        (rw m.next u, rw m.next hi, rw (m.next, m.len) (omega arith), rw (m.deep, m.len) (omega arith)),
        rw (rw part_is at k, leaf, rw part_is at y)
            (same_here names n s (num (word_value (word (drop at s)))) (behind (drop at s)) (held r bytes) x d),
      )

  pub leaf_none : (bytes : List ℕ) → is_short (take (end - at) (drop at s)) ≡ false
      → is_number_word (take (end - at) (drop at s)) ≡ false → LeafMade None bytes
  unfolding leaf is_number_word
  leaf_none bytes k y = (tt, rw (rw part_is at k, leaf, rw part_is at y) refl)

-- ── the closing parenthesis ──

module _ (s : List ℕ) (p : StoredTree) (neg : Bool) (before after : List ℕ) where
  abbrev pub ClosedMade : CodeOption StoredTree → Type 0
  ClosedMade r =
      WithinStored s (p.next + 1) p.next p.len r × ClosedStored s neg (held p before) (maybe_held r after)

  pub close_end : p.next ≡ length s → ClosedMade None
  unfolding close
  close_end q = (tt, λ names n t x. rw (q, drop-length) refl)

  pub close_no : p.next < length s → (get_or s p.next 0 ≡ 41 → ⊥) → ClosedMade None
  unfolding close
  close_no lt q = (tt, λ names n t x. rw (drop-cons s p.next 0 lt, ne_eqb (get_or s p.next 0) 41 q, close) refl)

  -- what stands behind the parenthesis
  close_yes : (r : StoredTree) (names : Names) (n : ℕ) (t : Tree (List ℕ)) → p.next < length s → get_or s p.next 0 ≡ 41
      → r.next ≡ p.next + 1 → StoredIs names n (wrap_of neg t) (held r after)
      → SameStored names n s (close (wrap_of neg) (got t (drop p.next s))) (Some (held r after))
  unfolding close
  close_yes r names n t lt q e x =
      rw (drop-cons s p.next 0 lt, q)
      (same_here names n s (wrap_of neg t) (drop (suc p.next) s) (held r after) x (rw (e, add-one p.next) refl))

  pub close_not : (r : StoredTree) → p.next < length s → get_or s p.next 0 ≡ 41 → neg ≡ true → p.depth ≤ p.len
      → length after ≡ length before → NotMade p before (p.next + 1) (held r after) → ClosedMade (Some r)
  close_not r lt q y d k m = (
    (
      rw m.next (omega arith),
      rw m.next (omega arith),
      rw (m.next, m.len) (omega arith),
      rw (m.deep, m.len) (omega arith),
    ),
    λ names n t x. close_yes r names n t lt q m.next
        (rw y (is_not names n p before (p.next + 1) (held r after) t k m x)),
  )

  pub close_same : (r : StoredTree) → p.next < length s → get_or s p.next 0 ≡ 41 → neg ≡ false → r.next ≡ p.next + 1
      → r.gives ≡ p.gives → r.depth ≡ p.depth → r.len ≡ p.len → after ≡ before → p.depth ≤ p.len
      → ClosedMade (Some r)
  close_same r lt q y e k d l b f = (
    (rw e (omega arith), rw e (omega arith), rw (e, l) (omega arith), rw (d, l) f),
    λ names n t x. close_yes r names n t lt q e (rw y (is_moved names n p r t before after k d l b x)),
  )
