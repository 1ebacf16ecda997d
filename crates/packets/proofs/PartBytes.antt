-- The bytes of a part, and the trees that are stored in just a part: what the tests say, both ways.
use mathlib.Core.Path.{◌≡◌, refl}
use mathlib.Core.Bool.{true, false}
use mathlib.Core.List.{List, []}
use mathlib.Core.Logic.{◌⊎◌, inl, inr}
use mathlib.Core.Option.{Option, none, some}
use Prim.Native.Nat.{ℕ, ◌-◌, ◌<◌, ◌≤◌}
use native.Mathlib.Omega.{arith}
use lib.Dec.{leb, eqb}
use lib.ListN.{length, get_or, drop}
use lib.Seq.{take-append_seam}
use borrow.Author.Tests.{leb-true, le-leb, eqb-true, eq-eqb, ne_eqb}
use Rattle.laws.specs.Places.{Stands, IsBytes}
use Rattle.laws.proofs.Places.{stands_part, stands_none, stands_byte}
use Rattle.base.proofs.Lists.{and_left, and_right, and_both, not_both, or_cases}
use Rattle.rules.specs.declared.Op.{Op}
use Rattle.rules.specs.declared.Op.TheVariants.{Or, And, Eq, Ne, Lt, Le, Gt, Ge, Add, Sub, Mul, Div, Rem, Pow}
use Rattle.rules.specs.declared.ValueType.{ValueType}
use Rattle.rules.specs.declared.ValueType.TheVariants.{YesNo}
use Rattle.rules.specs.Limits.{depth_most, stored_most}
use Rattle.rules.specs.Operators.{operator, code}
use Rattle.rules.specs.Trees.{
  Tree,
  num,
  read,
  two,
  negation,
  depth,
  stored_tree,
  stored_length,
  is_small,
  is_in_range,
  is_number,
  has_type,
  same_type,
}
use Rattle.rules.specs.Stored.{stored_expression, stored_maybe}
use Rattle.laws.proofs.ReadsTrees.{small_bounds, length_stored}
use Rattle.writing.specs.declared.spans.Span.{Span}
use Rattle.packets.specs.declared.trees.Checked.{Checked}
use Rattle.packets.specs.declared.trees.Checked.TheVariants.{Typed, Bad}
use Rattle.packets.specs.StoredTrees.{marked, check_at}
use Rattle.packets.specs.Parts.{ending}
use Rattle.packets.specs.PartsStand.{In}
use Rattle.packets.specs.FieldTest.{bytes_in, ends_as, tree_test, maybe_test}
use Rattle.laws.proofs.FieldSizes.{small_length}
use Rattle.packets.proofs.TreeTypes.{same_type_true, same_type_self}
use Rattle.packets.proofs.TreeSound.{check_sound}
use Rattle.packets.proofs.TreeComplete.{check_complete}

-- ── bytes ──

pub bytes_stand : (s : List ℕ) (p : Span) → ending p ≤ length s → In s p (bytes_in s p)
bytes_stand s p le =
    let e : ending p - p.at ≡ p.len = omega arith in
    rw e (stands_part s p.at p.len le)

pub bytes_are : (s : List ℕ) (p : Span) (w : List ℕ) → In s p w → bytes_in s p ≡ w
bytes_are s p w h =
    let e : ending p - p.at ≡ length w = omega (arith, h.end) in
    rw (e, h.text) (take-append_seam w (drop (ending p) s))

pub in_length : (s : List ℕ) (p : Span) (w : List ℕ) → In s p w → p.len ≡ length w
in_length s p w h = omega (arith, h.end)

-- ── a tree ──

pub record TreeIn (s marks : List ℕ) (k : ValueType) (p : Span) (t : Tree ℕ) : Type 0 where
  pub typed : has_type (marked marks) k t ≡ true
  pub range : is_in_range t ≡ true
  pub small : is_small t ≡ true
  pub stands : In s p (stored_expression t)

stands_to : (s : List ℕ) (a b c : ℕ) (w : List ℕ) → b ≡ c → Stands s a w b → Stands s a w c
stands_to s a b c w e p = rw e at p

typed_as : (marks : List ℕ) (j k : ValueType) (t : Tree ℕ) → j ≡ k → has_type (marked marks) j t ≡ true
    → has_type (marked marks) k t ≡ true
typed_as marks j k t e h = rw e at h

module _ (s marks : List ℕ) (k : ValueType) (p : Span) where
  pub tree_sound : IsBytes s → tree_test s marks k p ≡ true → (t : Tree ℕ) × TreeIn s marks k p t
  unfolding tree_test
  tree_sound h ok =
      go (check_at depth_most s marks p.at) refl (and_right (leb p.len stored_most) _ ok)
      (leb-true p.len stored_most (and_left (leb p.len stored_most) _ ok))
    where
      go : (c : Checked) → check_at depth_most s marks p.at ≡ c → ends_as k (ending p) c ≡ true → p.len ≤ stored_most
          → (t : Tree ℕ) × TreeIn s marks k p t
      go Bad e f le = absurd (not_both false f refl)
      go (Typed j next) e f le =
          let a : j ≡ k = same_type_true j k (and_left (same_type j k) (eqb next.at (ending p)) f) in
          let b : next.at ≡ ending p = eqb-true next.at (ending p)
          (and_right (same_type j k) (eqb next.at (ending p)) f) in
          let q = check_sound depth_most s marks p.at j next h e in
          let st : In s p (stored_expression q.0) = stands_to s p.at next.at (ending p) _ b q.4 in
          let l : stored_length q.0 ≤ stored_most = omega
          (arith, in_length s p _ st, length_stored (λ i. i) (λ i. 0) q.0) in (
            q.0,
            record {
              typed = typed_as marks j k q.0 a q.1;
              range = q.2;
              small = and_both (leb (depth q.0) depth_most) (leb (stored_length q.0) stored_most)
                  (le-leb (depth q.0) depth_most q.3) (le-leb (stored_length q.0) stored_most l);
              stands = st;
            },
          )

  pub tree_complete : (t : Tree ℕ) → TreeIn s marks k p t → tree_test s marks k p ≡ true
  unfolding tree_test
  tree_complete t h =
      let e = check_complete depth_most s marks p.at t k (ending p) h.typed h.range (small_bounds t h.small).0
      h.stands in
      let l : p.len ≤ stored_most = omega (arith, in_length s p _ h.stands, small_length t h.small) in
      rw (le-leb p.len stored_most l, e, same_type_self k, eq-eqb (ending p) (ending p) refl)

-- ── a tree that may be missing ──

abbrev pub MaybeIn : List ℕ → List ℕ → Span → Option (Tree ℕ) → Type 0
MaybeIn s marks p none = In s p []
MaybeIn s marks p (some t) = TreeIn s marks YesNo p t

pub stored_positive : (t : Tree ℕ) → 0 < length (stored_expression t)
unfolding stored_tree
stored_positive (num n) = omega arith
stored_positive (read i) = omega arith
stored_positive (two o a b) = omega arith
stored_positive (negation a) = omega arith

pub empty_in : (s : List ℕ) (p : Span) → p.len ≡ 0 → In s p []
empty_in s p e =
    let f : ending p ≡ p.at = omega arith in
    rw f (stands_none s p.at)

module _ (s marks : List ℕ) (p : Span) where
  pub maybe_sound : IsBytes s → maybe_test s marks p ≡ true → (o : Option (Tree ℕ)) × MaybeIn s marks p o
  unfolding maybe_test
  maybe_sound h ok = go (or_cases (eqb p.len 0) (tree_test s marks YesNo p) ok)
    where
      go : (eqb p.len 0 ≡ true) ⊎ (tree_test s marks YesNo p ≡ true) → (o : Option (Tree ℕ)) × MaybeIn s marks p o
      go (inl e) = (none, empty_in s p (eqb-true p.len 0 e))
      go (inr e) = let q = tree_sound s marks YesNo p h e in (some q.0, q.1)

  pub maybe_complete : (o : Option (Tree ℕ)) → MaybeIn s marks p o → maybe_test s marks p ≡ true
  unfolding maybe_test
  maybe_complete none h = rw (eq-eqb p.len 0 (in_length s p [] h))
  maybe_complete (some t) h =
      let l = in_length s p _ h.stands in
      let z = stored_positive t in
      rw (ne_eqb p.len 0 (λ e. omega arith)) (tree_complete s marks YesNo p t h)

  pub maybe_stands : (o : Option (Tree ℕ)) → MaybeIn s marks p o → In s p (stored_maybe o)
  maybe_stands none h = h
  maybe_stands (some t) h = h.stands

-- ── the first byte of a number ──

code_other : (o : Op) → eqb (code o) 1 ≡ false
unfolding operator
code_other Or = refl
code_other And = refl
code_other Eq = refl
code_other Ne = refl
code_other Lt = refl
code_other Le = refl
code_other Gt = refl
code_other Ge = refl
code_other Add = refl
code_other Sub = refl
code_other Mul = refl
code_other Div = refl
code_other Rem = refl
code_other Pow = refl

pub number_byte : (s : List ℕ) (p : Span) (t : Tree ℕ) → In s p (stored_expression t)
    → eqb (get_or s p.at 0) 1 ≡ is_number t
unfolding stored_tree
number_byte s p (num n) h = rw (stands_byte s p.at (ending p) _ _ h)
number_byte s p (read i) h = rw (stands_byte s p.at (ending p) _ _ h)
number_byte s p (two o a b) h = rw (stands_byte s p.at (ending p) _ _ h) (code_other o)
number_byte s p (negation a) h = rw (stands_byte s p.at (ending p) _ _ h)
