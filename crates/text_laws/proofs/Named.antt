-- Trees over names and trees over what the names stand for: the same spellings, and the same depth, size and type.
use mathlib.Core.Path.{◌≡◌, refl, ap, ap₂, subst}
use mathlib.Core.Bool.{Bool, true, ◌&&◌}
use mathlib.Core.Logic.{◌↔◌}
use mathlib.Core.List.{List, ◌∷◌, ◌++◌}
use Prim.Native.Nat.{ℕ, suc, max}
use Rattle.base.proofs.Lists.{and_left, and_right}
use Rattle.rules.specs.declared.Op.{Op}
use Rattle.rules.specs.declared.ValueType.{ValueType}
use Rattle.rules.specs.Operators.{gives, takes, code}
use Rattle.rules.specs.Trees.{
  Tree,
  num,
  read,
  two,
  negation,
  depth,
  stored_tree,
  is_in_range,
  has_operators,
  is_small,
  is_number,
  same_type,
  has_type,
}
use Rattle.rules.specs.Names.{is_short}
use Rattle.rules.specs.Expressions.{SpellsAt, number, field, two_sided, negated, parentheses}
use Rattle.rules.specs.Lines.{Unresolved}
use Rattle.text_laws.specs.Resolving.{rename_tree}

-- the tree on the right has at each read field of the left one a name for it, and is the same else
pub data Named {N : Type 0} (R : N → List ℕ → Type 0) : Tree N → Tree (List ℕ) → Type 0 where
  named_number : {n : ℕ} → Named R (num n) (num n)
  named_field : {a : N} {w : List ℕ} → R a w → Named R (read a) (read w)
  named_two : {o : Op} {x y : Tree N} {v w : Tree (List ℕ)} → Named R x v → Named R y w
      → Named R (two o x y) (two o v w)
  named_negation : {x : Tree N} {v : Tree (List ℕ)} → Named R x v → Named R (negation x) (negation v)

module _ {N : Type 0} {R : N → List ℕ → Type 0} where
  -- ── spellings ──

  -- what spells a tree spells one over names
  pub spelled_named : (short : (a : N) (w : List ℕ) → R a w → is_short w ≡ true) {k b : ℕ} {t : Tree N} {s : List ℕ}
      → SpellsAt R k b t s → (u : Tree (List ℕ)) × Named R t u × SpellsAt Unresolved k b u s
  spelled_named short (number {n = n} h e) = (num n, named_number, number h e)
  spelled_named short (field {a = a} {s = s} r) = (read s, named_field r, field (refl, short a s r))
  spelled_named short (two_sided {o = o} g h l x y) =
      let p = spelled_named short x in
      let q = spelled_named short y in
      (two o p.0 q.0, named_two p.1 q.1, two_sided g h l p.2 q.2)
  spelled_named short (negated x) =
      let p = spelled_named short x in
      (negation p.0, named_negation p.1, negated p.2)
  spelled_named short (parentheses x) =
      let p = spelled_named short x in
      (p.0, p.1, parentheses p.2)

  -- and the other way
  pub named_spelled : {k b : ℕ} {t : Tree N} {u : Tree (List ℕ)} {s : List ℕ} → SpellsAt Unresolved k b u s
      → Named R t u
      → SpellsAt R k b t s
  named_spelled (number h e) named_number = number h e
  named_spelled (field e) (named_field {a = a} r) = field (subst (λ w. R a w) e.0 r)
  named_spelled (two_sided g h l x y) (named_two p q) = two_sided g h l (named_spelled x p) (named_spelled y q)
  named_spelled (negated x) (named_negation p) = negated (named_spelled x p)
  named_spelled (parentheses x) p = parentheses (named_spelled x p)

  pub named_exact : (short : (a : N) (w : List ℕ) → R a w → is_short w ≡ true) {k b : ℕ} {t : Tree N} {s : List ℕ}
      → SpellsAt R k b t s ↔ ((u : Tree (List ℕ)) × Named R t u × SpellsAt Unresolved k b u s)
  named_exact short = (spelled_named short, λ p. named_spelled p.2 p.1)

  -- ── what agrees ──

  pub named_depth : {t : Tree N} {u : Tree (List ℕ)} → Named R t u → depth t ≡ depth u
  unfolding depth
  named_depth named_number = refl
  named_depth (named_field r) = refl
  named_depth (named_two p q) = ap₂ (λ a b. suc (max a b)) (named_depth p) (named_depth q)
  named_depth (named_negation p) = ap suc (named_depth p)

  pub named_stored : {t : Tree N} {u : Tree (List ℕ)} → Named R t u
      → stored_tree (λ a. 0) t ≡ stored_tree (λ w. 0) u
  unfolding stored_tree
  named_stored named_number = refl
  named_stored (named_field r) = refl
  named_stored (named_two {o = o} p q) = ap₂ (λ (a b : List ℕ). code o ∷ (a ++ b)) (named_stored p) (named_stored q)
  named_stored (named_negation p) = rw (named_stored p)

  pub named_small : {t : Tree N} {u : Tree (List ℕ)} → Named R t u → is_small t ≡ is_small u
  named_small p = rw (named_depth p, named_stored p)

  pub named_range : {t : Tree N} {u : Tree (List ℕ)} → Named R t u → is_in_range t ≡ is_in_range u
  unfolding is_in_range
  named_range named_number = refl
  named_range (named_field r) = refl
  named_range (named_two p q) = ap₂ ◌&&◌ (named_range p) (named_range q)
  named_range (named_negation p) = named_range p

  pub named_operators : (knows : Op → Bool) {t : Tree N} {u : Tree (List ℕ)} → Named R t u
      → has_operators knows t ≡ has_operators knows u
  unfolding has_operators
  named_operators knows named_number = refl
  named_operators knows (named_field r) = refl
  named_operators knows (named_two p q) = rw (named_operators knows p, named_operators knows q)
  named_operators knows (named_negation p) = named_operators knows p

  pub named_is_number : {t : Tree N} {u : Tree (List ℕ)} → Named R t u → is_number t ≡ is_number u
  named_is_number named_number = refl
  named_is_number (named_field r) = refl
  named_is_number (named_two p q) = refl
  named_is_number (named_negation p) = refl

  pub named_of_number : {n : ℕ} {u : Tree (List ℕ)} → Named R (num n) u → num n ≡ u
  named_of_number named_number = refl

  -- the types agree where what may be read does
  pub named_type : (may : N → Bool) (say : List ℕ → Bool) → ((a : N) (w : List ℕ) → R a w → may a ≡ say w)
      → (k : ValueType) {t : Tree N} {u : Tree (List ℕ)} → Named R t u → has_type may k t ≡ has_type say k u
  unfolding has_type
  named_type may say f k named_number = refl
  named_type may say f k (named_field {a = a} {w = w} r) = rw (f a w r)
  named_type may say f k (named_two {o = o} p q) =
      rw (named_type may say f (takes o) p, named_type may say f (takes o) q)
  named_type may say f k (named_negation p) = rw (named_type may say f ValueType.YesNo p)

-- a name stands for one thing, so a tree over names stands for one tree
pub named_unique : {N : Type 0} {R S : N → List ℕ → Type 0} → ((a b : N) (w : List ℕ) → R a w → S b w → a ≡ b)
    → {t x : Tree N} {u : Tree (List ℕ)} → Named R t u → Named S x u → t ≡ x
named_unique f named_number named_number = refl
named_unique f (named_field {a = a} {w = w} r) (named_field {a = b} q) = ap read (f a b w r q)
named_unique f (named_two {o = o} p q) (named_two v w) = ap₂ (two o) (named_unique f p v) (named_unique f q w)
named_unique f (named_negation p) (named_negation v) = ap negation (named_unique f p v)

-- ── each name replaced ──

-- each name that may be read is a name for what replaces it
pub renamed : {N : Type 0} {R : N → List ℕ → Type 0} (g : List ℕ → N) (say : List ℕ → Bool)
    → ((w : List ℕ) → say w ≡ true → R (g w) w) → (k : ValueType) (u : Tree (List ℕ)) → has_type say k u ≡ true
    → Named R (rename_tree g u) u
unfolding has_type rename_tree
renamed g say f k (num n) h = named_number
renamed g say f k (read w) h = named_field (f w (and_right (same_type k ValueType.Number) (say w) h))
renamed g say f k (two o x y) h =
    let both : (has_type say (takes o) x && has_type say (takes o) y) ≡ true =
    and_right (same_type k (gives o)) (has_type say (takes o) x && has_type say (takes o) y) h in
    named_two
    (renamed g say f (takes o) x (and_left (has_type say (takes o) x) (has_type say (takes o) y) both))
    (renamed g say f (takes o) y (and_right (has_type say (takes o) x) (has_type say (takes o) y) both))
renamed g say f k (negation x) h =
    named_negation (renamed g say f ValueType.YesNo x
    (and_right (same_type k ValueType.YesNo) (has_type say ValueType.YesNo x) h))
