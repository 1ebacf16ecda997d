-- A field with other indexes: what stays, and that it keeps its types where what it reads may still be read.
use mathlib.Core.Path.{◌≡◌, refl}
use mathlib.Core.Bool.{Bool, true, false, ◌&&◌}
use mathlib.Core.List.{List, [], ◌∷◌, ◌++◌, map}
use mathlib.Core.Option.{Option, none, some}
use Prim.Native.Nat.{ℕ, zero, suc}
use Rattle.base.specs.Lists.{any, is_none, if_any, joined, list_of}
use Rattle.base.proofs.Lists.{and_left, and_right, and_both, or_false_left}
use Rattle.base.proofs.Joined.{joined_append, joined_one}
use Rattle.rules.specs.declared.ValueType.{ValueType}
use Rattle.rules.specs.declared.ValueType.TheVariants.{Number, YesNo}
use Rattle.rules.specs.Operators.{takes, gives}
use Rattle.rules.specs.Trees.{Tree, num, read, two, negation, same_type, has_type}
use Rattle.rules.specs.Fields.{Width, fixed, measured, rest, Field}
use Rattle.rules.specs.Fields.{is_fixed_width, is_fixed, is_rest_width, is_rest, width_trees}
use Rattle.rules.specs.References.{tree_reads, field_reads}
use Rattle.rules.specs.Within.{clash, width_has_type, keeps_types, is_readable, index_readable}
use Rattle.rules.specs.Edits.{renumbered_tree, renumbered_maybe, renumbered_width, renumbered}
use Rattle.laws.proofs.RenumberedReads.{any_parts}

-- ── what stays ──

module _ (g : ℕ → ℕ) where
  pub fixed_stays : (f : Field ℕ) → is_fixed (renumbered g f) ≡ is_fixed f
  unfolding renumbered
  fixed_stays f = go f.width
    where
      go : (w : Width ℕ) → is_fixed_width (renumbered_width g w) ≡ is_fixed_width w
      go (fixed n) = refl
      go (measured u t) = refl
      go rest = refl

  pub rest_stays : (f : Field ℕ) → is_rest (renumbered g f) ≡ is_rest f
  unfolding renumbered
  rest_stays f = go f.width
    where
      go : (w : Width ℕ) → is_rest_width (renumbered_width g w) ≡ is_rest_width w
      go (fixed n) = refl
      go (measured u t) = refl
      go rest = refl

  pub condition_stays : (f : Field ℕ) → is_none (renumbered g f).condition ≡ is_none f.condition
  unfolding renumbered
  condition_stays f = go f.condition
    where
      go : (o : Option (Tree ℕ)) → is_none (renumbered_maybe g o) ≡ is_none o
      go none = refl
      go (some t) = refl

  pub clash_stays : (f h : Field ℕ) → clash (renumbered g f) (renumbered g h) ≡ clash f h
  unfolding renumbered
  clash_stays f h = refl

  field_readable : (f : Field ℕ) → is_readable (some (renumbered g f)) ≡ is_readable (some f)
  unfolding renumbered
  field_readable f = rw (fixed_stays f)

  pub readable_stays : (l : List (Field ℕ)) (i : ℕ) → index_readable (map (renumbered g) l) i ≡ index_readable l i
  readable_stays [] i = refl
  readable_stays (f ∷ l) zero = field_readable f
  readable_stays (f ∷ l) (suc i) = readable_stays l i

-- ── types ──

-- each index i becomes g i, those that are out are not read, and what may be read still may be
module _ (g : ℕ → ℕ) (out : ℕ → Bool) where
  abbrev pub Still : (ℕ → Bool) → (ℕ → Bool) → Type 0
  Still old new = (i : ℕ) → out i ≡ false → old i ≡ true → new (g i) ≡ true

  module _ (old new : ℕ → Bool) (still : Still old new) where
    tree_typed : (k : ValueType) (t : Tree ℕ) → any out (tree_reads t) ≡ false → has_type old k t ≡ true
        → has_type new k (renumbered_tree g t) ≡ true
    unfolding has_type renumbered_tree tree_reads any
    tree_typed k (num n) e h = h
    tree_typed k (read i) e h =
        let s = same_type k Number in
        and_both s (new (g i)) (and_left s (old i) h)
        (still i (or_false_left (out i) false e) (and_right s (old i) h))
    tree_typed k (two o a b) e h =
        let s = same_type k (gives o) in
        let p = has_type old (takes o) a in
        let q = has_type old (takes o) b in
        let l = has_type new (takes o) (renumbered_tree g a) in
        let r = has_type new (takes o) (renumbered_tree g b) in
        let both = and_right s (p && q) h in
        let parts = any_parts out (tree_reads a) (tree_reads b) e in
        and_both s (l && r) (and_left s (p && q) h)
        (and_both l r (tree_typed (takes o) a parts.0 (and_left p q both))
        (tree_typed (takes o) b parts.1 (and_right p q both)))
    tree_typed k (negation a) e h =
        let s = same_type k YesNo in
        let p = has_type old YesNo a in
        and_both s (has_type new YesNo (renumbered_tree g a)) (and_left s p h) (tree_typed YesNo a e (and_right s p h))

    maybe_typed : (o : Option (Tree ℕ)) → any out (joined tree_reads (list_of o)) ≡ false
        → if_any (has_type old YesNo) o ≡ true → if_any (has_type new YesNo) (renumbered_maybe g o) ≡ true
    maybe_typed none e h = refl
    maybe_typed (some t) e h = tree_typed YesNo t (rw (← joined_one tree_reads t) e) h

    width_typed : (w : Width ℕ) → any out (joined tree_reads (width_trees w)) ≡ false
        → width_has_type old w ≡ true → width_has_type new (renumbered_width g w) ≡ true
    width_typed (fixed n) e h = refl
    width_typed (measured u t) e h = tree_typed Number t (rw (← joined_one tree_reads t) e) h
    width_typed rest e h = refl

  typed_parts : (c : List (Field ℕ)) (f : Field ℕ)
      → width_has_type (index_readable c) (renumbered_width g f.width) ≡ true
      → if_any (has_type (index_readable (c ++ (renumbered g f ∷ []))) YesNo) (renumbered_maybe g f.constraint) ≡ true
      → if_any (has_type (index_readable c) YesNo) (renumbered_maybe g f.condition) ≡ true
      → keeps_types index_readable c (renumbered g f) ≡ true
  unfolding renumbered
  typed_parts c f p q r = rw (p, q, r)

  -- a field keeps its types where the fields before it may still be read, and with them the field itself
  pub field_typed : (b c : List (Field ℕ)) (f : Field ℕ) → Still (index_readable b) (index_readable c)
      → Still (index_readable (b ++ (f ∷ []))) (index_readable (c ++ (renumbered g f ∷ [])))
      → any out (field_reads f) ≡ false → keeps_types index_readable b f ≡ true
      → keeps_types index_readable c (renumbered g f) ≡ true
  unfolding field_reads
  field_typed b c f still own e h =
      let ws = width_trees f.width in
      let cs = list_of f.constraint in
      let ks = list_of f.condition in
      let x = any_parts out (joined tree_reads ws) (joined tree_reads (cs ++ ks))
      (rw (← joined_append tree_reads ws (cs ++ ks)) e) in
      let y = any_parts out (joined tree_reads cs) (joined tree_reads ks)
      (rw (← joined_append tree_reads cs ks) x.1) in
      let mine = b ++ (f ∷ []) in
      let w = width_has_type (index_readable b) f.width in
      let s = if_any (has_type (index_readable mine) YesNo) f.constraint in
      let k = if_any (has_type (index_readable b) YesNo) f.condition in
      let both = and_right w (s && k) h in
      typed_parts c f
      (width_typed (index_readable b) (index_readable c) still f.width x.0 (and_left w (s && k) h))
      (maybe_typed (index_readable mine) (index_readable (c ++ (renumbered g f ∷ []))) own f.constraint y.0
      (and_left s k both))
      (maybe_typed (index_readable b) (index_readable c) still f.condition y.1 (and_right s k both))
