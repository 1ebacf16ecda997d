-- A tree with other indexes: in bytes only they change, and a field keeps its form and sizes.
use mathlib.Core.Path.{◌≡◌, refl}
use mathlib.Core.Bool.{Bool}
use mathlib.Core.Option.{Option, none, some}
use Prim.Native.Nat.{ℕ}
use lib.ListN.{length}
use Rattle.rules.specs.Trees.{Tree, num, read, two, negation, depth, stored_tree, is_small, is_in_range, is_number}
use Rattle.rules.specs.Fields.{Width, fixed, measured, rest, Field, width_trees, trees}
use Rattle.rules.specs.Within.{is_width, is_formed}
use Rattle.base.specs.Lists.{all, list_of}
use Rattle.base.proofs.Lookups.{all_joined}
use Rattle.rules.specs.Stored.{stored_expression}
use Rattle.laws.proofs.ReadsTrees.{length_stored}
use Rattle.rules.specs.Edits.{renumbered_tree, renumbered_maybe, renumbered_width, renumbered}

pub stored_mapped : (g : ℕ → ℕ) (t : Tree ℕ) → stored_expression (renumbered_tree g t) ≡ stored_tree g t
unfolding renumbered_tree stored_tree
stored_mapped g (num n) = refl
stored_mapped g (read i) = refl
stored_mapped g (two o a b) = rw (stored_mapped g a, stored_mapped g b)
stored_mapped g (negation a) = rw (stored_mapped g a)

-- its length, depth and numbers stay
pub mapped_length : (g : ℕ → ℕ) (t : Tree ℕ) → length (stored_expression (renumbered_tree g t)) ≡ length
    (stored_expression t)
mapped_length g t = rw (stored_mapped g t) (length_stored g (λ i. i) t)

pub mapped_depth : (g : ℕ → ℕ) (t : Tree ℕ) → depth (renumbered_tree g t) ≡ depth t
unfolding renumbered_tree depth
mapped_depth g (num n) = refl
mapped_depth g (read i) = refl
mapped_depth g (two o a b) = rw (mapped_depth g a, mapped_depth g b)
mapped_depth g (negation a) = rw (mapped_depth g a)

pub mapped_range : (g : ℕ → ℕ) (t : Tree ℕ) → is_in_range (renumbered_tree g t) ≡ is_in_range t
unfolding renumbered_tree is_in_range
mapped_range g (num n) = refl
mapped_range g (read i) = refl
mapped_range g (two o a b) = rw (mapped_range g a, mapped_range g b)
mapped_range g (negation a) = mapped_range g a

mapped_size : (g : ℕ → ℕ) (t : Tree ℕ) → stored_tree (λ (i : ℕ). 0) (renumbered_tree g t) ≡ stored_tree (λ (i : ℕ). 0) t
unfolding renumbered_tree stored_tree
mapped_size g (num n) = refl
mapped_size g (read i) = refl
mapped_size g (two o a b) = rw (mapped_size g a, mapped_size g b)
mapped_size g (negation a) = rw (mapped_size g a)

pub mapped_small : (g : ℕ → ℕ) (t : Tree ℕ) → is_small (renumbered_tree g t) ≡ is_small t
mapped_small g t = rw (mapped_depth g t, mapped_size g t)

-- ── a renumbered field has the form and the sizes that it had ──

number_stays : (g : ℕ → ℕ) (t : Tree ℕ) → is_number (renumbered_tree g t) ≡ is_number t
unfolding renumbered_tree
number_stays g (num n) = refl
number_stays g (read i) = refl
number_stays g (two o a b) = refl
number_stays g (negation a) = refl

width_stays : (g : ℕ → ℕ) (w : Width ℕ) → is_width (renumbered_width g w) ≡ is_width w
width_stays g (fixed n) = refl
width_stays g (measured u t) = rw (number_stays g t)
width_stays g rest = refl

-- a test of trees that renumbering does not change
module _ (g : ℕ → ℕ) (p : Tree ℕ → Bool) (stays : (t : Tree ℕ) → p (renumbered_tree g t) ≡ p t) where
  in_maybe : (o : Option (Tree ℕ)) → all p (list_of (renumbered_maybe g o)) ≡ all p (list_of o)
  unfolding all
  in_maybe none = refl
  in_maybe (some t) = rw (stays t)

  in_width : (w : Width ℕ) → all p (width_trees (renumbered_width g w)) ≡ all p (width_trees w)
  unfolding all
  in_width (fixed n) = refl
  in_width (measured u t) = rw (stays t)
  in_width rest = refl

  in_field : (f : Field ℕ) → all p (trees (renumbered g f)) ≡ all p (trees f)
  unfolding renumbered
  in_field f =
      simp (all_joined, in_width f.width, in_maybe f.constraint, in_maybe f.condition)

pub formed_stays : (g : ℕ → ℕ) (f : Field ℕ) → is_formed (renumbered g f) ≡ is_formed f
unfolding renumbered
formed_stays g f = rw (width_stays g f.width, in_field g is_in_range (mapped_range g) f)

pub small_stays : (g : ℕ → ℕ) (f : Field ℕ) → all is_small (trees (renumbered g f)) ≡ all is_small (trees f)
small_stays g f = in_field g is_small (mapped_small g) f
