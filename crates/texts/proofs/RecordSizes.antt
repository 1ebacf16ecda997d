-- The lengths of what is stored of a line, by its parts.
use mathlib.Core.Path.{◌≡◌, refl}
use mathlib.Core.List.{List}
use Prim.Native.Nat.{ℕ, ◌+◌}
use lib.ListN.{length, length-append}
use Rattle.rules.specs.Trees.{Tree, num, read, two, negation, le2, le4, stored_tree, stored_length}
use Rattle.rules.specs.Stored.{counted}
use Rattle.text_laws.specs.Resolving.{rename_tree}

-- ── trees ──

-- indexes for names first, or while storing
pub stored_renamed : (g : List ℕ → ℕ) (t : Tree (List ℕ)) → stored_tree (λ i. i) (rename_tree g t) ≡ stored_tree g t
unfolding stored_tree rename_tree
stored_renamed g (num n) = refl
stored_renamed g (read w) = refl
stored_renamed g (two o x y) = rw (stored_renamed g x, stored_renamed g y)
stored_renamed g (negation x) = rw (stored_renamed g x)

pub stored_length_lem : {N : Type 0} (g : N → ℕ) (t : Tree N) → length (stored_tree g t) ≡ stored_length t
unfolding stored_tree le4
stored_length_lem g (num n) = refl
stored_length_lem g (read a) = refl
stored_length_lem g (two o x y) =
    rw (
      length-append (stored_tree g x) (stored_tree g y),
      length-append (stored_tree (λ a. 0) x) (stored_tree (λ a. 0) y),
      stored_length_lem g x,
      stored_length_lem g y,
    )
stored_length_lem g (negation x) = rw (stored_length_lem g x)

-- ── counted bytes ──

pub two_length : (n : ℕ) → length (le2 n) ≡ 2
unfolding le2
two_length n = refl

pub counted_length : (s : List ℕ) → length (counted s) ≡ 2 + length s
counted_length s = rw (length-append (le2 (length s)) s, two_length (length s))
