-- The width of a field line, as the code holds it: mirrors the code, no public promise rests on it.
use Rattle.std.specs.Prelude.{Bool, true, false, ℕ, Option, None, Some}
use Rattle.texts.specs.declared.kinds.Width.{Width}
use Rattle.texts.specs.declared.kinds.Width.TheVariants.{Fixed, Measured, Rest}
use Rattle.texts.specs.declared.stored_trees.StoredTree.{StoredTree}
use Rattle.texts.specs.StoredTrees.{form_length}

-- the kind as in a table
abbrev pub kind_code : Width → ℕ
kind_code (Fixed m) = 12
kind_code (Measured u t) = 13
kind_code Rest = 14

abbrev pub is_fixed : Width → Bool
is_fixed (Fixed m) = true
is_fixed (Measured u t) = false
is_fixed Rest = false

abbrev pub is_rest : Width → Bool
is_rest (Fixed m) = false
is_rest (Measured u t) = false
is_rest Rest = true

-- its expression, where it has one
abbrev pub tree_of : Width → Option StoredTree
tree_of (Fixed m) = None
tree_of (Measured u t) = Some t
tree_of Rest = None

-- the length of the stored form of its expression, 0 where it has none
abbrev pub tree_length : Width → ℕ
tree_length w = form_length (tree_of w)
