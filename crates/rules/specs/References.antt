-- Which fields the expressions of a field read, and how often a field is read. [02, R-4] [02, R-5]
use Rattle.std.specs.Prelude.{cond, List, [], ◌∷◌, ◌++◌, ℕ, suc, eqb, take, drop}
use Rattle.base.specs.Lists.{joined, sum}
use Rattle.rules.specs.Trees.{Tree, num, read, two, negation}
use Rattle.rules.specs.Fields.{Field, trees}

-- the indexes of the fields that a tree reads, in order, each as often as it is read
unfoldable pub tree_reads : Tree ℕ → List ℕ
tree_reads (num n) = []
tree_reads (read i) = i ∷ []
tree_reads (two o a b) = tree_reads a ++ tree_reads b
tree_reads (negation a) = tree_reads a

-- those that a field's expressions read
unfoldable pub field_reads : Field ℕ → List ℕ
field_reads f = joined tree_reads (trees f)

-- how often i stands in a list
unfoldable pub times : ℕ → List ℕ → ℕ
times i l = sum (λ j. cond (eqb j i) 1 0) l

-- all fields but that of an index
abbrev pub others : ℕ → List (Field ℕ) → List (Field ℕ)
others i fs = take i fs ++ drop (suc i) fs

-- the references to the field of an index in other fields' expressions
unfoldable pub readers : List (Field ℕ) → ℕ → ℕ
readers fs i = times i (joined field_reads (others i fs))
