-- Indexes counted, each count a number of two bytes. [02, R-5]
use Rattle.std.specs.Prelude.{cond, List, [], ◌∷◌, ℕ, ◌+◌, ◌%◌, eqb, get_or, set}

-- numbers of two bytes
abbrev pub one_more : ℕ → ℕ
one_more n = (n + 1) % 65536

-- one more for each index of a list but the own one; an index behind the end counts nothing
unfoldable pub tallied : ℕ → List ℕ → List ℕ → List ℕ
tallied own counts [] = counts
tallied own counts (i ∷ l) = tallied own (cond (eqb i own) counts (set counts i (one_more (get_or counts i 0)))) l
