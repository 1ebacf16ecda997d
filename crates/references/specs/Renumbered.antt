-- Stored expressions with other indexes. [01, The stored table] [02, R-4]
use Rattle.std.specs.Prelude.{Bool, false, cond, List, [], ◌∷◌, ℕ, zero, suc, ◌%◌, eqb}
use Rattle.rules.specs.Operators.{field_code}
use Rattle.rules.specs.Edits.{closed, opened}
use Rattle.references.specs.declared.renumbering.Shift.{Shift}
use Rattle.references.specs.Scans.{behind}

-- the new index, in one byte
unfoldable pub new_index : Shift → ℕ → ℕ
new_index (Shift.Up from by) i = opened from by i % 256
new_index (Shift.Down from by) i = closed from by i % 256

-- n bytes that come behind a code first: index says whether they are an index, i, which becomes g i
unfoldable pub renumbered_from : (ℕ → ℕ) → Bool → ℕ → List ℕ → List ℕ
renumbered_from g index n [] = []
renumbered_from g index zero (c ∷ s) = c ∷ renumbered_from g (eqb c field_code) (behind c) s
renumbered_from g index (suc n) (b ∷ s) = cond index (g b) b ∷ renumbered_from g index n s

-- a stored expression
abbrev pub renumbered_bytes : (ℕ → ℕ) → List ℕ → List ℕ
renumbered_bytes g s = renumbered_from g false 0 s
