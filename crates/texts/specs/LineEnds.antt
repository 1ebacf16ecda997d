-- Where a line ends, as the code finds it: mirrors the code, no public promise rests on it.
use Rattle.std.specs.Prelude.{cond, List, [], ◌∷◌, ℕ, suc}
use Rattle.rules.specs.Names.{is_printable}

-- the number of bytes in front of the first that is not printable
unfoldable pub printable_length : List ℕ → ℕ
printable_length [] = 0
printable_length (b ∷ t) = cond (is_printable b) (suc (printable_length t)) 0

-- so many bytes are tested at once
abbrev pub stride : ℕ
stride = 16
