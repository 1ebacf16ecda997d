-- The table of the class of every byte value. [01, The lines of a text]
use Rattle.std.specs.Prelude.{Bool, ◌||◌, List, ℕ, eqb, get_or}
use Rattle.base.specs.Lists.{tabulate}
use Rattle.rules.specs.Names.{class_of}

-- the class numbers
abbrev pub letter_class : ℕ
letter_class = 1

abbrev pub digit_class : ℕ
digit_class = 2

abbrev pub operator_class : ℕ
operator_class = 3

abbrev pub space_class : ℕ
space_class = 4

unfoldable pub class_table : List ℕ
class_table = tabulate class_of 0 256

-- the class that a table has of the byte is k
unfoldable pub has_class : ℕ → List ℕ → ℕ → Bool
has_class k classes b = eqb (get_or classes b 0) k

-- it is that of a letter, or that of a digit
abbrev pub is_word_in : List ℕ → ℕ → Bool
is_word_in classes b = has_class letter_class classes b || has_class digit_class classes b
