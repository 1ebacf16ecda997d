-- Labels and short names, by the classes that a lent table has of their bytes. With the table of the classes they are
-- those of the rules (proofs/LentLaws). [01, The lines of a text]
use Rattle.std.specs.Prelude.{Bool, true, ◌&&◌, ◌||◌, not, List, [], ◌∷◌, ℕ, leb, eqb, length}
use Rattle.base.specs.Lists.{all, head_is, last_is}
use Rattle.rules.specs.Limits.{label_most, short_most}
use Rattle.rules.specs.Names.{is_reserved}
use Rattle.names.specs.Classes.{letter_class, space_class, has_class, is_word_in}

-- what may stand in a label
abbrev pub is_label_byte_in : List ℕ → ℕ → Bool
is_label_byte_in classes b = is_word_in classes b || (has_class space_class classes b || eqb b 45)

-- a letter or digit at each end
abbrev pub has_ends_in : List ℕ → List ℕ → Bool
has_ends_in classes w = head_is (is_word_in classes) w && last_is (is_word_in classes) w

-- no two neighbours pass the test
unfoldable pub no_two : (ℕ → Bool) → List ℕ → Bool
no_two p [] = true
no_two p (a ∷ []) = true
no_two p (a ∷ b ∷ l) = not (p a && p b) && no_two p (b ∷ l)

unfoldable pub is_label_in : List ℕ → List ℕ → Bool
is_label_in classes w =
    leb (length w) label_most
    && (all (is_label_byte_in classes) w && (has_ends_in classes w && no_two (has_class space_class classes) w))

unfoldable pub is_short_in : List ℕ → List ℕ → Bool
is_short_in classes w =
    head_is (has_class letter_class classes) w
    && (all (is_word_in classes) w && (leb (length w) short_most && not (is_reserved w)))
