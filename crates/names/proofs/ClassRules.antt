-- What the class numbers say of a byte: one test over the 256 values.
use mathlib.Core.Path.{◌≡◌, refl}
use mathlib.Core.Bool.{Bool, true, ◌&&◌, beq}
use mathlib.Core.List.{List}
use Prim.Native.Nat.{ℕ, ◌<◌}
use lib.Dec.{eqb}
use lib.ListN.{get_or}
use Rattle.base.specs.Lists.{any}
use Rattle.base.proofs.Breaks.{and_true}
use Rattle.base.proofs.Tables.{below_holds, beq_eq, get_d_tabulate}
use Rattle.rules.specs.Operators.{operator, operators}
use Rattle.rules.specs.Names.{is_letter, is_digit, is_operator, is_space, class_of, is_word_byte, is_label_byte}
use Rattle.names.specs.Classes.{letter_class, digit_class, operator_class, space_class, class_table}
use Rattle.names.specs.Classes.{has_class, is_word_in}
use Rattle.names.specs.LentNames.{is_label_byte_in}

-- each class is that of the bytes that it is named by
unfoldable is_right : ℕ → Bool
is_right b =
    beq (eqb (class_of b) letter_class) (is_letter b)
    && (beq (eqb (class_of b) digit_class) (is_digit b)
    && (beq (eqb (class_of b) operator_class) (is_operator b)
    && beq (eqb (class_of b) space_class) (is_space b)))

class_right : (b : ℕ) → b < 256 → is_right b ≡ true
unfolding any operator operators is_letter is_digit is_operator is_space class_of is_right
class_right = below_holds is_right 256 refl

-- what a lent table says of a byte
module _ (classes : List ℕ) (known : classes ≡ class_table) (b : ℕ) (fits : b < 256) where
  class_in : get_or classes b 0 ≡ class_of b
  unfolding class_table
  class_in = rw known (get_d_tabulate class_of 256 b fits)

  tests : (eqb (class_of b) letter_class ≡ is_letter b) × (eqb (class_of b) digit_class ≡ is_digit b)
      × (eqb (class_of b) operator_class ≡ is_operator b) × (eqb (class_of b) space_class ≡ is_space b)
  unfolding is_right
  tests =
      let k = and_true (beq (eqb (class_of b) letter_class) (is_letter b)) _ (class_right b fits) in
      let l = and_true (beq (eqb (class_of b) digit_class) (is_digit b)) _ k.1 in
      let m = and_true (beq (eqb (class_of b) operator_class) (is_operator b)) _ l.1 in
      (beq_eq _ _ k.0, beq_eq _ _ l.0, beq_eq _ _ m.0, beq_eq _ _ m.1)

  pub letter_in : has_class letter_class classes b ≡ is_letter b
  unfolding has_class
  letter_in = rw class_in tests.0

  pub digit_in : has_class digit_class classes b ≡ is_digit b
  unfolding has_class
  digit_in = rw class_in tests.1

  pub operator_in : has_class operator_class classes b ≡ is_operator b
  unfolding has_class
  operator_in = rw class_in tests.2

  pub space_in : has_class space_class classes b ≡ is_space b
  unfolding has_class
  space_in = rw class_in tests.3

  pub word_in : is_word_in classes b ≡ is_word_byte b
  unfolding is_word_byte
  word_in = rw (letter_in, digit_in) refl

  pub label_byte_in : is_label_byte_in classes b ≡ is_label_byte b
  unfolding is_label_byte
  label_byte_in = rw (word_in, space_in) refl
