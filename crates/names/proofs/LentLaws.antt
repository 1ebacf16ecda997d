-- By the table of the classes, labels and short names are those of the rules.
use mathlib.Core.Path.{◌≡◌, refl, ap, fun_ext}
use mathlib.Core.Bool.{Bool, true, false, ◌&&◌, ◌||◌, not}
use mathlib.Core.List.{List, [], ◌∷◌}
use Prim.Native.Nat.{ℕ, zero, suc, ◌≤◌}
use native.Mathlib.Omega.{arith}
use lib.Dec.{ltb, leb}
use lib.ListN.{length, get_or, get_or-eq_default}
use borrow.Author.Tests.{ltb-true, ltb-false, lt-leb, ne_eqb}
use Rattle.base.specs.Lists.{tabulate}
use Rattle.rules.specs.Names.{is_letter, is_digit, is_space, class_of, is_word_byte, is_label_byte}
use Rattle.rules.specs.Names.{no_two_spaces, is_label, is_short}
use Rattle.names.specs.Classes.{letter_class, digit_class, space_class, class_table, has_class, is_word_in}
use Rattle.names.specs.LentNames.{is_label_byte_in, no_two, is_label_in, is_short_in}
use Rattle.names.proofs.ClassRules.{letter_in, digit_in, space_in}

-- ── a number above the bytes has no class ──

length_tabulate : (f : ℕ → ℕ) (i n : ℕ) → length (tabulate f i n) ≡ n
unfolding tabulate
length_tabulate f i zero = refl
length_tabulate f i (suc n) = ap suc (length_tabulate f (suc i) n)

module _ (b : ℕ) (above : 256 ≤ b) where
  no_class : get_or class_table b 0 ≡ 0
  unfolding class_table
  no_class = get_or-eq_default (tabulate class_of 0 256) 0 (rw (length_tabulate class_of 0 256) above)

  no_letter : is_letter b ≡ false
  unfolding is_letter
  no_letter =
      let p : leb b 90 ≡ false = lt-leb b 90 (omega arith) in
      let q : leb b 122 ≡ false = lt-leb b 122 (omega arith) in
      rw (p, q) (go (leb 65 b) (leb 97 b))
    where
      go : (x y : Bool) → ((x && false) || (y && false)) ≡ false
      go true true = refl
      go true false = refl
      go false true = refl
      go false false = refl

  no_digit : is_digit b ≡ false
  unfolding is_digit
  no_digit = let p : leb b 57 ≡ false = lt-leb b 57 (omega arith) in rw p (go (leb 48 b))
    where
      go : (x : Bool) → (x && false) ≡ false
      go true = refl
      go false = refl

  no_space : is_space b ≡ false
  unfolding is_space
  no_space = ne_eqb b 32 (λ e. absurd (omega arith))

-- ── the tests agree ──

letter_table : (b : ℕ) → has_class letter_class class_table b ≡ is_letter b
unfolding has_class
letter_table b = go (ltb b 256) refl
  where
    go : (x : Bool) → ltb b 256 ≡ x → has_class letter_class class_table b ≡ is_letter b
    go true t = letter_in class_table refl b (ltb-true b 256 t)
    go false t = let le = ltb-false b 256 t in rw (no_class b le, no_letter b le) refl

digit_table : (b : ℕ) → has_class digit_class class_table b ≡ is_digit b
unfolding has_class
digit_table b = go (ltb b 256) refl
  where
    go : (x : Bool) → ltb b 256 ≡ x → has_class digit_class class_table b ≡ is_digit b
    go true t = digit_in class_table refl b (ltb-true b 256 t)
    go false t = let le = ltb-false b 256 t in rw (no_class b le, no_digit b le) refl

space_table : (b : ℕ) → has_class space_class class_table b ≡ is_space b
unfolding has_class
space_table b = go (ltb b 256) refl
  where
    go : (x : Bool) → ltb b 256 ≡ x → has_class space_class class_table b ≡ is_space b
    go true t = space_in class_table refl b (ltb-true b 256 t)
    go false t = let le = ltb-false b 256 t in rw (no_class b le, no_space b le) refl

letters : has_class letter_class class_table ≡ is_letter
letters = fun_ext letter_table

spaces : has_class space_class class_table ≡ is_space
spaces = fun_ext space_table

words : is_word_in class_table ≡ is_word_byte
unfolding is_word_byte
words = fun_ext (λ b. rw (letter_table b, digit_table b) refl)

label_bytes_lem : is_label_byte_in class_table ≡ is_label_byte
unfolding is_label_byte is_word_byte
label_bytes_lem = fun_ext (λ b. rw (letter_table b, digit_table b, space_table b) refl)

no_two_lem : (l : List ℕ) → no_two is_space l ≡ no_two_spaces l
unfolding no_two no_two_spaces
no_two_lem [] = refl
no_two_lem (a ∷ []) = refl
no_two_lem (a ∷ b ∷ l) = ap (λ (x : Bool). not (is_space a && is_space b) && x) (no_two_lem (b ∷ l))

-- ── names ──

pub label_table : (w : List ℕ) → is_label_in class_table w ≡ is_label w
unfolding is_label_in is_label
label_table w = rw (label_bytes_lem, words, spaces, no_two_lem w) refl

pub short_table : (w : List ℕ) → is_short_in class_table w ≡ is_short w
unfolding is_short_in is_short
short_table w = rw (letters, words) refl

-- a lent table that is it
pub label_in_lem : (classes : List ℕ) → classes ≡ class_table → (w : List ℕ) → is_label_in classes w ≡ is_label w
label_in_lem classes known w = rw known (label_table w)

pub short_in_lem : (classes : List ℕ) → classes ≡ class_table → (w : List ℕ) → is_short_in classes w ≡ is_short w
short_in_lem classes known w = rw known (short_table w)
