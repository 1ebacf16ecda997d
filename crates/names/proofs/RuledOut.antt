-- No promise allows an answer of specs/Wrong: each has other numbers, by one computation.
use mathlib.Core.Path.{◌≡◌, refl, ap, sym, ◌∙◌}
use mathlib.Core.Bool.{Bool, true, false, not, false≢true}
use mathlib.Core.List.{List, [], ◌∷◌}
use Prim.Native.Nat.{ℕ}
use lib.ListN.{get_or}
use Rattle.base.specs.Lists.{all, any, same, last_is, tabulate}
use Rattle.base.proofs.Lists.{and_left, and_right, same_self}
use Rattle.rules.specs.Limits.{fields_most, short_most}
use Rattle.rules.specs.Operators.{operator, operators}
use Rattle.rules.specs.Names.{is_letter, is_digit, is_operator, is_space, class_of, is_word_byte, is_label_byte}
use Rattle.rules.specs.Names.{no_two_spaces, is_label, is_short, reserved, is_reserved}
use Rattle.names.specs.Classes.{digit_class, operator_class, space_class, class_table, has_class, is_word_in}
use Rattle.names.specs.LentNames.{no_two, is_label_in, is_short_in}
use Rattle.names.specs.Repeats.{
  first_from,
  pad_to,
  number_from,
  name_number,
  same_name,
  names_meet,
  names_alike,
  first_repeat,
  start_of,
  at_most,
}
use Rattle.names.specs.Wrong.{
  Claim,
  makes_table,
  says_digit,
  says_operator,
  says_space,
  says_word,
  says_label_in,
  says_short_in,
  says_label,
  says_reserved,
  says_same,
  answers_byte,
  pads,
  holds,
  makes_key,
  says_meet,
  begins,
  repeats_at,
  Claimed,
  AllFalse,
  wrong,
}

-- ── answers as numbers ──

abbrev single : ℕ → List ℕ
single n = n ∷ []

abbrev bit : Bool → List ℕ
bit true = 1 ∷ []
bit false = 0 ∷ []

-- what a claim says, and what the definitions give
abbrev claimed : Claim → List ℕ
claimed (makes_table r) = r
claimed (says_digit classes b r) = bit r
claimed (says_operator classes b r) = bit r
claimed (says_space classes b r) = bit r
claimed (says_word classes b r) = bit r
claimed (says_label_in classes w r) = bit r
claimed (says_short_in classes w r) = bit r
claimed (says_label w r) = bit r
claimed (says_reserved w r) = bit r
claimed (says_same a b r) = bit r
claimed (answers_byte w i r) = single r
claimed (pads n w r) = r
claimed (holds w r) = r
claimed (makes_key name r) = single r
claimed (says_meet a v b w r) = bit r
claimed (begins seen key j r) = single r
claimed (repeats_at shorts words n r) = single r

abbrev given : Claim → List ℕ
given (makes_table r) = class_table
given (says_digit classes b r) = bit (has_class digit_class classes b)
given (says_operator classes b r) = bit (has_class operator_class classes b)
given (says_space classes b r) = bit (has_class space_class classes b)
given (says_word classes b r) = bit (is_word_in classes b)
given (says_label_in classes w r) = bit (is_label_in classes w)
given (says_short_in classes w r) = bit (is_short_in classes w)
given (says_label w r) = bit (is_label w)
given (says_reserved w r) = bit (is_reserved w)
given (says_same a b r) = bit (same a b)
given (answers_byte w i r) = single (get_or w i 0)
given (pads n w r) = pad_to n w
given (holds w r) = pad_to short_most w
given (makes_key name r) = single (name_number name)
given (says_meet a v b w r) = bit (names_meet a v b w)
given (begins seen key j r) = single (start_of seen key j)
given (repeats_at shorts words n r) = single (first_repeat (names_alike shorts words) (at_most fields_most n))

claim_only : (c : Claim) → Claimed c → claimed c ≡ given c
claim_only (makes_table r) p = p
claim_only (says_digit classes b r) p = ap bit p
claim_only (says_operator classes b r) p = ap bit p
claim_only (says_space classes b r) p = ap bit p
claim_only (says_word classes b r) p = ap bit p
claim_only (says_label_in classes w r) p = ap bit p
claim_only (says_short_in classes w r) p = ap bit p
claim_only (says_label w r) p = ap bit p
claim_only (says_reserved w r) p = ap bit p
claim_only (says_same a b r) p = ap bit p
claim_only (answers_byte w i r) p = ap single p
claim_only (pads n w r) p = p
claim_only (holds w r) p = p
claim_only (makes_key name r) p = ap single p
claim_only (says_meet a v b w r) p = ap bit p
claim_only (begins seen key j r) p = ap single p
claim_only (repeats_at shorts words n r) p = ap single p

-- ── other numbers ──

abbrev is_other : Claim → Bool
is_other c = not (same (claimed c) (given c))

one_false : (c : Claim) → is_other c ≡ true → Claimed c → ⊥
one_false c h p =
    false≢true (sym (ap not (ap (λ (u : List ℕ). same u (given c)) (claim_only c p) ∙ same_self (given c))) ∙ h)

each_false : (cs : List Claim) → all is_other cs ≡ true → AllFalse cs
unfolding all
each_false [] h = tt
each_false (c ∷ cs) h = (
  one_false c (and_left (is_other c) (all is_other cs) h),
  each_false cs
      (and_right (is_other c) (all is_other cs) h),
)

pub ruled_out : AllFalse wrong
unfolding all any same last_is tabulate operator operators is_letter is_digit is_operator is_space class_of
    is_word_byte is_label_byte no_two_spaces is_label is_short reserved is_reserved class_table has_class no_two
    is_label_in is_short_in first_from pad_to same_name names_meet start_of number_from
ruled_out = each_false wrong refl
