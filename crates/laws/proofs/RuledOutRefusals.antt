-- No promise allows a number, a place or a refusal of specs/WrongRefusals: each has other numbers, by one computation.
use mathlib.Core.Path.{◌≡◌, refl}
use mathlib.Core.Bool.{Bool, true, not}
use mathlib.Core.List.{List, [], ◌∷◌}
use Prim.Native.Nat.{ℕ}
use Rattle.std.specs.Prelude.{Err}
use Rattle.base.specs.Lists.{all, same}
use Rattle.base.proofs.Lists.{every_passes, other_numbers}
use Rattle.rules.specs.declared.PacketRefusal.{PacketRefusal}
use Rattle.rules.specs.declared.FieldRefusal.{FieldRefusal}
use Rattle.rules.specs.declared.ConversionRefusal.{ConversionRefusal}
use Rattle.rules.specs.declared.EditRefusal.{EditRefusal}
use Rattle.rules.specs.Answers.{
  Answer,
  refused,
  fault_number,
  of_table,
  of_packet,
  of_text,
  of_field,
  of_listing,
  of_conversion,
  of_edit,
}
use Rattle.laws.specs.WrongRefusals.{
  Claim,
  numbers,
  tells_table,
  tells_packet,
  tells_text,
  tells_field,
  tells_listing,
  tells_conversion,
  tells_edit,
  as_packet,
  as_field,
  as_conversion,
  as_edit,
  Claimed,
  AllFalse,
  wrong_refusals,
}

abbrev single : ℕ → List ℕ
single n = n ∷ []

abbrev answer_numbers : Answer → List ℕ
answer_numbers a = a.number ∷ a.place ∷ a.amount ∷ []

abbrev packet_numbers : PacketRefusal → List ℕ
packet_numbers r = answer_numbers (of_packet (Err r))

abbrev field_numbers : FieldRefusal → List ℕ
field_numbers r = answer_numbers (of_field (Err r))

abbrev conversion_numbers : ConversionRefusal → List ℕ
conversion_numbers r = answer_numbers (of_conversion (Err r))

abbrev edit_numbers : EditRefusal → List ℕ
edit_numbers r = answer_numbers (of_edit (Err r))

abbrev answer_else : Answer → Answer → Bool
answer_else a b = not (same (answer_numbers a) (answer_numbers b))

abbrev differs : Claim → Bool
differs (numbers f n) = not (same (single n) (single (fault_number f)))
differs (tells_table e n p) = answer_else (refused n p) (of_table (Err e))
differs (tells_packet e n p) = answer_else (refused n p) (of_packet (Err e))
differs (tells_text e n p) = answer_else (refused n p) (of_text (Err e))
differs (tells_field e n p) = answer_else (refused n p) (of_field (Err e))
differs (tells_listing e n p) = answer_else (refused n p) (of_listing (Err e))
differs (tells_conversion e n p) = answer_else (refused n p) (of_conversion (Err e))
differs (tells_edit e n p) = answer_else (refused n p) (of_edit (Err e))
differs (as_packet r) = not (same (packet_numbers r) (packet_numbers PacketRefusal.NotGood))
differs (as_field r) = not (same (field_numbers r) (field_numbers FieldRefusal.NotGood))
differs (as_conversion r) = not (same (conversion_numbers r) (conversion_numbers ConversionRefusal.NotGood))
differs (as_edit r) = not (same (edit_numbers r) (edit_numbers EditRefusal.NotGood))

one_false : (c : Claim) → differs c ≡ true → Claimed c → ⊥
one_false (numbers f n) d = other_numbers single n (fault_number f) d
one_false (tells_table e n p) d = other_numbers answer_numbers (refused n p) (of_table (Err e)) d
one_false (tells_packet e n p) d = other_numbers answer_numbers (refused n p) (of_packet (Err e)) d
one_false (tells_text e n p) d = other_numbers answer_numbers (refused n p) (of_text (Err e)) d
one_false (tells_field e n p) d = other_numbers answer_numbers (refused n p) (of_field (Err e)) d
one_false (tells_listing e n p) d = other_numbers answer_numbers (refused n p) (of_listing (Err e)) d
one_false (tells_conversion e n p) d = other_numbers answer_numbers (refused n p) (of_conversion (Err e)) d
one_false (tells_edit e n p) d = other_numbers answer_numbers (refused n p) (of_edit (Err e)) d
one_false (as_packet r) d = other_numbers packet_numbers r PacketRefusal.NotGood d
one_false (as_field r) d = other_numbers field_numbers r FieldRefusal.NotGood d
one_false (as_conversion r) d = other_numbers conversion_numbers r ConversionRefusal.NotGood d
one_false (as_edit r) d = other_numbers edit_numbers r EditRefusal.NotGood d

pub refusals_ruled_out : AllFalse wrong_refusals
unfolding all same fault_number of_table of_packet of_text of_field of_listing of_conversion of_edit
refusals_ruled_out = every_passes differs one_false wrong_refusals refl
