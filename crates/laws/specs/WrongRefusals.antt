-- Numbers and places of wrong programs for what is refused, and refusals that a bad table becomes: of each, what is
-- claimed is a promise of crate rules, and it is false (proofs/RuledOutRefusals). [01, Refusal numbers]
use Rattle.std.specs.Prelude.{◌≡◌, List, [], ◌∷◌, ◌++◌, ℕ, Err}
use Rattle.base.specs.Lists.{Every}
use Rattle.rules.specs.declared.Fault.{Fault}
use Rattle.rules.specs.declared.TableRefusal.{TableRefusal}
use Rattle.rules.specs.declared.PacketRefusal.{PacketRefusal}
use Rattle.rules.specs.declared.TextRefusal.{TextRefusal}
use Rattle.rules.specs.declared.FieldRefusal.{FieldRefusal}
use Rattle.rules.specs.declared.ListingRefusal.{ListingRefusal}
use Rattle.rules.specs.declared.ConversionRefusal.{ConversionRefusal}
use Rattle.rules.specs.declared.EditRefusal.{EditRefusal}
use Rattle.rules.specs.Answers.{refused, fault_number, of_table, of_packet, of_text}
use Rattle.rules.specs.Answers.{of_field, of_listing, of_conversion, of_edit}

pub data Claim : Type 0 where
  -- the number of a fault
  numbers : Fault → ℕ → Claim
  -- a refusal of each kind, its number and its place
  tells_table : TableRefusal → ℕ → ℕ → Claim
  tells_packet : PacketRefusal → ℕ → ℕ → Claim
  tells_text : TextRefusal → ℕ → ℕ → Claim
  tells_field : FieldRefusal → ℕ → ℕ → Claim
  tells_listing : ListingRefusal → ℕ → ℕ → Claim
  tells_conversion : ConversionRefusal → ℕ → ℕ → Claim
  tells_edit : EditRefusal → ℕ → ℕ → Claim
  -- what a bad table's refusal becomes where it is checked first
  as_packet : PacketRefusal → Claim
  as_field : FieldRefusal → Claim
  as_conversion : ConversionRefusal → Claim
  as_edit : EditRefusal → Claim

abbrev pub Claimed : Claim → Type 0
Claimed (numbers f n) = n ≡ fault_number f
Claimed (tells_table e n p) = refused n p ≡ of_table (Err e)
Claimed (tells_packet e n p) = refused n p ≡ of_packet (Err e)
Claimed (tells_text e n p) = refused n p ≡ of_text (Err e)
Claimed (tells_field e n p) = refused n p ≡ of_field (Err e)
Claimed (tells_listing e n p) = refused n p ≡ of_listing (Err e)
Claimed (tells_conversion e n p) = refused n p ≡ of_conversion (Err e)
Claimed (tells_edit e n p) = refused n p ≡ of_edit (Err e)
Claimed (as_packet r) = r ≡ PacketRefusal.NotGood
Claimed (as_field r) = r ≡ FieldRefusal.NotGood
Claimed (as_conversion r) = r ≡ ConversionRefusal.NotGood
Claimed (as_edit r) = r ≡ EditRefusal.NotGood

abbrev pub AllFalse : List Claim → Type 0
AllFalse = Every (λ c. Claimed c → ⊥)

abbrev wrong_numbers : List Claim
wrong_numbers =
    -- faults exchanged; a zero divisor out of range; counted from 0
    numbers Fault.BitsMissing 25
    ∷ numbers Fault.AbsentRead 27
    ∷ numbers Fault.ZeroDivisor 27
    ∷ numbers Fault.ConstraintFalse 1
    -- a bad table accepted; with a place
    ∷ tells_table TableRefusal.NotGood 0 0
    ∷ tells_table TableRefusal.NotGood 21 1
    -- a field without its place; number and place exchanged; a packet too long for a bad table; 28 for 27
    ∷ tells_packet (PacketRefusal.Field Fault.OutOfRange 3) 27 0
    ∷ tells_packet (PacketRefusal.Field Fault.OutOfRange 3) 3 27
    ∷ tells_packet PacketRefusal.TooLong 21 0
    ∷ tells_packet PacketRefusal.LeftOver 27 0
    -- 2 told as 3; a line without its place; names and repeats exchanged; no room for a bad rest
    ∷ tells_text TextRefusal.BadByte 3 0
    ∷ tells_text (TextRefusal.BadLine 7) 3 0
    ∷ tells_text (TextRefusal.Repeated 7) 9 7
    ∷ tells_text TextRefusal.NoRoom 10 0
    -- an unknown field for a bad table, and the other way
    ∷ tells_field FieldRefusal.Unknown 21 0
    ∷ tells_field FieldRefusal.NotGood 30 0
    -- no room for a bad table, or for a short run
    ∷ tells_listing ListingRefusal.NoRoom 21 0
    ∷ tells_listing ListingRefusal.NoRoom 23 0
    -- no room and a bad table exchanged
    ∷ tells_conversion ConversionRefusal.NoRoom 21 0
    ∷ tells_conversion ConversionRefusal.NotGood 11 0
    -- a field that is read without its place; fields that do not go together for one that is read; no such fields for
    -- a bad table
    ∷ tells_edit (EditRefusal.StillRead 3) 31 0
    ∷ tells_edit EditRefusal.BeyondLimits 31 0
    ∷ tells_edit EditRefusal.NoFields 21 0
    ∷ []

-- a bad table taken for something else
abbrev wrong_kinds : List Claim
wrong_kinds =
    as_packet PacketRefusal.TooLong
    ∷ as_packet PacketRefusal.LeftOver
    ∷ as_field FieldRefusal.Unknown
    ∷ as_conversion ConversionRefusal.NoRoom
    ∷ as_edit EditRefusal.NoFields
    ∷ as_edit EditRefusal.NoRoom
    ∷ []

abbrev pub wrong_refusals : List Claim
wrong_refusals = wrong_numbers ++ wrong_kinds
