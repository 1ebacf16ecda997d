-- Answers of wrong programs: of each, what is claimed is a promise, and it is false (proofs/RuledOut).
use Rattle.std.specs.Prelude.{◌≡◌, Bool, true, false, List, [], ◌∷◌, ◌++◌, ℕ, replicate}
use Rattle.base.specs.Lists.{Every}
use Rattle.references.specs.Scans.{references, has_code}
use Rattle.references.specs.declared.scans.Wanted.{Wanted}
use Rattle.references.specs.declared.scans.Wanted.TheVariants.{Added, Run}
use Rattle.references.specs.declared.renumbering.Shift.{Shift}
use Rattle.references.specs.Renumbered.{new_index, renumbered_bytes}
use Rattle.references.specs.Tallies.{tallied}
use Rattle.references.specs.Numbers.{numbered}

pub data Claim : Type 0 where
  -- an expression, the own index, the counts before and after
  tallies : List ℕ → ℕ → List ℕ → List ℕ → Claim
  -- what is looked for, an expression, and whether it is there
  finds : Wanted → List ℕ → Bool → Claim
  -- how indexes change, an expression before and after
  renumbers : Shift → List ℕ → List ℕ → Claim
  -- records, how many, their numbers, and the records after
  numbers : List ℕ → ℕ → List ℕ → List ℕ → Claim

abbrev pub Claimed : Claim → Type 0
Claimed (tallies e own before after) = after ≡ tallied own before (references e)
Claimed (finds w e r) = r ≡ has_code w e
Claimed (renumbers shift before after) = after ≡ renumbered_bytes (new_index shift) before
Claimed (numbers s n counts after) = after ≡ numbered n counts s

abbrev pub AllFalse : List Claim → Type 0
AllFalse = Every (λ c. Claimed c → ⊥)

-- no counts yet
abbrev none : List ℕ
none = 0 ∷ 0 ∷ 0 ∷ []

abbrev wrong_tallies : List Claim
wrong_tallies =
    -- nothing counted; the own reference counted; a repeated one counted once
    tallies (2 ∷ 1 ∷ []) 0 none none
    ∷ tallies (2 ∷ 0 ∷ []) 0 none (1 ∷ 0 ∷ 0 ∷ [])
    ∷ tallies (0x10 ∷ 2 ∷ 1 ∷ 2 ∷ 1 ∷ []) 0 none (0 ∷ 1 ∷ 0 ∷ [])
    -- bytes of a number taken for codes; an index taken for a code
    ∷ tallies (1 ∷ 2 ∷ 1 ∷ 0 ∷ 0 ∷ []) 0 none (0 ∷ 1 ∷ 0 ∷ [])
    ∷ tallies (0x20 ∷ 2 ∷ 2 ∷ 2 ∷ 1 ∷ []) 0 none (0 ∷ 1 ∷ 2 ∷ [])
    ∷ tallies (0x20 ∷ 2 ∷ 1 ∷ 2 ∷ 2 ∷ []) 0 none (0 ∷ 1 ∷ 0 ∷ [])
    -- what comes behind a number, or behind `!`, passed over
    ∷ tallies (0x20 ∷ 1 ∷ 7 ∷ 0 ∷ 0 ∷ 0 ∷ 2 ∷ 1 ∷ []) 0 none none
    ∷ tallies (0x32 ∷ 0x20 ∷ 2 ∷ 1 ∷ 2 ∷ 2 ∷ []) 0 none none
    -- an index behind the end counted at the last place
    ∷ tallies (2 ∷ 5 ∷ []) 0 none (0 ∷ 0 ∷ 1 ∷ [])
    -- the first index passed over in the place of the own one; an own one counted that is not the first
    ∷ tallies (2 ∷ 0 ∷ []) 1 none none
    ∷ tallies (2 ∷ 1 ∷ []) 1 none (0 ∷ 1 ∷ 0 ∷ [])
    ∷ tallies (0x20 ∷ 2 ∷ 0 ∷ 2 ∷ 2 ∷ []) 2 none (0 ∷ 0 ∷ 1 ∷ [])
    -- a code without its index counted as 0; the bytes of a number that is cut off taken for codes
    ∷ tallies (2 ∷ []) 1 none (1 ∷ 0 ∷ 0 ∷ [])
    ∷ tallies (1 ∷ 2 ∷ 1 ∷ []) 0 none (0 ∷ 1 ∷ 0 ∷ [])
    -- counts cleared first; a count that stays at 255, or starts again; one that stays at 65,535, or needs more bytes
    ∷ tallies (2 ∷ 1 ∷ []) 0 (5 ∷ 7 ∷ []) (0 ∷ 1 ∷ [])
    ∷ tallies (2 ∷ 1 ∷ []) 0 (0 ∷ 255 ∷ []) (0 ∷ 255 ∷ [])
    ∷ tallies (2 ∷ 1 ∷ []) 0 (0 ∷ 255 ∷ []) (0 ∷ 0 ∷ [])
    ∷ tallies (2 ∷ 1 ∷ []) 0 (0 ∷ 65_535 ∷ []) (0 ∷ 65_535 ∷ [])
    ∷ tallies (2 ∷ 1 ∷ []) 0 (0 ∷ 65_535 ∷ []) (0 ∷ 65_536 ∷ [])
    ∷ []

abbrev wrong_finds : List Claim
wrong_finds =
    -- a code found inside a number, and in an index
    finds Added (1 ∷ 0x13 ∷ 0 ∷ 0 ∷ 0 ∷ []) true
    ∷ finds Added (2 ∷ 0x14 ∷ []) true
    -- one missed behind a field, and behind a number
    ∷ finds Added (0x20 ∷ 2 ∷ 0 ∷ 0x13 ∷ 2 ∷ 0 ∷ 2 ∷ 0 ∷ []) false
    ∷ finds Added (0x20 ∷ 1 ∷ 7 ∷ 0 ∷ 0 ∷ 0 ∷ 0x14 ∷ 2 ∷ 0 ∷ 2 ∷ 0 ∷ []) false
    -- `^` not looked for; `*` and `==` taken for added ones
    ∷ finds Added (0x15 ∷ 2 ∷ 0 ∷ 2 ∷ 0 ∷ []) false
    ∷ finds Added (0x12 ∷ 2 ∷ 0 ∷ 2 ∷ 0 ∷ []) true
    ∷ finds Added (0x20 ∷ 2 ∷ 0 ∷ 2 ∷ 0 ∷ []) true
    -- the code behind `^` taken for one; a number that is cut off; no bytes
    ∷ finds Added (0x16 ∷ 2 ∷ 0 ∷ 2 ∷ 0 ∷ []) true
    ∷ finds Added (1 ∷ 0x13 ∷ []) true
    ∷ finds Added [] true
    -- a run: one behind its end found, one before it, its first and its last missed
    ∷ finds (Run 2 4) (2 ∷ 5 ∷ []) true
    ∷ finds (Run 2 4) (2 ∷ 1 ∷ []) true
    ∷ finds (Run 2 4) (2 ∷ 2 ∷ []) false
    ∷ finds (Run 2 4) (2 ∷ 4 ∷ []) false
    -- in the right operand, behind a number and behind `!` missed
    ∷ finds (Run 2 4) (0x20 ∷ 2 ∷ 0 ∷ 2 ∷ 3 ∷ []) false
    ∷ finds (Run 2 4) (0x20 ∷ 1 ∷ 9 ∷ 9 ∷ 9 ∷ 9 ∷ 2 ∷ 3 ∷ []) false
    ∷ finds (Run 2 4) (0x32 ∷ 0x20 ∷ 2 ∷ 3 ∷ 2 ∷ 0 ∷ []) false
    -- in the bytes of a number, and without its index found; an operator taken for it
    ∷ finds (Run 2 4) (1 ∷ 2 ∷ 3 ∷ 0 ∷ 0 ∷ []) true
    ∷ finds (Run 0 4) (2 ∷ []) true
    ∷ finds (Run 0 99) (0x13 ∷ 1 ∷ 7 ∷ 0 ∷ 0 ∷ 0 ∷ 1 ∷ 2 ∷ 0 ∷ 0 ∷ 0 ∷ []) true
    -- behind a field's index that is a number's code missed
    ∷ finds (Run 5 5) (0x20 ∷ 2 ∷ 1 ∷ 2 ∷ 5 ∷ []) false
    -- in an empty run found, and in one of which a byte holds the rest alone
    ∷ finds (Run 3 2) (2 ∷ 3 ∷ []) true
    ∷ finds (Run 256 256) (2 ∷ 0 ∷ []) true
    ∷ []

-- down by two behind a run from 3 on, and up by two from 3 on
abbrev down : Shift
down = Shift.Down 3 2

abbrev up : Shift
up = Shift.Up 3 2

abbrev wrong_renumbers : List Claim
wrong_renumbers =
    -- left as it was; changed before the run; the first one changed not; the other way
    renumbers down (2 ∷ 5 ∷ []) (2 ∷ 5 ∷ [])
    ∷ renumbers down (2 ∷ 3 ∷ []) (2 ∷ 3 ∷ [])
    ∷ renumbers down (2 ∷ 2 ∷ []) (2 ∷ 0 ∷ [])
    ∷ renumbers up (2 ∷ 3 ∷ []) (2 ∷ 3 ∷ [])
    ∷ renumbers up (2 ∷ 5 ∷ []) (2 ∷ 3 ∷ [])
    -- only the first operand; only the last; the bytes of a number changed; a code behind a number passed over
    ∷ renumbers up (0x20 ∷ 2 ∷ 4 ∷ 2 ∷ 3 ∷ []) (0x20 ∷ 2 ∷ 6 ∷ 2 ∷ 3 ∷ [])
    ∷ renumbers up (0x20 ∷ 2 ∷ 4 ∷ 2 ∷ 3 ∷ []) (0x20 ∷ 2 ∷ 4 ∷ 2 ∷ 5 ∷ [])
    ∷ renumbers up (1 ∷ 2 ∷ 4 ∷ 0 ∷ 0 ∷ []) (1 ∷ 2 ∷ 6 ∷ 0 ∷ 0 ∷ [])
    ∷ renumbers up (0x20 ∷ 1 ∷ 2 ∷ 4 ∷ 0 ∷ 0 ∷ 2 ∷ 4 ∷ []) (0x20 ∷ 1 ∷ 2 ∷ 4 ∷ 0 ∷ 0 ∷ 2 ∷ 4 ∷ [])
    -- an index taken for a code; an operator of a like number changed; a code without its index changed
    ∷ renumbers up (0x20 ∷ 2 ∷ 1 ∷ 2 ∷ 9 ∷ []) (0x20 ∷ 2 ∷ 1 ∷ 2 ∷ 9 ∷ [])
    ∷ renumbers (Shift.Up 1 1) (0x20 ∷ 2 ∷ 1 ∷ 2 ∷ 9 ∷ []) (0x20 ∷ 2 ∷ 2 ∷ 3 ∷ 9 ∷ [])
    ∷ renumbers up (0x20 ∷ 2 ∷ 0 ∷ 2 ∷ 1 ∷ []) (0x22 ∷ 2 ∷ 0 ∷ 2 ∷ 1 ∷ [])
    ∷ renumbers (Shift.Up 0 2) (0x32 ∷ 2 ∷ []) (0x32 ∷ 4 ∷ [])
    -- one below zero taken for 255, and one over 255 for 255
    ∷ renumbers (Shift.Down 0 2) (2 ∷ 1 ∷ []) (2 ∷ 255 ∷ [])
    ∷ renumbers up (2 ∷ 254 ∷ []) (2 ∷ 255 ∷ [])
    ∷ []

-- a record of eight bytes and one of six; the numbers 258 and 3
abbrev long : ℕ → ℕ → List ℕ
long x y = 8 ∷ 0 ∷ 12 ∷ 0 ∷ x ∷ y ∷ 5 ∷ 5 ∷ []

abbrev brief : ℕ → ℕ → List ℕ
brief x y = 6 ∷ 0 ∷ 12 ∷ 0 ∷ x ∷ y ∷ []

-- one of 262 bytes, and one of 256
abbrev longest : ℕ → ℕ → List ℕ
longest x y = 6 ∷ 1 ∷ 12 ∷ 0 ∷ x ∷ y ∷ replicate 256 6

abbrev round : ℕ → ℕ → List ℕ
round x y = 0 ∷ 1 ∷ 12 ∷ 0 ∷ x ∷ y ∷ replicate 250 5

abbrev given : List ℕ
given = 258 ∷ 3 ∷ []

abbrev wrong_numbers : List Claim
wrong_numbers =
    -- nothing put; the greatest byte first; only the first record numbered; one more than n
    numbers (long 9 9 ++ brief 9 9) 2 given (long 9 9 ++ brief 9 9)
    ∷ numbers (long 9 9 ++ brief 9 9) 2 given (long 1 2 ++ brief 0 3)
    ∷ numbers (long 9 9 ++ brief 9 9) 2 given (long 2 1 ++ brief 9 9)
    ∷ numbers (long 9 9 ++ brief 9 9) 1 given (long 2 1 ++ brief 3 0)
    -- the same number in each; a record without a number left as it was
    ∷ numbers (long 9 9 ++ brief 9 9) 2 given (long 2 1 ++ brief 2 1)
    ∷ numbers (long 9 9 ++ brief 9 9) 2 (258 ∷ []) (long 2 1 ++ brief 9 9)
    -- put over the label's length, over the kind, over the length
    ∷ numbers (long 9 9) 1 given (8 ∷ 0 ∷ 12 ∷ 0 ∷ 9 ∷ 9 ∷ 2 ∷ 1 ∷ [])
    ∷ numbers (long 9 9) 1 given (8 ∷ 0 ∷ 2 ∷ 1 ∷ 9 ∷ 9 ∷ 5 ∷ 5 ∷ [])
    ∷ numbers (long 9 9) 1 given (2 ∷ 1 ∷ 12 ∷ 0 ∷ 9 ∷ 9 ∷ 5 ∷ 5 ∷ [])
    -- walking on behind bytes that are no record: too short for a number, longer than what is there
    ∷ numbers (5 ∷ 0 ∷ 12 ∷ 0 ∷ 9 ∷ brief 9 9) 2 given (5 ∷ 0 ∷ 12 ∷ 0 ∷ 9 ∷ brief 3 0)
    ∷ numbers (9 ∷ 0 ∷ 12 ∷ 0 ∷ 9 ∷ 9 ∷ []) 1 given (9 ∷ 0 ∷ 12 ∷ 0 ∷ 2 ∷ 1 ∷ [])
    -- one byte of a length read: the next number put inside the record, or into none; a record taken for none
    ∷ numbers (longest 9 9 ++ brief 9 9) 2 given
    ((6 ∷ 1 ∷ 12 ∷ 0 ∷ 2 ∷ 1 ∷ 6 ∷ 6 ∷ 6 ∷ 6 ∷ 3 ∷ 0 ∷ replicate 250 6) ++ brief 9 9)
    ∷ numbers (longest 9 9 ++ brief 9 9) 2 given (longest 2 1 ++ brief 9 9)
    ∷ numbers (round 9 9 ++ brief 9 9) 2 given (round 9 9 ++ brief 9 9)
    ∷ numbers (round 9 9 ++ brief 9 9) 2 given (round 2 1 ++ brief 9 9)
    -- what stands behind the records cut off
    ∷ numbers (brief 9 9 ++ (4 ∷ 0 ∷ 5 ∷ 0 ∷ [])) 1 given (brief 2 1)
    ∷ []

abbrev pub wrong : List Claim
wrong = wrong_tallies ++ (wrong_finds ++ (wrong_renumbers ++ wrong_numbers))
