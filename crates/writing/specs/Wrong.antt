-- Answers of wrong programs: of each, what is claimed is a promise, and it is false (proofs/RuledOut).
use Rattle.std.specs.Prelude.{◌≡◌, Bool, true, false, List, [], ◌∷◌, ℕ, replicate}
use Rattle.base.specs.Bytes.{decimal}
use Rattle.base.specs.Lists.{Every}
use Rattle.rules.specs.Trees.{le2}
use Rattle.rules.specs.Stored.{counted}
use Rattle.rules.specs.Promises.{leaves, delivered}
use Rattle.writing.specs.Puts.{Placed, placed, nowhere, put}
use Rattle.writing.specs.Delivery.{delivery_answer}

-- in a buffer of five 9s: what a text at a place leaves
abbrev pub lent : List ℕ
lent = replicate 5 9

pub data Claim : Type 0 where
  -- a text put at a place
  puts : ℕ → List ℕ → Placed → Claim
  -- a number in two bytes, a text with its length, a number in decimal
  puts_two : ℕ → ℕ → Placed → Claim
  puts_counted : ℕ → List ℕ → Placed → Claim
  puts_decimal : ℕ → ℕ → Placed → Claim
  -- a text delivered: whether there was room, and what the output holds then
  delivers : List ℕ → Bool → List ℕ → Claim

abbrev pub Claimed : Claim → Type 0
Claimed (puts at w r) = r ≡ put lent at w
Claimed (puts_two at n r) = r ≡ put lent at (le2 n)
Claimed (puts_counted at w r) = r ≡ put lent at (counted w)
Claimed (puts_decimal at n r) = r ≡ put lent at (decimal n)
Claimed (delivers w room after) = leaves (delivery_answer room w) after ≡ delivered w lent

abbrev pub AllFalse : List Claim → Type 0
AllFalse = Every (λ c. Claimed c → ⊥)

abbrev pub wrong : List Claim
wrong =
    -- nothing written; written at the start; what lies beyond cleared
    puts 1 (7 ∷ 8 ∷ []) (placed 3 lent)
    ∷ puts 1 (7 ∷ 8 ∷ []) (placed 3 (7 ∷ 8 ∷ 9 ∷ 9 ∷ 9 ∷ []))
    ∷ puts 1 (7 ∷ 8 ∷ []) (placed 3 (9 ∷ 7 ∷ 8 ∷ 0 ∷ 0 ∷ []))
    -- the part that fits written; the end answered for a text that does not fit; a text just long enough refused
    ∷ puts 4 (7 ∷ 8 ∷ []) (placed nowhere (9 ∷ 9 ∷ 9 ∷ 9 ∷ 7 ∷ []))
    ∷ puts 4 (7 ∷ 8 ∷ []) (placed 5 lent)
    ∷ puts 3 (7 ∷ 8 ∷ []) (placed nowhere lent)
    -- an empty text put beyond the end
    ∷ puts nowhere [] (placed 0 lent)
    -- the greatest byte first; one byte for a small number; the next place one too far
    ∷ puts_two 0 513 (placed 2 (2 ∷ 1 ∷ 9 ∷ 9 ∷ 9 ∷ []))
    ∷ puts_two 0 1 (placed 1 (1 ∷ 9 ∷ 9 ∷ 9 ∷ 9 ∷ []))
    ∷ puts_two 0 513 (placed 3 (1 ∷ 2 ∷ 9 ∷ 9 ∷ 9 ∷ []))
    -- a text without its length; the length counted in; the length alone where the text does not fit
    ∷ puts_counted 0 (7 ∷ 8 ∷ []) (placed 2 (7 ∷ 8 ∷ 9 ∷ 9 ∷ 9 ∷ []))
    ∷ puts_counted 0 (7 ∷ 8 ∷ []) (placed 4 (4 ∷ 0 ∷ 7 ∷ 8 ∷ 9 ∷ []))
    ∷ puts_counted 2 (7 ∷ 8 ∷ []) (placed nowhere (9 ∷ 9 ∷ 2 ∷ 0 ∷ 9 ∷ []))
    -- leading zeros; digits from the last to the first; nothing for 0
    ∷ puts_decimal 0 42 (placed 4 (48 ∷ 48 ∷ 52 ∷ 50 ∷ 9 ∷ []))
    ∷ puts_decimal 0 42 (placed 2 (50 ∷ 52 ∷ 9 ∷ 9 ∷ 9 ∷ []))
    ∷ puts_decimal 0 0 (placed 0 lent)
    -- nothing delivered; a part delivered where there is no room; room for a text just long enough denied
    ∷ delivers (7 ∷ 8 ∷ []) true lent
    ∷ delivers (1 ∷ 2 ∷ 3 ∷ 4 ∷ 5 ∷ 6 ∷ []) false (1 ∷ 2 ∷ 3 ∷ 4 ∷ 5 ∷ [])
    ∷ delivers (1 ∷ 2 ∷ 3 ∷ 4 ∷ 5 ∷ []) false lent
    ∷ []
