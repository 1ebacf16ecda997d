-- Answers of wrong programs: of each, what is claimed is a promise of src/words.rt, and it is false (proofs/RuledOut).
use Rattle.std.specs.Prelude.{◌≡◌, List, [], ◌∷◌, ℕ}
use Rattle.base.specs.Bytes.{bytes}
use Rattle.base.specs.Lists.{Every}
use Rattle.requests.specs.Words.{before, next_word, number_from, Holds}

pub data Claim : Type 0 where
  -- how many bytes stand before a byte
  finds : List ℕ → ℕ → ℕ → Claim
  -- the place of the next word
  steps : List ℕ → ℕ → Claim
  -- the number that a line begins with
  reads : List ℕ → ℕ → Claim
  -- how many bytes a line gives an output of three nines, and what that holds then
  fills : List ℕ → ℕ → List ℕ → Claim

abbrev pub lent : List ℕ
lent = 9 ∷ 9 ∷ 9 ∷ []

abbrev pub Claimed : Claim → Type 0
Claimed (finds s byte n) = n ≡ before byte s
Claimed (steps s n) = n ≡ next_word s
Claimed (reads s n) = n ≡ number_from 0 s
Claimed (fills s n after) = Holds s lent n after

abbrev pub AllFalse : List Claim → Type 0
AllFalse = Every (λ c. Claimed c → ⊥)

abbrev pub wrong : List Claim
wrong =
    -- all bytes told where the byte is there
    finds (bytes "ab cd e") 32 7
    -- the first byte that is another, the byte told too, the last such byte
    ∷ finds (bytes "ab cd e") 32 0
    ∷ finds (bytes "ab cd e") 32 3
    ∷ finds (bytes "ab cd e") 32 5
    -- none told where the byte is not there
    ∷ finds (bytes "ab") 32 0
    -- a word that begins with the space before it, words parted by commas, the last word
    ∷ steps (bytes "a,b cd e") 3
    ∷ steps (bytes "a,b cd e") 2
    ∷ steps (bytes "a,b cd e") 7
    -- a place beyond the only word
    ∷ steps (bytes "ab") 3
    -- a number by the base 16, one of eight digits, the last digits of one, a letter taken as a digit
    ∷ reads (bytes "12 7") 18
    ∷ reads (bytes "12345678") 12345678
    ∷ reads (bytes "12345678") 2345678
    ∷ reads (bytes "12a") 130
    -- the second digit of a byte counted 16 times, or taken again as the next byte's first
    ∷ fills (bytes "a10b") 2 (26 ∷ 176 ∷ 9 ∷ [])
    ∷ fills (bytes "a10b") 3 (161 ∷ 16 ∷ 11 ∷ [])
    -- nothing written, what lies beyond changed, an output made shorter, another count
    ∷ fills (bytes "a10b") 2 lent
    ∷ fills (bytes "a10b") 2 (161 ∷ 11 ∷ 0 ∷ [])
    ∷ fills (bytes "a10b") 2 (161 ∷ 11 ∷ [])
    ∷ fills (bytes "a10b") 4 (161 ∷ 11 ∷ 9 ∷ [])
    -- more bytes than fit
    ∷ fills (bytes "a10b0c0d") 4 (161 ∷ 11 ∷ 12 ∷ 13 ∷ [])
    ∷ []
