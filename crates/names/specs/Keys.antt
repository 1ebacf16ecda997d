-- Names that are new, by the remainders of their numbers.
-- This mirrors the code of src/repeats.rt: no public promise rests on this file.
use Rattle.std.specs.Prelude.{◌≡◌, ◌<◌, length, Bool, cond, ◌&&◌, ◌||◌, List, [], ◌∷◌, ℕ, ◌+◌, ◌*◌, ◌%◌, eqb, get_or}
use Rattle.rules.specs.Limits.{short_most}
use Rattle.names.specs.Repeats.{remainders, name_number}

-- the bytes before the last seven no longer count
abbrev pub key_part : ℕ
key_part = 72057594037927936

unfoldable pub key_from : ℕ → List ℕ → ℕ
key_from key [] = key
key_from key (b ∷ w) = key_from (key % key_part * 256 + b) w

-- the number that the last 8 bytes make, the first of them the most significant: of a held name that of all its bytes
abbrev pub word_key : List ℕ → ℕ
word_key w = key_from 0 w

-- 8 bytes
abbrev pub IsHeld : List ℕ → Type 0
IsHeld name = (length name ≡ short_most) × ((i : ℕ) → get_or name i 0 < 256)

-- a held name is none, or no name with a key of its remainder was seen
unfoldable pub is_new : List ℕ → List ℕ → Bool
is_new seen name = eqb (get_or name 0 0) 0 || eqb (get_or seen (name_number name % remainders) 0) 0

-- where a search for what shares a name with j begins: at j where both its names are new
unfoldable pub start_of_both : List ℕ → List ℕ → List ℕ → ℕ → ℕ
start_of_both seen short word j = cond (is_new seen short && is_new seen word) j 0
