-- Quoted text as a list of bytes, and a number in decimal.
use Rattle.std.specs.Prelude.{cond, List, ◌++◌, ℕ, zero, suc, ◌+◌, ◌/◌, ◌%◌, ltb}
use Prim.Native.String.{String, [], ◌∷◌}
use Prim.Native.Char.{code}

-- the bytes of a text of ASCII characters
abbrev pub bytes : String → List ℕ
bytes [] = List.[]
bytes (c ∷ s) = List.◌∷◌ (code c) (bytes s)

-- one digit
abbrev pub digit : ℕ → List ℕ
digit d = List.◌∷◌ (48 + d) List.[]

-- n in decimal without leading zeros, for n of at most `places` digits
unfoldable pub digits : ℕ → ℕ → List ℕ
digits zero n = List.[]
digits (suc places) n = cond (ltb n 10) (digit n) (digits places (n / 10) ++ digit (n % 10))

-- 10 digits are enough for each number that 01 writes
abbrev pub decimal : ℕ → List ℕ
decimal n = digits 10 n
