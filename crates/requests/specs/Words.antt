-- The words of a request line, parted by spaces: places, numbers in decimal and bytes in hex. 01 has no rule for them:
-- these definitions follow the code of src/words.rt, and the promises of this crate alone rest on them.
use Rattle.std.specs.Prelude.{◌≡◌, cond, List, [], ◌∷◌, ◌++◌, ℕ, suc, ◌+◌, ◌-◌, ◌*◌, eqb, ltb, leb, length, take, drop}

-- how many bytes stand before the first b; all if there is none
unfoldable pub before : ℕ → List ℕ → ℕ
before b [] = 0
before b (c ∷ s) = cond (eqb c b) 0 (suc (before b s))

-- the place past the first space, or the end
unfoldable pub next_word : List ℕ → ℕ
next_word s = cond (ltb (before 32 s) (length s)) (before 32 s + 1) (before 32 s)

-- the value of a hex digit, 0 to 9 or a to f; 16 for any other byte
unfoldable pub digit_of : ℕ → ℕ
digit_of c = cond (ltb c 48) 16 (cond (leb c 57) (c - 48) (cond (ltb c 97) 16 (cond (leb c 102) (c - 97 + 10) 16)))

-- the number that n and the decimal digits in front of s make; a number of seven digits takes no more
unfoldable pub number_from : ℕ → List ℕ → ℕ
number_from n [] = n
number_from n (c ∷ s) =
    cond (ltb 9 (digit_of c)) n (cond (ltb 999999 n) n (number_from (10 * n + digit_of c) s))

-- the bytes that the pairs of hex digits in front of s make
unfoldable pub hex_bytes : List ℕ → List ℕ
hex_bytes [] = []
hex_bytes (h ∷ []) = []
hex_bytes (h ∷ l ∷ s) =
    cond (ltb 15 (digit_of h)) [] (cond (ltb 15 (digit_of l)) [] ((16 * digit_of h + digit_of l) ∷ hex_bytes s))

-- as many of these bytes as fit an output
unfoldable pub fitting : List ℕ → List ℕ → List ℕ
fitting s out = take (length out) (hex_bytes s)

-- they stand at the output's start, n of them, and what lies beyond is as it was
pub record Holds (s out : List ℕ) (n : ℕ) (out' : List ℕ) : Type 0 where
  pub count : n ≡ length (fitting s out)
  pub bytes : out' ≡ fitting s out ++ drop n out
