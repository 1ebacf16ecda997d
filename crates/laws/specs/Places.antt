-- Where bytes stand in a list, and the little-endian numbers that stand there.
-- A helper of code and proofs: no public promise rests on this file.
use Rattle.std.specs.Prelude.{◌≡◌, List, ◌++◌, ℕ, ◌+◌, ◌*◌, ◌<◌, length, drop, get_or}

-- the bytes w stand in s from at up to next
pub record Stands (s : List ℕ) (at : ℕ) (w : List ℕ) (next : ℕ) : Type 0 where
  pub text : drop at s ≡ w ++ drop next s
  pub end : next ≡ at + length w

-- each element is a byte
abbrev pub IsBytes : List ℕ → Type 0
IsBytes s = (i : ℕ) → get_or s i 0 < 256

-- the number in two bytes from a place on, and in four, the least first
unfoldable pub two_at : List ℕ → ℕ → ℕ
two_at s at = get_or s at 0 + 256 * get_or s (at + 1) 0

unfoldable pub four_at : List ℕ → ℕ → ℕ
four_at s at = two_at s at + 65536 * two_at s (at + 2)
