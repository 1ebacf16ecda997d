-- Records that stand one behind the other, by their lengths.
-- A helper of code and proofs: no public promise rests on this file.
use Rattle.std.specs.Prelude.{Bool, ◌&&◌, List, ℕ, zero, suc, leb, length, drop}
use Rattle.base.specs.Lists.{is_empty}
use Rattle.laws.specs.Places.{two_at}

-- the bytes are n records with room for a number each, and nothing else
unfoldable pub whole : ℕ → List ℕ → Bool
whole zero s = is_empty s
whole (suc n) s = leb 6 (two_at s 0) && (leb (two_at s 0) (length s) && whole n (drop (two_at s 0) s))
