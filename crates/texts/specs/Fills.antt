-- Bytes set to one value: mirrors the code, no public promise rests on it.
use Rattle.std.specs.Prelude.{List, ◌++◌, ℕ, ◌-◌, take, drop, replicate}

-- those from a place to another are b
unfoldable pub filled : ℕ → ℕ → ℕ → List ℕ → List ℕ
filled from to b s = take from s ++ (replicate (to - from) b ++ drop to s)

unfoldable pub zeros : ℕ → List ℕ
zeros n = replicate n 0

-- n bytes b between zeros
unfoldable pub zeros_around : ℕ → ℕ → ℕ → ℕ → List ℕ
zeros_around before n b behind = replicate before 0 ++ (replicate n b ++ replicate behind 0)
