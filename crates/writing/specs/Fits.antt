-- What texts written one behind the other leave in a buffer that may be too small.
-- No public promise rests on this file.
use Rattle.std.specs.Prelude.{◌≡◌, List, ℕ, ◌+◌, ◌≤◌, ◌<◌, length}
use Rattle.writing.specs.Writes.{Writes}

-- w was written from at up to next; or it does not fit, and next lies beyond the end, as each later place then does
pub record Fits (before : List ℕ) (at : ℕ) (w : List ℕ) (after : List ℕ) (next : ℕ) : Type 0 where
  pub kept : length after ≡ length before
  pub inside : at + length w ≤ length before → Writes before at w after next
  pub over : length before < at + length w → length before < next
