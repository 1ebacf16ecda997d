-- What writing into a buffer leaves in it.
-- A helper of code and proofs: no public promise rests on this file.
use Rattle.std.specs.Prelude.{◌≡◌, List, ◌++◌, ℕ, ◌+◌, length, take, drop}

-- w was written at a place behind what was there, up to next; what lies beyond stays
pub record Writes (before : List ℕ) (at : ℕ) (w : List ℕ) (after : List ℕ) (next : ℕ) : Type 0 where
  pub text : take next after ≡ take at before ++ w
  pub end : next ≡ at + length w
  pub kept : length after ≡ length before
  pub beyond : drop next after ≡ drop next before
