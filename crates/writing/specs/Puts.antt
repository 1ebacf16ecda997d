-- A text put at a place of a buffer: where it fits it is written, and what lies beyond stays; else nothing changes.
use Rattle.std.specs.Prelude.{cond, List, ◌++◌, ℕ, ◌+◌, leb, length, take, drop}

-- the place behind what was put, and what the buffer holds then
pub record Placed : Type 0 where
  pub next : ℕ
  pub buffer : List ℕ

abbrev pub placed : ℕ → List ℕ → Placed
placed next buffer = record { next = next; buffer = buffer }

-- beyond the end of every buffer
abbrev pub nowhere : ℕ
nowhere = 18_446_744_073_709_551_615

unfoldable pub put : List ℕ → ℕ → List ℕ → Placed
put before at w =
    cond (leb (at + length w) (length before))
    (placed (at + length w) ((take at before ++ w) ++ drop (at + length w) before))
    (placed nowhere before)
