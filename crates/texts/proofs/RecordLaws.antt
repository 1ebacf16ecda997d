-- What is written of a line is its record.
use mathlib.Core.Path.{◌≡◌}
use mathlib.Core.List.{List}
use Prim.Native.Nat.{ℕ, ◌+◌, ◌≤◌}
use native.Mathlib.Omega.{arith}
use lib.ListN.{length}
use Rattle.writing.specs.Writes.{Writes}
use Rattle.writing.specs.Puts.{placed, put}
use Rattle.writing.proofs.PutLaws.{put_writes}
use Rattle.rules.specs.Trees.{le2}
use Rattle.rules.specs.Stored.{counted}
use Rattle.texts.proofs.RecordSizes.{two_length, counted_length}

-- ── two bytes, and counted ones ──

module _ {a b : List ℕ} {at next : ℕ} where
  -- what was put where there is room
  pub two_writes : (n : ℕ) → at + 2 ≤ length a → placed next b ≡ put a at (le2 n) → Writes a at (le2 n) b next
  two_writes n h e = put_writes (omega (arith, two_length n)) e

  pub counted_writes : (s : List ℕ) → at + (2 + length s) ≤ length a → placed next b ≡ put a at (counted s)
      → Writes a at (counted s) b next
  counted_writes s h e = put_writes (omega (arith, counted_length s)) e

  pub two_end : (n : ℕ) → Writes a at (le2 n) b next → next ≡ at + 2
  two_end n w = omega (arith, w.end, two_length n)

  pub counted_end : (s : List ℕ) → Writes a at (counted s) b next → next ≡ at + (2 + length s)
  counted_end s w = omega (arith, w.end, counted_length s)
