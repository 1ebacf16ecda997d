-- What is written of all lines is the table, and its length.
use mathlib.Core.Path.{◌≡◌}
use mathlib.Core.List.{List, ◌++◌}
use Prim.Native.Nat.{ℕ, ◌+◌}
use native.Mathlib.Omega.{arith}
use lib.ListN.{length, length-append}
use Rattle.writing.specs.Writes.{Writes}
use Rattle.rules.specs.Trees.{le2}
use Rattle.rules.specs.Stored.{counted, record_of}
use Rattle.texts.proofs.RecordSizes.{two_length, counted_length}

-- ── sizes of n lines ──

pub head_length : (w n : ℕ) (name : List ℕ) → 4 + length (le2 w ++ (le2 n ++ counted name)) ≡ 10 + length name
head_length w n name =
    omega (
      arith,
      length-append (le2 w) (le2 n ++ counted name),
      length-append (le2 n) (counted name),
      two_length w,
      two_length n,
      counted_length name,
    )

pub head_end : {a b : List ℕ} {at next : ℕ} (w n : ℕ) (name : List ℕ)
    → Writes a at (record_of 1 (le2 w ++ (le2 n ++ counted name))) b next → next ≡ at + (10 + length name)
head_end w n name h =
    let body = le2 w ++ (le2 n ++ counted name) in
    omega (
      arith,
      h.end,
      length-append (le2 (4 + length body)) (le2 1 ++ body),
      length-append (le2 1) body,
      two_length (4 + length body),
      two_length 1,
      head_length w n name,
    )

pub head_writes : {a b : List ℕ} {at next : ℕ} (w n : ℕ) (name : List ℕ)
    → Writes a at (le2 (10 + length name) ++ (le2 1 ++ (le2 w ++ (le2 n ++ counted name)))) b next
    → Writes a at (record_of 1 (le2 w ++ (le2 n ++ counted name))) b next
head_writes w n name h = rw (head_length w n name) h
