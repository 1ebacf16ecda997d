-- A line that is wrong is at most the one behind the right lines.
use mathlib.Core.Path.{◌≡◌, refl}
use mathlib.Core.Bool.{Bool, true, false, cond}
use mathlib.Core.List.{List, [], ◌∷◌}
use mathlib.Core.Option.{some}
use Prim.Native.Nat.{ℕ, suc, ◌+◌, ◌-◌, ◌≤◌, ◌<◌}
use native.Mathlib.Omega.{arith}
use lib.Dec.{ltb}
use lib.ListN.{length, length-map, length-take, take}
use borrow.Author.Tests.{ltb-true}
use Rattle.rules.specs.Rows.{Row, bit_row, long_row, bar_line, row_lines, is_labelled}
use Rattle.rules.specs.Frames.{Frame}
use Rattle.rules.specs.Refusals.{cut_row, rows_within, unlabelled_line, or_behind, wrong_line}

-- the first lines of a row are no more than asked for, and no more than there are
cut_low : (n : ℕ) (r : Row) → 0 < n
    → (length (row_lines (cut_row n r)) ≤ n) × (length (row_lines (cut_row n r)) ≤ length (row_lines r))
unfolding row_lines
cut_low n (bit_row bits lines) lt =
    let a = length-map (take n lines) bar_line in
    let b = length-map lines bar_line in
    let c = length-take n lines in
    (omega (arith, a, c), omega (arith, a, b, c))
cut_low n (long_row bits s) lt = (omega (arith, lt), omega arith)

rows_low : (k n m : ℕ) (rows : List Row) → m ≤ n → or_behind k (unlabelled_line m (rows_within k n rows)) ≤ suc k
unfolding rows_within unlabelled_line
rows_low k n m [] le = omega arith
rows_low k n m (r ∷ rows) le = go (ltb n k) refl (λ i. rows_low k (n + suc (length (row_lines r))) i rows)
  where
    row : Row
    row = cut_row (k - n) r

    go : (b : Bool) → ltb n k ≡ b
        → ((m : ℕ) → m ≤ n + suc (length (row_lines r))
        → or_behind k (unlabelled_line m (rows_within k (n + suc (length (row_lines r))) rows)) ≤ suc k)
        → or_behind k (unlabelled_line m
        (cond b (row ∷ rows_within k (n + suc (length (row_lines r))) rows) [])) ≤ suc k
    go false e f = omega arith
    go true e f = on (is_labelled row)
      where
        low : (length (row_lines row) ≤ k - n) × (length (row_lines row) ≤ length (row_lines r))
        low = cut_low (k - n) r (let lt = ltb-true n k e in omega (arith, lt))

        on : (b : Bool) → or_behind k (cond b
            (unlabelled_line (m + suc (length (row_lines row))) (rows_within k (n + suc (length (row_lines r))) rows))
            (some (m + length (row_lines row)))) ≤ suc k
        on true = f (m + suc (length (row_lines row))) (omega (arith, le, low.1))
        on false = let lt = ltb-true n k e in omega (arith, le, lt, low.0)

pub wrong_low : (k : ℕ) (f : Frame) → wrong_line k f ≤ suc k
wrong_low k f = rows_low k 5 5 f.rows (omega arith)
