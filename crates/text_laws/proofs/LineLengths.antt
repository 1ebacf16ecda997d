-- How long the lines of a frame are: none but a field line is near the limit. [02, R-9]
use mathlib.Core.Path.{◌≡◌, refl, ap}
use mathlib.Core.Bool.{Bool, true, false}
use mathlib.Core.List.{List, [], ◌∷◌, ◌++◌, map}
use Prim.Native.Nat.{ℕ, zero, suc, ◌+◌, ◌*◌, ◌≤◌}
use native.Mathlib.Omega.{arith}
use lib.Dec.{leb, eqb}
use lib.ListN.{length, length-append}
use borrow.Author.Tests.{le-leb, leb-true, eqb-true, eq-eqb}
use Rattle.base.specs.Bytes.{bytes}
use Rattle.base.specs.Lists.{all, joined, sum, tabulate}
use Rattle.base.proofs.Lists.{and_left, and_right, and_both, all_append, all_weaken, not_both}
use Rattle.base.proofs.Joined.{all_joined}
use Rattle.rules.specs.Limits.{line_most, label_most, row_lines_most}
use Rattle.rules.specs.Names.{is_label}
use Rattle.rules.specs.Within.{is_row_width}
use Rattle.rules.specs.Rows.{Row, bit_row, long_row, bar_line, row_lines, is_fitted, are_fitted, is_drawn_row}
use Rattle.rules.specs.Frames.{tens, units, border, article, Frame, is_brief}
use Rattle.text_laws.specs.FrameReader.{closing}
use Rattle.text_laws.proofs.RowReader.{drawn_sum, drawn_fitted}
use Rattle.text_laws.proofs.FrameStates.{opening_line, pairs, width_cases}
use Rattle.text_laws.proofs.FrameRun.{Kept, frame_lines, frame_lines_are}

-- ── rulers and borders ──

length_tabulate : (g : ℕ → ℕ) (i n : ℕ) → length (tabulate g i n) ≡ n
unfolding tabulate
length_tabulate g i zero = refl
length_tabulate g i (suc n) = ap suc (length_tabulate g (suc i) n)

pub tens_lengths : (length (tens 8) ≡ 2) × (length (tens 16) ≡ 22) × (length (tens 32) ≡ 62)
unfolding tens tabulate
tens_lengths = (refl, refl, refl)

pub units_length : (w : ℕ) → length (units w) ≡ 2 * w
unfolding units
units_length w = length_tabulate _ 0 (2 * w)

pub border_length : (w : ℕ) → length (border w) ≡ 2 * w + 1
unfolding border
border_length w = length_tabulate _ 0 (2 * w + 1)

-- ── rows ──

strips_length : (bits : List ℕ) (ss : List (List ℕ)) → are_fitted bits ss ≡ true
    → length (joined (λ s. s ++ bytes "|") ss) ≡ 2 * sum (λ n. n) bits
unfolding are_fitted joined sum
strips_length [] [] h = refl
strips_length [] (s ∷ ss) h = absurd (not_both false h refl)
strips_length (n ∷ bits) [] h = absurd (not_both false h refl)
strips_length (n ∷ bits) (s ∷ ss) h =
    let f = and_left (is_fitted 124 n s) (are_fitted bits ss) h in
    let e = eqb-true (length s + 1) (2 * n) (and_left (eqb (length s + 1) (2 * n)) _ f) in
    let a = length-append (s ++ bytes "|") (joined (λ s. s ++ bytes "|") ss) in
    let b = length-append s (bytes "|") in
    let i = strips_length bits ss (and_right (is_fitted 124 n s) (are_fitted bits ss) h) in
    omega (arith, e, a, b, i)

-- each line of a drawn row
abbrev pub is_wide : ℕ → List ℕ → Bool
is_wide w l = eqb (length l) (2 * w + 1)

pub row_wide : (w : ℕ) (r : Row) → is_drawn_row row_lines_most w r ≡ true → all (is_wide w) (row_lines r) ≡ true
unfolding row_lines all
row_wide w (bit_row bits lines₀) h = go lines₀ (drawn_fitted w bits lines₀ h)
  where
    go : (lines : List (List (List ℕ))) → all (are_fitted bits) lines ≡ true
        → all (is_wide w) (map bar_line lines) ≡ true
    go [] k = refl
    go (ss ∷ lines) k =
        let n = strips_length bits ss (and_left (are_fitted bits ss) (all (are_fitted bits) lines) k) in
        let e = eqb-true (sum (λ n. n) bits) w (drawn_sum w bits lines₀ h) in
        and_both (is_wide w (bar_line ss)) (all (is_wide w) (map bar_line lines))
        (eq-eqb (length (bar_line ss)) (2 * w + 1) (omega (arith, n, e)))
        (go lines (and_right (are_fitted bits ss) (all (are_fitted bits) lines) k))
row_wide w (long_row n s) h =
    let e = eqb-true n w (and_left (eqb n w) (is_fitted 58 n s) h) in
    let f = and_right (eqb n w) (is_fitted 58 n s) h in
    let g = eqb-true (length s + 1) (2 * n) (and_left (eqb (length s + 1) (2 * n)) _ f) in
    let a = length-append s (bytes ":") in
    and_both (is_wide w (58 ∷ (s ++ bytes ":"))) true
    (eq-eqb (length (58 ∷ (s ++ bytes ":"))) (2 * w + 1) (omega (arith, e, g, a))) refl

-- ── all lines of a frame ──

width_most : (w : ℕ) → is_row_width w ≡ true → w ≤ 32
width_most w h = width_cases (λ v. v ≤ 32) (omega arith) (omega arith) (omega arith) w h

brief : (l : List ℕ) → length l ≤ line_most → is_brief l ≡ true
brief l le = le-leb (length l) line_most le

tens_brief : (w : ℕ) → is_row_width w ≡ true → is_brief (tens w) ≡ true
tens_brief w h =
    let n = tens_lengths in
    width_cases (λ v. is_brief (tens v) ≡ true) (brief (tens 8) (omega (arith, n.0)))
    (brief (tens 16) (omega (arith, n.1))) (brief (tens 32) (omega (arith, n.2))) w h

opening_brief : (an : Bool) (n : List ℕ) → is_label n ≡ true → is_brief (opening_line an n) ≡ true
unfolding is_label closing
opening_brief an n h =
    let short = leb-true (length n) label_most (and_left (leb (length n) label_most) _ h) in
    let a = length-append (article an) (n ++ closing) in
    let b = length-append n closing in
    let c = first an in
    brief (opening_line an n) (omega (arith, short, a, b, c))
  where
    first : (x : Bool) → length (article x) ≤ 3
    first true = omega arith
    first false = omega arith

pair_brief : (w : ℕ) → w ≤ 32 → (r : Row) → is_drawn_row row_lines_most w r ≡ true
    → all is_brief (row_lines r ++ (border w ∷ [])) ≡ true
unfolding all
pair_brief w le r h =
    all_append is_brief (row_lines r) (border w ∷ [])
    (all_weaken (is_wide w) is_brief
    (λ l e. brief l (let n = eqb-true (length l) (2 * w + 1) e in omega (arith, n, le))) (row_lines r) (row_wide w r h))
    (rw (brief (border w) (let n = border_length w in omega (arith, n, le))) refl)

-- of a drawn frame all are short enough, those that are not asked too
pub lines_are_brief : (f : Frame) → Kept f → all is_brief (frame_lines f) ≡ true
unfolding all
lines_are_brief f k =
    let w = f.row_width in
    let le = width_most w k.top.1 in
    let last : List (List ℕ) = [] ∷ bytes "where:" ∷ [] ∷ f.lines in
    let p : all is_brief (pairs w f.rows) ≡ true
    = all_joined (λ q. row_lines q ++ (border w ∷ [])) (is_drawn_row row_lines_most w) is_brief (pair_brief w le)
    f.rows k.rows in
    let q : all is_brief (pairs w f.rows ++ last) ≡ true = all_append is_brief (pairs w f.rows) last p k.brief in
    rw (frame_lines_are f) (rw (
      opening_brief f.an f.name k.top.0,
      tens_brief w k.top.1,
      brief (units w) (let n = units_length w in omega (arith, n, le)),
      brief (border w) (let n = border_length w in omega (arith, n, le)),
    ) q)
