-- A line over the limit is wrong at every stage: no line of a frame but a field line can be so long. [02, R-9]
use mathlib.Core.Path.{◌≡◌, refl, ap, sym, ◌∙◌}
use mathlib.Core.Bool.{Bool, true, false, cond, ◌&&◌}
use mathlib.Core.List.{List, [], ◌∷◌, ◌++◌}
use mathlib.Core.Option.{Option, none, some}
use Prim.Native.Nat.{ℕ, ◌+◌, ◌*◌, ◌-◌, ◌<◌}
use native.Mathlib.Omega.{arith}
use lib.ListN.{length, length-append, length-drop, take, drop, take-append-drop}
use borrow.Author.Tests.{lt-leb, eqb-true}
use Rattle.base.specs.Bytes.{bytes}
use Rattle.base.specs.Lists.{all, same}
use Rattle.base.proofs.Lists.{and_left, and_right, all_back, same_true, fails}
use Rattle.base.proofs.Breaks.{all_cons}
use Rattle.rules.specs.Limits.{line_most}
use Rattle.rules.specs.Names.{is_label}
use Rattle.rules.specs.Rows.{Row, row_lines, is_labelled}
use Rattle.rules.specs.Frames.{tens, units, border}
use Rattle.text_laws.specs.FrameReader.{closing, read_name, read_tens, read_row, more_row}
use Rattle.text_laws.specs.Fold.{Stage, opening, blank, tens_ruler, units_ruler, top_border, first_row, in_row}
use Rattle.text_laws.specs.Fold.{row_or_blank, where_line, last_blank, first_field, field_line, lost, Found}
use Rattle.text_laws.specs.Fold.{onward, wrong, expect, opening_name, with_name, with_width, with_row, with_more}
use Rattle.text_laws.specs.Fold.{lined_at, lined, is_lost, cut}
use Rattle.text_laws.specs.Steady.{Small}
use Rattle.text_laws.proofs.RowReader.{Reads, row_sound, more_sound}
use Rattle.text_laws.proofs.LineLengths.{tens_lengths, units_length, border_length, is_wide, row_wide}
use Rattle.text_laws.proofs.Bounds.{label_short}

-- ── lines of another length ──

not_same : (l w : List ℕ) → length w < length l → same l w ≡ false
not_same l w lt = fails (same l w) (λ e. let q : length l ≡ length w = ap length (same_true l w e) in omega arith)

expect_long : (w : List ℕ) (s : Stage) (f : Found) (l : List ℕ) → length w < length l → expect w s f l ≡ wrong f
expect_long w s f l lt = ap (λ (b : Bool). cond b (onward s f) (wrong f)) (not_same l w lt)

-- ── the opening line ──

name_long : (s : List ℕ) → 100 < length s → read_name s ≡ none
unfolding read_name
name_long s lt = go (length s - length closing) refl
  where
    go : (n : ℕ) → length s - length closing ≡ n
        → cond (same (drop n s) closing && is_label (take n s)) (some (take n s)) none ≡ none
    go n e = ap (λ (b : Bool). cond b (some (take n s)) none) (fails (same (drop n s) closing && is_label (take n s))
        (λ h.
        let short = label_short (take n s) (and_right (same (drop n s) closing) (is_label (take n s)) h) in
        let q : length (drop n s) ≡ length closing =
        ap length (same_true (drop n s) closing (and_left (same (drop n s) closing) (is_label (take n s)) h)) in
        let z : length (take n s) + length (drop n s) ≡ length s =
        sym (length-append (take n s) (drop n s)) ∙ ap length (take-append-drop n s) in
        let c : length closing ≡ 25 = unfold closing in refl in
        omega (arith, short, q, z, c, lt)))

opening_long : (l : List ℕ) → line_most < length l → opening_name l ≡ none
unfolding opening_name
opening_long l lt = go (same (take 3 l) (bytes "An ")) (same (take 2 l) (bytes "A "))
  where
    go : (a b : Bool) → cond a (read_name (drop 3 l)) (cond b (read_name (drop 2 l)) none) ≡ none
    go true b = name_long (drop 3 l) (let n = length-drop 3 l in omega (arith, n, lt))
    go false true = name_long (drop 2 l) (let n = length-drop 2 l in omega (arith, n, lt))
    go false false = refl

tens_long : (l : List ℕ) → line_most < length l → read_tens l ≡ none
unfolding read_tens
tens_long l lt =
    let n = tens_lengths in
    rw (
      not_same l (tens 8) (omega (arith, n.0, lt)),
      not_same l (tens 16) (omega (arith, n.1, lt)),
      not_same l (tens 32) (omega (arith, n.2, lt)),
    )
    refl

-- ── rows ──

-- a longer one is no line of a row
no_row : (w : ℕ) (ls : List (List ℕ)) (l : List ℕ) → 2 * w + 1 < length l → (o : Option Row)
    → Reads w (ls ++ (l ∷ [])) o → o ≡ none
no_row w ls l lt none h = refl
no_row w ls l lt (some r) h =
    let k : all (is_wide w) (ls ++ (l ∷ [])) ≡ true = rw h.1 at (row_wide w r h.0) in
    let e = eqb-true (length l) (2 * w + 1) (all_cons (is_wide w) l [] (all_back (is_wide w) ls (l ∷ []) k)).0 in
    absurd (omega (arith, e, lt))

row_long : (w : ℕ) (l : List ℕ) → 2 * w + 1 < length l → read_row w l ≡ none
row_long w l lt = no_row w [] l lt (read_row w l) (row_sound w l)

more_long : (w : ℕ) (r : Row) (l : List ℕ) → 2 * w + 1 < length l → more_row w r l ≡ none
more_long w r l lt = no_row w (row_lines r) l lt (more_row w r l) (more_sound w r l)

long_more : (f : Found) (l : List ℕ) (o : Option Row) → 2 * f.width + 1 < length l → with_more f l o ≡ wrong f
long_more f l none lt = refl
long_more f l (some r) lt =
    let n = border_length f.width in
    rw (more_long f.width r l lt, not_same l (border f.width) (omega (arith, n, lt))) (go (is_labelled r))
  where
    go : (b : Bool) → cond b (wrong f) (wrong f) ≡ wrong f
    go true = refl
    go false = refl

-- ── every stage ──

long_at : (s : Stage) (f : Found) (l : List ℕ) → Small f → line_most < length l
    → lined_at s f l ≡ cond (is_lost s) f (wrong f)
unfolding lined_at
long_at opening f l h lt = ap (with_name f) (opening_long l lt)
long_at blank f l h lt = expect_long [] tens_ruler f l (omega arith)
long_at tens_ruler f l h lt = ap (with_width f) (tens_long l lt)
long_at units_ruler f l h lt =
    expect_long (units f.width) top_border f l
    (let n = units_length f.width in let w = h.width in omega (arith, n, w, lt))
long_at top_border f l h lt =
    expect_long (border f.width) first_row f l
    (let n = border_length f.width in let w = h.width in omega (arith, n, w, lt))
long_at first_row f l h lt =
    ap (with_row f) (row_long f.width l (let w = h.width in omega (arith, w, lt)))
long_at in_row f l h lt = long_more f l f.row (let w = h.width in omega (arith, w, lt))
long_at row_or_blank f [] h lt = absurd (omega arith)
long_at row_or_blank f (b ∷ l) h lt =
    ap (with_row f) (row_long f.width (b ∷ l) (let w = h.width in omega (arith, w, lt)))
long_at where_line f l h lt = expect_long (bytes "where:") last_blank f l (omega arith)
long_at last_blank f l h lt = expect_long [] first_field f l (omega arith)
long_at first_field f l h lt = rw (lt-leb (length l) line_most lt) refl
long_at field_line f l h lt = rw (lt-leb (length l) line_most lt) refl
long_at lost f l h lt = refl

-- a whole line that is too long is judged as one that was cut
pub long_line : (f : Found) (l : List ℕ) → Small f → line_most < length l → lined f l ≡ cut f
long_line f l h lt = long_at f.stage f l h lt
