-- What is drawn right by an edition is so by one whose rows may have more lines, and whose lines more bytes.
-- [02, R-1] [02, R-9]
use mathlib.Core.Path.{◌≡◌, refl, sym, ◌∙◌}
use mathlib.Core.Bool.{Bool, true, false, ◌&&◌, not}
use mathlib.Core.List.{List, [], ◌∷◌, map}
use Prim.Native.Nat.{ℕ, ◌≤◌}
use native.Mathlib.Omega.{arith}
use lib.Dec.{leb, eqb}
use lib.ListN.{length, length-map}
use borrow.Author.Tests.{leb-true, le-leb, eqb-true, eq-eqb}
use Rattle.base.specs.Lists.{all, is_empty, between, sum}
use Rattle.base.proofs.Lists.{and_left, and_right, and_both, all_weaken, not_both}
use Rattle.base.proofs.Breaks.{all_cons}
use Rattle.rules.specs.Names.{is_label}
use Rattle.rules.specs.Within.{is_row_width}
use Rattle.rules.specs.Limits.{row_lines_most}
use Rattle.rules.specs.Editions.{Edition, one_line}
use Rattle.rules.specs.Rows.{Row, bit_row, long_row, bar_line, row_lines, are_fitted, is_drawn_row, is_labelled}
use Rattle.rules.specs.Frames.{Frame, is_line, is_brief_in, is_brief, is_drawn_in, is_drawn, FrameOfIn}
use Rattle.rules.specs.Refusals.{Plain, BeginsIn, RightLinesIn, RefusesIn, line, wrong_line}
use Rattle.rules.specs.Answers.{refused}

row_more : (m n w : ℕ) → m ≤ n → (r : Row) → is_drawn_row m w r ≡ true → is_drawn_row n w r ≡ true
row_more m n w le (long_row bits s) h = h
row_more m n w le (bit_row bits lines) h =
    let a = eqb (sum (λ n. n) bits) w in
    let c = all (are_fitted bits) lines in
    let x = and_right a (between 1 (length lines) m && c) h in
    let y = and_left (between 1 (length lines) m) c x in
    let most = leb-true (length lines) m (and_right (leb 1 (length lines)) (leb (length lines) m) y) in
    and_both a (between 1 (length lines) n && c) (and_left a (between 1 (length lines) m && c) h)
    (and_both (between 1 (length lines) n) c
    (and_both (leb 1 (length lines)) (leb (length lines) n) (and_left (leb 1 (length lines)) (leb (length lines) m) y)
    (le-leb (length lines) n (omega (arith, le, most))))
    (and_right (between 1 (length lines) m) c x))

-- ── rows of one line ──

abbrev pub is_one_line : Row → Bool
is_one_line r = eqb (length (row_lines r)) 1

-- with one line, a row is drawn where rows have no more
pub row_one : (m w : ℕ) (r : Row) → is_drawn_row m w r ≡ true → is_one_line r ≡ true → is_drawn_row 1 w r ≡ true
unfolding row_lines
row_one m w (long_row bits s) h e = h
row_one m w (bit_row bits lines) h e =
    let n : length lines ≡ 1 = sym (length-map lines bar_line) ∙ eqb-true (length (map bar_line lines)) 1 e in
    let a = eqb (sum (λ n. n) bits) w in
    let c = all (are_fitted bits) lines in
    and_both a (between 1 (length lines) 1 && c) (and_left a (between 1 (length lines) m && c) h)
    (and_both (between 1 (length lines) 1) c
    (and_both (leb 1 (length lines)) (leb (length lines) 1) (le-leb 1 (length lines) (omega (arith, n)))
    (le-leb (length lines) 1 (omega (arith, n))))
    (and_right (between 1 (length lines) m) c (and_right a (between 1 (length lines) m && c) h)))

-- and it has one there
pub one_row : (w : ℕ) (r : Row) → is_drawn_row 1 w r ≡ true → is_one_line r ≡ true
unfolding row_lines
one_row w (long_row bits s) h = refl
one_row w (bit_row bits lines) h =
    let a = eqb (sum (λ n. n) bits) w in
    let c = all (are_fitted bits) lines in
    let y = and_left (between 1 (length lines) 1) c (and_right a (between 1 (length lines) 1 && c) h) in
    let lo = leb-true 1 (length lines) (and_left (leb 1 (length lines)) (leb (length lines) 1) y) in
    let hi = leb-true (length lines) 1 (and_right (leb 1 (length lines)) (leb (length lines) 1) y) in
    eq-eqb (length (map bar_line lines)) 1 (length-map lines bar_line ∙ (omega (arith, lo, hi)))

-- ── frames ──

fourth_more : (a b c x y d : Bool) → (x ≡ true → y ≡ true) → (a && (b && (c && (x && d)))) ≡ true
    → (a && (b && (c && (y && d)))) ≡ true
fourth_more true true true true y d f h = rw (f refl) h
fourth_more true true true false y d f h = absurd (not_both false h refl)
fourth_more true true false x y d f h = absurd (not_both false h refl)
fourth_more true false c x y d f h = absurd (not_both false h refl)
fourth_more false b c x y d f h = absurd (not_both false h refl)

-- a frame whose rows have one line is drawn where rows have no more
all_one : (m w : ℕ) (rows : List Row) → all is_one_line rows ≡ true → all (is_drawn_row m w) rows ≡ true
    → all (is_drawn_row 1 w) rows ≡ true
unfolding all
all_one m w [] a h = refl
all_one m w (r ∷ rows) a h =
    let x = all_cons is_one_line r rows a in
    let y = all_cons (is_drawn_row m w) r rows h in
    and_both (is_drawn_row 1 w r) (all (is_drawn_row 1 w) rows) (row_one m w r y.0 x.0)
    (all_one m w rows x.1 y.1)

pub drawn_one : (f : Frame) → all is_one_line f.rows ≡ true → is_drawn f ≡ true → is_drawn_in one_line f ≡ true
unfolding is_drawn_in
drawn_one f a h =
    fourth_more (is_label f.name) (is_row_width f.row_width) (not (is_empty f.rows))
    (all (is_drawn_row row_lines_most f.row_width) f.rows) (all (is_drawn_row 1 f.row_width) f.rows)
    (not (is_empty f.lines) && (all is_line f.lines && all is_brief f.lines))
    (all_one row_lines_most f.row_width f.rows a) h

-- and only such a one
fourth_of : (a b c x d : Bool) → (a && (b && (c && (x && d)))) ≡ true → x ≡ true
fourth_of a b c x d h =
    and_left x d (and_right c (x && d) (and_right b (c && (x && d)) (and_right a (b && (c && (x && d))) h)))

pub one_drawn : (f : Frame) → is_drawn_in one_line f ≡ true → all is_one_line f.rows ≡ true
unfolding is_drawn_in
one_drawn f h =
    all_weaken (is_drawn_row 1 f.row_width) is_one_line (one_row f.row_width) f.rows
    (fourth_of (is_label f.name) (is_row_width f.row_width) (not (is_empty f.rows))
    (all (is_drawn_row 1 f.row_width) f.rows)
    (not (is_empty f.lines) && (all is_line f.lines && all is_brief f.lines)) h)

-- ── between editions ──

-- b draws what a draws
pub record Draws (a b : Edition) : Type 0 where
  pub rows : a.row_lines ≤ b.row_lines
  pub lines : a.line_bytes ≤ b.line_bytes

last_more : (a b c d e x y : Bool) → (x ≡ true → y ≡ true) → (a && (b && (c && (d && (e && x))))) ≡ true
    → (a && (b && (c && (d && (e && y))))) ≡ true
last_more true true true true true x y f h = f h
last_more true true true true false x y f h = h
last_more true true true false e x y f h = h
last_more true true false d e x y f h = h
last_more true false c d e x y f h = h
last_more false b c d e x y f h = h

lines_more : (a b : Edition) → a.line_bytes ≤ b.line_bytes → (ls : List (List ℕ))
    → (all is_line ls && all (is_brief_in a) ls) ≡ true → (all is_line ls && all (is_brief_in b) ls) ≡ true
lines_more a b le ls h =
    and_both (all is_line ls) (all (is_brief_in b) ls) (and_left (all is_line ls) (all (is_brief_in a) ls) h)
    (all_weaken (is_brief_in a) (is_brief_in b) weaker ls (and_right (all is_line ls) (all (is_brief_in a) ls) h))
  where
    weaker : (l : List ℕ) → is_brief_in a l ≡ true → is_brief_in b l ≡ true
    weaker l e = le-leb (length l) b.line_bytes (let n = leb-true (length l) a.line_bytes e in omega (arith, n, le))

module _ (a b : Edition) (more : Draws a b) where
  pub drawn_more : (f : Frame) → is_drawn_in a f ≡ true → is_drawn_in b f ≡ true
  unfolding is_drawn_in
  drawn_more f h =
      let w = f.row_width in
      let n = is_label f.name in
      let c = not (is_empty f.rows) in
      let e = not (is_empty f.lines) in
      last_more n (is_row_width w) c (all (is_drawn_row b.row_lines w) f.rows) e
      (all is_line f.lines && all (is_brief_in a) f.lines) (all is_line f.lines && all (is_brief_in b) f.lines)
      (lines_more a b more.lines f.lines)
      (fourth_more n (is_row_width w) c (all (is_drawn_row a.row_lines w) f.rows)
      (all (is_drawn_row b.row_lines w) f.rows) (e && (all is_line f.lines && all (is_brief_in a) f.lines))
      (λ k. all_weaken (is_drawn_row a.row_lines w) (is_drawn_row b.row_lines w)
      (row_more a.row_lines b.row_lines w more.rows) f.rows k) h)

  pub frame_of_more : (text : List ℕ) (f : Frame) → FrameOfIn a text f → FrameOfIn b text f
  frame_of_more text f h = record {
    is_framed = and_both (is_drawn_in b f) (all is_labelled f.rows)
        (drawn_more f (and_left (is_drawn_in a f) (all is_labelled f.rows) h.is_framed))
        (and_right (is_drawn_in a f) (all is_labelled f.rows) h.is_framed);
    is_text = h.is_text;
  }

  -- of the same frame
  abbrev pub begins_more : (text : List ℕ) (k : ℕ) → BeginsIn a text k → BeginsIn b text k
  begins_more text k h = record {
    frame = h.frame;
    drawn = drawn_more h.frame h.drawn;
    behind = h.behind;
    is_text = h.is_text;
  }

-- where both draw the same, the same line is wrong
pub lines_like : (a b : Edition) → Draws a b → Draws b a → (text : List ℕ) (k : ℕ)
    → Plain text → ((f : Frame) → FrameOfIn a text f → ⊥) → (r : RightLinesIn a text k)
    → RefusesIn b text (refused 3 (wrong_line k r.begins.frame))
lines_like a b forth back text k p q r =
    line p (λ f h. q f (frame_of_more b a back text f h)) (record {
      there = r.there;
      begins = begins_more a b forth text k r.begins;
      most = λ j lt le h. r.most j lt le (begins_more b a back text j h);
    })
