-- The bytes of a text that spells a description are allowed.
use mathlib.Core.Path.{◌≡◌, refl, subst}
use mathlib.Core.Bool.{Bool, true, false, cond, ◌||◌}
use mathlib.Core.List.{List, [], ◌∷◌, ◌++◌, map}
use Prim.Native.Nat.{ℕ, zero, suc, ◌+◌, ◌*◌, ◌-◌, ◌/◌, ◌%◌, ◌≤◌, ◌<◌}
use native.Mathlib.Omega.{arith}
use lib.Dec.{eqb}
use borrow.Author.Tests.{eqb-true}
use Rattle.base.specs.Bytes.{bytes}
use Rattle.base.specs.Lists.{all, joined, tabulate, Each}
use Rattle.base.proofs.Lists.{and_right, and_both, or_left, true_between, all_append, all_weaken}
use Rattle.base.proofs.Breaks.{or_true, all_cons}
use Rattle.rules.specs.Limits.{row_lines_most}
use Rattle.rules.specs.Names.{is_printable, is_allowed, is_label, is_short, line_feed}
use Rattle.rules.specs.Fields.{Field, Description}
use Rattle.rules.specs.Editions.{Edition, current}
use Rattle.rules.specs.Within.{is_row_width}
use Rattle.rules.specs.Lines.{SpellsField}
use Rattle.rules.specs.Rows.{Cell, cell_text, Row, bit_row, long_row, bar_line, row_lines, is_drawn_row, columns}
use Rattle.rules.specs.Rows.{is_labelled}
use Rattle.rules.specs.Frames.{tens_at, tens, units_at, units, border_at, border, is_drawn_in, Frame, article}
use Rattle.rules.specs.Frames.{head_lines}
use Rattle.rules.specs.Frames.{ended, frame_text, FrameOfIn}
use Rattle.rules.specs.Spelling.{SpellsIn, Spells, NameOf}
use Rattle.text_laws.proofs.NamedRules.{name_short}
use Rattle.text_laws.proofs.CellTexts.{cell_all, columns_all}
use Rattle.text_laws.proofs.RowReader.{drawn_fitted}
use Rattle.text_laws.proofs.Resolve.{frame_parts}
use Rattle.text_laws.proofs.AllowedLines.{printable, printable_both, label_is_printable, field_printable}
use Rattle.text_laws.proofs.FormedLines.{formed_lines}

-- ── rulers and borders ──

made_printable : (f : ℕ → ℕ) (n i : ℕ) → ((c : ℕ) → c < i + n → is_printable (f c) ≡ true)
    → printable (tabulate f i n) ≡ true
unfolding all tabulate
made_printable f zero i h = refl
made_printable f (suc n) i h =
    and_both (is_printable (f i)) (printable (tabulate f (suc i) n)) (h i (omega arith))
    (made_printable f n (suc i) (λ c lt. h c (omega arith)))

either_printable : (b : Bool) (x y : ℕ) → is_printable x ≡ true → is_printable y ≡ true
    → is_printable (cond b x y) ≡ true
either_printable true x y p q = p
either_printable false x y p q = q

space_printable : is_printable 32 ≡ true
unfolding is_printable
space_printable = refl

digit_printable : (d : ℕ) → d ≤ 9 → is_printable (48 + d) ≡ true
unfolding is_printable
digit_printable d le = true_between 0x20 (48 + d) 0x7E (omega arith) (omega arith)

tens_printable : (w : ℕ) → w ≤ 32 → printable (tens w) ≡ true
unfolding tens
tens_printable w le = made_printable tens_at (20 * ((w - 1) / 10) + 2) 0
    (λ c lt. either_printable (eqb (c % 20) 1) (48 + c / 20) 32
    (digit_printable (c / 20) (omega arith)) space_printable)

units_printable : (w : ℕ) → printable (units w) ≡ true
unfolding units
units_printable w = made_printable units_at (2 * w) 0
    (λ c lt. either_printable (eqb (c % 2) 0) 32 (48 + c / 2 % 10) space_printable
    (digit_printable (c / 2 % 10) (omega arith)))

border_printable : (w : ℕ) → printable (border w) ≡ true
unfolding border is_printable
border_printable w = made_printable border_at (2 * w + 1) 0 (λ c lt. either_printable (eqb (c % 2) 0) 43 45 refl refl)

row_width_most : (w : ℕ) → is_row_width w ≡ true → w ≤ 32
row_width_most w h = or_true (eqb w 8) (eqb w 16 || eqb w 32) (small 8 (omega arith))
    (or_true (eqb w 16) (eqb w 32) (small 16 (omega arith)) (small 32 (omega arith))) h
  where
    small : (n : ℕ) → n ≤ 32 → eqb w n ≡ true → w ≤ 32
    small n le e = let q : w ≡ n = eqb-true w n e in omega arith

-- ── rows ──

cells_printable : (cs : List Cell) → all (λ c. is_label (cell_text c)) cs ≡ true
    → all (λ c. all printable c.lines) cs ≡ true
unfolding all
cells_printable [] h = refl
cells_printable (c ∷ cs) h =
    let k = all_cons (λ c. is_label (cell_text c)) c cs h in
    and_both (all printable c.lines) (all (λ c. all printable c.lines) cs)
    (cell_all is_printable space_printable c (label_is_printable (cell_text c) k.0)) (cells_printable cs k.1)

strips_printable : (ss : List (List ℕ)) → all printable ss ≡ true → printable (joined (λ s. s ++ bytes "|") ss) ≡ true
unfolding all joined is_printable
strips_printable [] h = refl
strips_printable (s ∷ ss) h =
    let k = all_cons printable s ss h in
    printable_both (s ++ bytes "|") (joined (λ s. s ++ bytes "|") ss)
    (printable_both s (bytes "|") k.0 refl) (strips_printable ss k.1)

bars_printable : (lines : List (List (List ℕ))) → all (all printable) lines ≡ true
    → all printable (map bar_line lines) ≡ true
unfolding all is_printable
bars_printable [] h = refl
bars_printable (ss ∷ lines) h =
    let k = all_cons (all printable) ss lines h in
    and_both (printable (bar_line ss)) (all printable (map bar_line lines))
    (printable_both (bytes "|") (joined (λ s. s ++ bytes "|") ss) refl (strips_printable ss k.0))
    (bars_printable lines k.1)

row_printable : (w : ℕ) (r : Row) → is_drawn_row row_lines_most w r ≡ true → is_labelled r ≡ true → all printable
    (row_lines r) ≡ true
unfolding all row_lines is_printable
row_printable w (bit_row bits lines) d h =
    bars_printable lines (columns_all printable bits lines (drawn_fitted w bits lines d)
    (cells_printable (columns bits lines) h))
row_printable w (long_row n s) d h =
    let c : Cell = record { bits = n; lines = s ∷ [] } in
    let k = all_cons printable s [] (all_cons (λ c. all printable c.lines) c [] (cells_printable (c ∷ []) h)).0 in
    and_both (printable (bytes ":" ++ (s ++ bytes ":"))) true
    (printable_both (bytes ":") (s ++ bytes ":") refl (printable_both s (bytes ":") k.0 refl)) refl

rows_printable : (w : ℕ) (rows : List Row) → all (is_drawn_row row_lines_most w) rows ≡ true
    → all is_labelled rows ≡ true
    → all printable (joined (λ r. row_lines r ++ (border w ∷ [])) rows) ≡ true
unfolding all joined
rows_printable w [] d h = refl
rows_printable w (r ∷ rows) d h =
    let k = all_cons (is_drawn_row row_lines_most w) r rows d in
    let m = all_cons is_labelled r rows h in
    all_append printable (row_lines r ++ (border w ∷ [])) (joined (λ r. row_lines r ++ (border w ∷ [])) rows)
    (all_append printable (row_lines r) (border w ∷ []) (row_printable w r k.0 m.0)
    (and_both (printable (border w)) true (border_printable w) refl)) (rows_printable w rows k.1 m.1)

-- ── the whole ──

article_printable : (an : Bool) → printable (article an) ≡ true
unfolding all is_printable
article_printable true = refl
article_printable false = refl

head_printable : (e : Edition) → e.row_lines ≡ row_lines_most → (text : List ℕ) (f : Frame) → FrameOfIn e text f
    → all printable (head_lines f) ≡ true
unfolding all is_printable head_lines
head_printable e is text f h =
    let p = frame_parts e text f h in
    let drawn : all (is_drawn_row row_lines_most f.row_width) f.rows ≡ true =
    subst (λ (n : ℕ). all (is_drawn_row n f.row_width) f.rows ≡ true) is p.2 in
    let opening : printable (article f.an ++ (f.name ++ bytes " is formatted as follows:")) ≡ true =
    printable_both (article f.an) (f.name ++ bytes " is formatted as follows:") (article_printable f.an)
    (printable_both f.name (bytes " is formatted as follows:") (label_is_printable f.name p.0) refl) in
    let rows : all printable (joined (λ r. row_lines r ++ (border f.row_width ∷ [])) f.rows
    ++ ([] ∷ bytes "where:" ∷ [] ∷ [])) ≡ true =
    all_append printable (joined (λ r. row_lines r ++ (border f.row_width ∷ [])) f.rows)
    ([] ∷ bytes "where:" ∷ [] ∷ []) (rows_printable f.row_width f.rows drawn
    (and_right (is_drawn_in e f) (all is_labelled f.rows) h.is_framed)) refl in
    rw (
      opening,
      tens_printable f.row_width (row_width_most f.row_width p.1),
      units_printable f.row_width,
      border_printable f.row_width,
    ) rows

lines_printable : (R : ℕ → List ℕ → Type 0) (short : (i : ℕ) (w : List ℕ) → R i w → is_short w ≡ true)
    (fields : List (Field ℕ)) (lines : List (List ℕ)) → Each (SpellsField R) fields lines → all printable lines ≡ true
unfolding all
lines_printable R short [] [] h = refl
lines_printable R short [] (l ∷ lines) h = absurd h
lines_printable R short (x ∷ fields) [] h = absurd h
lines_printable R short (x ∷ fields) (l ∷ lines) h =
    and_both (printable l) (all printable lines) (field_printable short x l h.0)
    (lines_printable R short fields lines h.1)

lines_allowed : (lines : List (List ℕ)) → all printable lines ≡ true → all is_allowed (joined ended lines) ≡ true
unfolding all joined is_allowed is_printable
lines_allowed [] h = refl
lines_allowed (l ∷ lines) h =
    let k = all_cons printable l lines h in
    all_append is_allowed (ended l) (joined ended lines)
    (all_append is_allowed l (line_feed ∷ [])
    (all_weaken is_printable is_allowed (λ b e. or_left (is_printable b) (eqb b line_feed) e) l k.0) refl)
    (lines_allowed lines k.1)

-- by an edition whose rows have as many lines as those in force
pub spelled_allowed_in : (e : Edition) → e.row_lines ≡ row_lines_most → (text : List ℕ) (d : Description)
    → SpellsIn e text d → all is_allowed text ≡ true
unfolding frame_text
spelled_allowed_in e is text d s =
    rw s.is_frame_of.is_text at
    (lines_allowed (head_lines s.frame ++ s.frame.lines)
    (all_append printable (head_lines s.frame) s.frame.lines
    (head_printable e is text s.frame s.is_frame_of)
    (lines_printable (NameOf d.fields) (name_short d.fields s.within.form) d.fields s.frame.lines
    (formed_lines (NameOf d.fields) [] d.fields s.frame.lines s.within.form s.lines))))

pub spelled_allowed : (text : List ℕ) (d : Description) → Spells text d → all is_allowed text ≡ true
spelled_allowed text d s = spelled_allowed_in current refl text d s
