-- The lines of a frame are read, one after the other, into a state that holds the frame.
use mathlib.Core.Path.{◌≡◌, refl, ap, sym, ◌∙◌}
use mathlib.Core.Bool.{Bool, true, false, ◌&&◌, not}
use mathlib.Core.List.{List, [], ◌∷◌, ◌++◌, map, append_assoc, append-nil}
use mathlib.Core.Option.{some}
use Prim.Native.Nat.{ℕ}
use lib.Dec.{eqb}
use borrow.Author.Tests.{not-true}
use Rattle.base.specs.Bytes.{bytes}
use Rattle.base.specs.Lists.{all, is_empty, joined, sum}
use Rattle.base.proofs.Lists.{and_left, and_right, same_self, all_append, not_both}
use Rattle.base.proofs.Joined.{all_joined}
use Rattle.rules.specs.Limits.{row_lines_most}
use Rattle.rules.specs.Names.{is_label, line_feed}
use Rattle.rules.specs.Within.{is_row_width}
use Rattle.rules.specs.Rows.{Row, bit_row, long_row, bar_line, row_lines, is_drawn_row}
use Rattle.rules.specs.Frames.{tens, units, border, is_line, is_brief, Frame, is_drawn, is_drawn_in, head_lines}
use Rattle.rules.specs.Frames.{article}
use Rattle.text_laws.specs.FrameReader.{closing, Top, State, begun, named, spaced, ruled, counted, bordered}
use Rattle.text_laws.specs.FrameReader.{rowed, closed, headed, filled, on_width, on_row, row_or_end, on_same, step}
use Rattle.text_laws.specs.FrameReader.{read_row, more_row, row_or_border, on_brief, run}
use Rattle.text_laws.proofs.RowCells.{label_free, feed}
use Rattle.text_laws.proofs.RowReader.{drawn_front, row_first, row_long, row_more, border_ends, row_lines_lem}
use Rattle.text_laws.proofs.FrameStates.{opening_line, pairs, framed, state_lines, IsTop, AreRows}
use Rattle.text_laws.proofs.FrameTop.{opened_complete, tens_complete, ruler_lines}

-- ── what a frame keeps ──

abbrev pub top_of : Frame → Top
top_of f = record { an = f.an; name = f.name; row_width = f.row_width }

pub record Kept (f : Frame) : Type 0 where
  pub top : IsTop (top_of f)
  pub some_row : is_empty f.rows ≡ false
  pub rows : AreRows (top_of f) f.rows
  pub some_line : is_empty f.lines ≡ false
  pub lines : all is_line f.lines ≡ true
  pub brief : all is_brief f.lines ≡ true

pub frame_kept : (f : Frame) → is_drawn f ≡ true → Kept f
unfolding is_drawn_in
frame_kept f h =
    let b5 : Bool = all is_line f.lines && all is_brief f.lines in
    let b4 : Bool = not (is_empty f.lines) && b5 in
    let b3 : Bool = all (is_drawn_row row_lines_most f.row_width) f.rows && b4 in
    let b2 : Bool = not (is_empty f.rows) && b3 in
    let b1 : Bool = is_row_width f.row_width && b2 in
    let h1 : b1 ≡ true = and_right (is_label f.name) b1 h in
    let h2 : b2 ≡ true = and_right (is_row_width f.row_width) b2 h1 in
    let h3 : b3 ≡ true = and_right (not (is_empty f.rows)) b3 h2 in
    let h4 : b4 ≡ true = and_right (all (is_drawn_row row_lines_most f.row_width) f.rows) b4 h3 in
    record {
      top = (and_left (is_label f.name) b1 h, and_left (is_row_width f.row_width) b2 h1);
      some_row = not-true (is_empty f.rows) (and_left (not (is_empty f.rows)) b3 h2);
      rows = and_left (all (is_drawn_row row_lines_most f.row_width) f.rows) b4 h3;
      some_line = not-true (is_empty f.lines) (and_left (not (is_empty f.lines)) b5 h4);
      lines = and_left (all is_line f.lines) (all is_brief f.lines) (and_right (not (is_empty f.lines)) b5 h4);
      brief = and_right (all is_line f.lines) (all is_brief f.lines) (and_right (not (is_empty f.lines)) b5 h4);
    }

pub kept_frame : (f : Frame) → Kept f → is_drawn f ≡ true
unfolding is_drawn_in
kept_frame f k = rw (k.top.0, k.top.1, k.some_row, k.rows, k.some_line, k.lines, k.brief)

-- ── all lines of a frame ──

abbrev pub frame_lines : Frame → List (List ℕ)
frame_lines f = head_lines f ++ f.lines

pub frame_lines_are : (f : Frame) → frame_lines f ≡ state_lines (filled (top_of f) f.rows f.lines)
unfolding head_lines closing
frame_lines_are f =
    ap {B = List (List ℕ)}
    (λ p. opening_line f.an f.name ∷ [] ∷ tens f.row_width ∷ units f.row_width ∷ border f.row_width ∷ p)
    (append_assoc (pairs f.row_width f.rows) ([] ∷ bytes "where:" ∷ [] ∷ []) f.lines)

article_line : (an : Bool) → is_line (article an) ≡ true
unfolding all
article_line true = refl
article_line false = refl

closing_line : is_line closing ≡ true
unfolding all closing
closing_line = refl

opening_line_lem : (an : Bool) (n : List ℕ) → is_label n ≡ true → is_line (opening_line an n) ≡ true
opening_line_lem an n h =
    all_append (λ b. not (eqb b line_feed)) (article an) (n ++ closing) (article_line an)
    (all_append (λ b. not (eqb b line_feed)) n closing (label_free line_feed feed n h) closing_line)

pair_lines : (w : ℕ) → is_line (border w) ≡ true → (r : Row) → is_drawn_row row_lines_most w r ≡ true
    → all is_line (row_lines r ++ (border w ∷ [])) ≡ true
unfolding all
pair_lines w b r h = all_append is_line (row_lines r) (border w ∷ []) (row_lines_lem w r h) (rw b)

-- none of them holds an LF
pub lines_are_lines : (f : Frame) → Kept f → all is_line (frame_lines f) ≡ true
unfolding all
lines_are_lines f k =
    let r = ruler_lines f.row_width k.top.1 in
    let p : all is_line (pairs f.row_width f.rows) ≡ true
    = all_joined (λ q. row_lines q ++ (border f.row_width ∷ [])) (is_drawn_row row_lines_most f.row_width) is_line
    (pair_lines f.row_width r.2) f.rows k.rows in
    let q : all is_line (pairs f.row_width f.rows ++ ([] ∷ bytes "where:" ∷ [] ∷ f.lines)) ≡ true
    = all_append is_line (pairs f.row_width f.rows) ([] ∷ bytes "where:" ∷ [] ∷ f.lines) p k.lines in
    rw (frame_lines_are f) (rw (opening_line_lem f.an f.name k.top.0, r.0, r.1, r.2) q)

-- ── reading them ──

pub run_one : (s q : State) (l : List ℕ) (ls : List (List ℕ)) → step s l ≡ some q → run s (l ∷ ls) ≡ run q ls
unfolding run
run_one s q l ls e = rw e

on_same_lem : (w : List ℕ) (s : State) → on_same w s w ≡ some s
unfolding on_same
on_same_lem w s = rw (same_self w)

-- the first line of a row
step_first : (h : Top) (rows : List Row) (r : Row) (b : ℕ) (l : List ℕ) → read_row h.row_width (b ∷ l) ≡ some r
    → step (bordered h rows) (b ∷ l) ≡ some (rowed h rows r)
unfolding step row_or_end on_row
step_first h rows r b l e = rw e

pub step_more : (h : Top) (rows : List Row) (r x : Row) (l : List ℕ) → more_row h.row_width r l ≡ some x
    → step (rowed h rows r) l ≡ some (rowed h rows x)
unfolding step row_or_border
step_more h rows r x l e = rw e

pub step_border : (h : Top) (rows : List Row) (r : Row)
    → step (rowed h rows r) (border h.row_width) ≡ some (bordered h (rows ++ (r ∷ [])))
unfolding step row_or_border
step_border h rows r =
    rw (border_ends h.row_width h.row_width r)
    (on_same_lem (border h.row_width) (bordered h (rows ++ (r ∷ []))))

-- further lines of a bit row
run_more : (h : Top) (rows : List Row) (bits : List ℕ) (ss : List (List ℕ)) (done more : List (List (List ℕ)))
    (m : List (List ℕ)) → is_drawn_row row_lines_most h.row_width (bit_row bits (ss ∷ (done ++ more))) ≡ true
    → run (rowed h rows (bit_row bits (ss ∷ done))) (map bar_line more ++ m)
    ≡ run (rowed h rows (bit_row bits (ss ∷ (done ++ more)))) m
run_more h rows bits ss done [] m d =
    ap (λ (l : List (List (List ℕ))). run (rowed h rows (bit_row bits (ss ∷ l))) m) (sym (append-nil done))
run_more h rows bits ss done (t ∷ more) m d =
    let e = append_assoc done (t ∷ []) more in
    let d' : is_drawn_row row_lines_most h.row_width (bit_row bits (ss ∷ ((done ++ (t ∷ [])) ++ more))) ≡ true = rw e
    d in
    run_one (rowed h rows (bit_row bits (ss ∷ done))) (rowed h rows (bit_row bits (ss ∷ (done ++ (t ∷ [])))))
    (bar_line t)
    (map bar_line more ++ m)
    (step_more h rows (bit_row bits (ss ∷ done)) (bit_row bits (ss ∷ (done ++ (t ∷ [])))) (bar_line t)
    (row_more h.row_width bits (ss ∷ done) t (drawn_front h.row_width bits ss (done ++ (t ∷ [])) more d')))
    ∙ run_more h rows bits ss (done ++ (t ∷ [])) more m d'
    ∙ ap (λ (l : List (List (List ℕ))). run (rowed h rows (bit_row bits (ss ∷ l))) m) e

-- all lines of a row
pub run_row : (h : Top) (rows : List Row) (r : Row) (m : List (List ℕ))
    → is_drawn_row row_lines_most h.row_width r ≡ true
    → run (bordered h rows) (row_lines r ++ m) ≡ run (rowed h rows r) m
unfolding row_lines
run_row h rows (bit_row bits []) m d = absurd (not_both false (and_right (eqb (sum (λ n. n) bits) h.row_width) false
    d) refl)
run_row h rows (bit_row bits (ss ∷ lines)) m d =
    run_one (bordered h rows) (rowed h rows (bit_row bits (ss ∷ []))) (bar_line ss) (map bar_line lines ++ m)
    (step_first h rows (bit_row bits (ss ∷ [])) 124 (joined (λ s. s ++ bytes "|") ss)
    (row_first h.row_width bits ss (drawn_front h.row_width bits ss [] lines d)))
    ∙ run_more h rows bits ss [] lines m d
run_row h rows (long_row n s) m d =
    run_one (bordered h rows) (rowed h rows (long_row n s)) (58 ∷ (s ++ (58 ∷ []))) m
    (step_first h rows (long_row n s) 58 (s ++ (58 ∷ [])) (row_long h.row_width n s d))

run_rows : (h : Top) (rows done : List Row) (m : List (List ℕ)) → AreRows h rows
    → run (bordered h done) (pairs h.row_width rows ++ m) ≡ run (bordered h (done ++ rows)) m
unfolding joined all
run_rows h [] done m a = ap (λ (l : List Row). run (bordered h l) m) (sym (append-nil done))
run_rows h (r ∷ rows) done m a =
    let w : ℕ = h.row_width in
    let p : is_drawn_row row_lines_most w r ≡ true = and_left (is_drawn_row row_lines_most w r)
    (all (is_drawn_row row_lines_most
    w) rows) a in
    let i = run_rows h rows (done ++ (r ∷ [])) m (and_right (is_drawn_row row_lines_most w r) (all (is_drawn_row
    row_lines_most w) rows) a) in
    let g : pairs w (r ∷ rows) ++ m ≡ row_lines r ++ (border w ∷ (pairs w rows ++ m)) =
    append_assoc (row_lines r ++ (border w ∷ [])) (pairs w rows) m
    ∙ append_assoc (row_lines r) (border w ∷ []) (pairs w rows ++ m) in
    ap (run (bordered h done)) g
    ∙ run_row h done r (border w ∷ (pairs w rows ++ m)) p
    ∙ run_one (rowed h done r) (bordered h (done ++ (r ∷ []))) (border w) (pairs w rows ++ m) (step_border h done r)
    ∙ i
    ∙ ap (λ (l : List Row). run (bordered h l) m) (append_assoc done (r ∷ []) rows)

run_fields : (h : Top) (rows : List Row) (ms ls : List (List ℕ)) → all is_brief ms ≡ true
    → run (filled h rows ls) ms ≡ some (filled h rows (ls ++ ms))
unfolding run step on_brief all
run_fields h rows [] ls a = ap (λ (l : List (List ℕ)). some (filled h rows l)) (sym (append-nil ls))
run_fields h rows (m ∷ ms) ls a =
    run_one (filled h rows ls) (filled h rows (ls ++ (m ∷ []))) m ms
    (rw (and_left (is_brief m) (all is_brief ms) a) refl)
    ∙ run_fields h rows ms (ls ++ (m ∷ [])) (and_right (is_brief m) (all is_brief ms) a)
    ∙ ap (λ (l : List (List ℕ)). some (filled h rows l)) (append_assoc ls (m ∷ []) ms)

step_end : (h : Top) (rows : List Row) → is_empty rows ≡ false → step (bordered h rows) [] ≡ some (closed h rows)
unfolding step row_or_end
step_end h rows e = rw e

step_tens : (h : Top) → IsTop h → step (spaced h.an h.name) (tens h.row_width) ≡ some (ruled h)
unfolding step on_width
step_tens h t = rw (tens_complete h.row_width t.1)

-- the lines in front of the rows
pub run_top : (h : Top) (m : List (List ℕ)) → IsTop h → run begun (framed h [] m) ≡ run (bordered h []) m
unfolding step joined
run_top h m t =
    let w : ℕ = h.row_width in
    run_one begun (named h.an h.name) (opening_line h.an h.name) ([] ∷ tens w ∷ units w ∷ border w ∷ m)
    (opened_complete h.an h.name t.0)
    ∙ run_one (named h.an h.name) (spaced h.an h.name) [] (tens w ∷ units w ∷ border w ∷ m)
    (on_same_lem [] (spaced h.an h.name))
    ∙ run_one (spaced h.an h.name) (ruled h) (tens w) (units w ∷ border w ∷ m) (step_tens h t)
    ∙ run_one (ruled h) (counted h) (units w) (border w ∷ m) (on_same_lem (units w) (counted h))
    ∙ run_one (counted h) (bordered h []) (border w) m (on_same_lem (border w) (bordered h []))

pub run_filled : (h : Top) (rows : List Row) (ls : List (List ℕ)) → IsTop h → AreRows h rows → is_empty rows ≡ false
    → all is_brief ls ≡ true → run begun (state_lines (filled h rows ls)) ≡ some (filled h rows ls)
unfolding step joined
run_filled h rows ls t a e k =
    let last : List (List ℕ) = [] ∷ bytes "where:" ∷ [] ∷ ls in
    run_top h (pairs h.row_width rows ++ last) t
    ∙ run_rows h rows [] last a
    ∙ run_one (bordered h rows) (closed h rows) [] (bytes "where:" ∷ [] ∷ ls) (step_end h rows e)
    ∙ run_one (closed h rows) (headed h rows) (bytes "where:") ([] ∷ ls) (on_same_lem (bytes "where:") (headed h rows))
    ∙ run_one (headed h rows) (filled h rows []) [] ls (on_same_lem [] (filled h rows []))
    ∙ run_fields h rows ls [] k
