-- A text whose rows have one line keeps its answer. [02, R-1]
use mathlib.Core.Path.{◌≡◌, refl, ap, sym, ◌∙◌, subst}
use mathlib.Core.Bool.{Bool, true, false, cond, ◌&&◌}
use mathlib.Core.List.{List, [], ◌∷◌, ◌++◌}
use mathlib.Core.Option.{Option, none, some}
use Prim.Native.Nat.{ℕ, suc, ◌+◌, ◌-◌, ◌≤◌}
use native.Mathlib.Omega.{arith}
use lib.Dec.{ltb}
use lib.ListN.{length, replicate, take, drop, take-append-drop}
use lib.Seq.{length-take-le, take_all}
use borrow.Author.Tests.{eqb-true, ltb-true, ltb-false}
use Rattle.base.specs.Lists.{all, only, joined, last_is}
use Rattle.base.proofs.Lists.{and_left, and_right, and_both, all_front, all_weaken}
use Rattle.base.proofs.Breaks.{all_cons}
use Rattle.rules.specs.Names.{is_label, is_label_byte, is_word_byte, is_letter, is_digit, is_space, no_two_spaces}
use Rattle.rules.specs.Within.{is_row_width}
use Rattle.rules.specs.Editions.{current, one_line}
use Rattle.rules.specs.Rows.{left_trim, keep_end, right_trim, by_spaces, columns, cell_text, Row, row_lines}
use Rattle.rules.specs.Rows.{is_labelled}
use Rattle.rules.specs.Frames.{Frame, is_drawn, is_drawn_in, ended, frame_text, FrameOfIn, FrameOf}
use Rattle.rules.specs.Refusals.{line_count, Begins, RightLines, rows_within, cut_row, wrong_line, Plain, RightLinesIn}
use Rattle.rules.specs.Refusals.{RefusesIn, line}
use Rattle.rules.specs.Answers.{refused}
use Rattle.rules.specs.Results.{OneLined, OneLineStays, OneLineAnswersStay, OneLineCell, BeginsLabelled, OneLinePlace}
use Rattle.laws.proofs.OperatorLaws.{Widens}
use Rattle.text_laws.specs.FrameReader.{lines_of, State, begun, filled, run, rows_in, strict_place, ended_rows}
use Rattle.text_laws.proofs.RowCells.{lead, left_split, right_some, left_pad, right_pad, right_last}
use Rattle.text_laws.proofs.RowCells.{label_head, label_last}
use Rattle.text_laws.proofs.CellTexts.{cell_text_one}
use Rattle.text_laws.proofs.FrameStates.{state_lines, Reached, width_cases}
use Rattle.text_laws.proofs.FrameAhead.{plain_row, Ahead, ahead_with}
use Rattle.text_laws.proofs.FramePlace.{cut_whole, begins_rows, place_right, place_unique}
use Rattle.text_laws.proofs.FrameRight.{take_lines, ahead_text, run_begins, begins_run}
use Rattle.text_laws.proofs.SplitLaws.{lines_joined, line_count_lines}
use Rattle.text_laws.proofs.FrameSound.{run_sound}
use Rattle.text_laws.proofs.FrameStrict.{rows_in_lem, Labelled, run_strict}
use Rattle.text_laws.proofs.StrictTexts.{strict_place_lem}
use Rattle.text_laws.proofs.FrameRun.{Kept, top_of, frame_kept, kept_frame, frame_lines, frame_lines_are}
use Rattle.text_laws.proofs.FrameRun.{lines_are_lines, run_filled}
use Rattle.text_laws.proofs.FrameExact.{frame_drawn}
use Rattle.text_laws.proofs.RowEditions.{is_one_line, drawn_one, one_drawn, Draws, frame_of_more, begins_more}
use Rattle.text_laws.proofs.OneLineStops.{Stops, AllOne, stops, place_bound}
use Rattle.text_laws.proofs.EarlierTexts.{formless_like, text_more}

-- what is drawn with rows of one line is drawn
drawn_now : Draws one_line current
drawn_now = record { rows = omega arith; lines = omega arith }

-- ── a cell ──

pub one_line_cell : OneLineCell
one_line_cell n s label e h = (
  λ t.
      let w = right_some (left_trim s) in (
        lead s,
        w.0,
        sym (left_split s)
            ∙ ap (λ (u : List ℕ). replicate (lead s) 32 ++ u)
            (sym w.1 ∙ ap (λ (u : List ℕ). u ++ replicate w.0 32) (sym (cell_text_one n s e) ∙ t)),
      ),
  λ i j t.
      cell_text_one n s e
      ∙ ap (λ (u : List ℕ). right_trim (left_trim u)) t
      ∙ ap right_trim (left_pad i label (replicate j 32) (label_head label h))
      ∙ right_pad label j
      ∙ right_last label (label_last label h),
)

-- ── rows as far as they stand in the first lines ──

within_both : (p : Row → Bool) (k n : ℕ) (rows : List Row) → all p rows ≡ true → all is_one_line rows ≡ true
    → all p (rows_within k n rows) ≡ true
unfolding rows_within all
within_both p k n [] a b = refl
within_both p k n (r ∷ rows) a b =
    go (ltb n k) refl (within_both p k (n + suc (length (row_lines r))) rows x.1 y.1)
  where
    x : (p r ≡ true) × (all p rows ≡ true)
    x = all_cons p r rows a

    y : (is_one_line r ≡ true) × (all is_one_line rows ≡ true)
    y = all_cons is_one_line r rows b

    go : (c : Bool) → ltb n k ≡ c
        → all p (rows_within k (n + suc (length (row_lines r))) rows) ≡ true
        → all p (cond c (cut_row (k - n) r ∷ rows_within k (n + suc (length (row_lines r))) rows) []) ≡ true
    go false e h = refl
    go true e h =
        let lt = ltb-true n k e in
        let one = eqb-true (length (row_lines r)) 1 y.0 in
        and_both (p (cut_row (k - n) r)) _ (ap p (cut_whole r (k - n) (omega (arith, lt, one))) ∙ x.0) h

-- a label in a row of one line
abbrev is_fine : Row → Bool
is_fine r = is_labelled r && is_one_line r

plain_fine : (w : ℕ) → is_row_width w ≡ true → is_fine (plain_row w) ≡ true
unfolding plain_row all only joined left_trim keep_end right_trim by_spaces cell_text columns row_lines is_label
    is_label_byte is_word_byte is_letter is_digit is_space last_is no_two_spaces
plain_fine w h = width_cases (λ v. is_fine (plain_row v) ≡ true) refl refl refl w h

both_fine : (rows : List Row) → all is_labelled rows ≡ true → all is_one_line rows ≡ true → all is_fine rows ≡ true
unfolding all
both_fine [] a b = refl
both_fine (r ∷ rows) a b =
    let x = all_cons is_labelled r rows a in
    let y = all_cons is_one_line r rows b in
    and_both (is_fine r) (all is_fine rows) (and_both (is_labelled r) (is_one_line r) x.0 y.0)
    (both_fine rows x.1 y.1)

-- the lines of a state whose rows are fine begin a frame with labels, whose rows have one line
fine_begins : (t : List ℕ) (k : ℕ) (q : State) → k ≤ line_count t → run begun (take k (lines_of t)) ≡ some q
    → all is_fine (rows_in q) ≡ true → BeginsLabelled t k
fine_begins t k q le e f = begin (ahead_with is_fine plain_fine q r.0 (rw r.1 (take_lines k t)) f)
  where
    r : Reached (take k (lines_of t)) (some q)
    r = rw e at (run_sound (take k (lines_of t)) begun [] tt refl)

    labelled : (rows : List Row) → all is_fine rows ≡ true → all is_labelled rows ≡ true
    labelled rows h = all_weaken is_fine is_labelled (λ r e. and_left (is_labelled r) (is_one_line r) e) rows h

    begin : Ahead is_fine (state_lines q) → BeginsLabelled t k
    begin a = (
      record {
        frame = a.frame;
        drawn = drawn_one a.frame
            (all_weaken is_fine is_one_line (λ r e. and_right (is_labelled r) (is_one_line r) e) a.frame.rows a.rows)
            (kept_frame a.frame a.kept);
        behind = joined ended a.behind;
        is_text = ahead_text is_fine t k q le r.1 a;
      },
      labelled a.frame.rows a.rows,
    )

-- the first k lines, if they begin a frame with labels, whose rows have one line, are read
begins_fine : (t : List ℕ) (k : ℕ) → k ≤ line_count t → BeginsLabelled t k
    → (q : State) × (run begun (take k (lines_of t)) ≡ some q) × (all is_labelled (rows_in q) ≡ true)
begins_fine t k le b = go (run begun (take k (lines_of t))) refl
  where
    f : Frame
    f = b.0.frame

    drawn : Begins t k
    drawn = begins_more one_line current drawn_now t k b.0

    go : (o : Option State) → run begun (take k (lines_of t)) ≡ o
        → (q : State) × (run begun (take k (lines_of t)) ≡ some q) × (all is_labelled (rows_in q) ≡ true)
    go none e = absurd (begins_run t k le drawn e)
    go (some q) e = (
      q,
      e,
      subst (λ (rows : List Row). all is_labelled rows ≡ true) (begins_rows t k drawn le q e)
          (within_both is_labelled k 5 f.rows b.1 (one_drawn f b.0.drawn)),
    )

-- ── the place of 3 ──

-- all rows on the way have one line
all_one : (t : List ℕ) → OneLined t → AllOne begun (lines_of t)
all_one t one m q le e =
    let there : m ≤ line_count t = rw (line_count_lines t) le in
    let b = one m there (run_begins t m q there e) in
    let row = one_drawn b.frame b.drawn in
    subst (λ (rows : List Row). all is_one_line rows ≡ true)
    (begins_rows t m (begins_more one_line current drawn_now t m b) there q e)
    (within_both is_one_line m 5 b.frame.rows row row)

pub one_line_place : OneLinePlace
unfolding all
one_line_place t one k le b most_there j r = place_right t j r ∙ strict_place_lem t ∙ w.place ∙ ap suc same_count
  where
    w : Stops 0 begun (lines_of t)
    w = stops (lines_of t) 0 begun refl refl (all_one t one)

    most : k ≤ w.count
    most =
        let x = begins_fine t k le b in
        let y = rows_in_lem x.0 in
        let labelled : Labelled x.0 =
        all_front is_labelled (ended_rows x.0) y.0
        (subst (λ (rows : List Row). all is_labelled rows ≡ true) y.1 x.2) in
        let z = place_bound (take k (lines_of t)) (drop k (lines_of t)) 0 begun x.0
        (run_strict (take k (lines_of t)) begun x.0 x.1 labelled) x.2 in
        let u = ap (strict_place 0 begun) (take-append-drop k (lines_of t)) ∙ w.place in
        let v = length-take-le k (lines_of t) (rw (line_count_lines t) at le) in
        omega (arith, z, u, v)

    least : (c : Bool) → ltb k w.count ≡ c → w.count ≤ k
    least false e = ltb-false k w.count e
    least true e =
        let in_text : w.count ≤ line_count t = rw (line_count_lines t) w.there in
        absurd (most_there w.count (ltb-true k w.count e) in_text
        (fine_begins t w.count w.state in_text w.ran
        (both_fine (rows_in w.state) w.fine (all_one t one w.count w.state w.there w.ran))))

    same_count : 0 + w.count ≡ k
    same_count = let x = most in let y = least (ltb k w.count) refl in omega (arith, x, y)

-- ── the frame ──

frame_one : (t : List ℕ) → OneLined t → (f : Frame) → FrameOf t f → all is_one_line f.rows ≡ true
unfolding frame_text
frame_one t one f h = all_one t one k q (omega arith) ran
  where
    kept : Kept f
    kept = frame_kept f (frame_drawn t f h).drawn

    k : ℕ
    k = length (lines_of t)

    q : State
    q = filled (top_of f) f.rows f.lines

    lines : take k (lines_of t) ≡ frame_lines f
    lines =
        take_all k (lines_of t) (omega arith)
        ∙ ap lines_of (sym h.is_text)
        ∙ lines_joined (frame_lines f) (lines_are_lines f kept)

    ran : run begun (take k (lines_of t)) ≡ some q
    ran =
        ap (run begun) (lines ∙ frame_lines_are f)
        ∙ run_filled (top_of f) f.rows f.lines kept.top kept.rows kept.some_row kept.brief

-- the frame of such a text is one where rows have no more lines
frame_old : (t : List ℕ) → OneLined t → (f : Frame) → FrameOf t f → FrameOfIn one_line t f
frame_old t one f h = record {
  is_framed = and_both (is_drawn_in one_line f) (all is_labelled f.rows)
      (drawn_one f (frame_one t one f h) (frame_drawn t f h).drawn)
      (and_right (is_drawn f) (all is_labelled f.rows) h.is_framed);
  is_text = h.is_text;
}

-- ── the answer ──

forth : Widens one_line current
forth = record { fields = omega arith; packet = omega arith; knows = λ o h. h; means = λ o h x y. refl }

back : Widens current one_line
back = record { fields = omega arith; packet = omega arith; knows = λ o h. h; means = λ o h x y. refl }

pub one_line_answers_stay : OneLineAnswersStay
one_line_answers_stay text out o p ne =
    text_more one_line current forth text (frame_of_more one_line current drawn_now text)
    (record { kind = refl; keeps = refl }) out o p (λ k e. absurd (ne e)) (λ f e h. h)
    (λ lines i e q. formless_like current one_line (λ o h. h) (λ o h. h) lines i q)

pub one_line_stays : OneLineStays
one_line_stays text one out o = (
  λ p. text_more one_line current forth text (frame_of_more one_line current drawn_now text)
      (record { kind = refl; keeps = refl }) out o p
      (λ k e plain q r. line plain (λ f h. q f (frame_old text one f h)) (record {
        there = r.there;
        begins = begins_more one_line current drawn_now text k r.begins;
        most = λ j lt le b. r.most j lt le (one j le b);
      })) (λ f e h. h) (λ lines i e q. formless_like current one_line (λ o h. h) (λ o h. h) lines i q),
  λ p. text_more current one_line back text (frame_old text one) (record { kind = refl; keeps = refl }) out o p
      (λ k e plain q r. old k plain q r) (λ f e h. h)
      (λ lines i e q. formless_like one_line current (λ o h. h) (λ o h. h) lines i q),
)
  where
    old : (k : ℕ) → Plain text → ((f : Frame) → FrameOf text f → ⊥) → (r : RightLines text k)
        → RefusesIn one_line text (refused 3 (wrong_line k r.begins.frame))
    old k plain q r =
        let b = one k r.there r.begins in
        let s : RightLinesIn one_line text k = record {
          there = r.there;
          begins = b;
          most = λ j lt le c. r.most j lt le (begins_more one_line current drawn_now text j c);
        } in
        let t : RightLines text k = record {
          there = r.there;
          begins = begins_more one_line current drawn_now text k b;
          most = r.most;
        } in
        subst (λ (n : ℕ). RefusesIn one_line text (refused 3 n)) (place_unique text k k t r)
        (line plain (λ f h. q f (frame_of_more one_line current drawn_now text f h)) s)
