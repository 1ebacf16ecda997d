-- A text whose lines are short enough keeps its answer. [02, R-9]
use mathlib.Core.Path.{◌≡◌, refl, ap, sym, ◌∙◌, subst}
use mathlib.Core.Bool.{Bool, true, false, ◌&&◌, not}
use mathlib.Core.Logic.{◌⊎◌, inl, inr}
use mathlib.Core.List.{List, [], ◌∷◌, ◌++◌, append_assoc, append-nil}
use Prim.Native.Nat.{ℕ, ◌≤◌}
use native.Mathlib.Omega.{arith}
use lib.ListN.{length, take, drop, take-append-drop}
use borrow.Author.Tests.{le-leb, not-true}
use Rattle.base.specs.Lists.{all, is_empty, joined}
use Rattle.base.proofs.Lists.{and_left, and_right, and_both, all_append, all_front, all_back}
use Rattle.base.proofs.Breaks.{all_cons}
use Rattle.base.proofs.Joined.{joined_append}
use Rattle.rules.specs.Limits.{line_most}
use Rattle.rules.specs.Names.{is_label, line_feed}
use Rattle.rules.specs.Within.{is_row_width}
use Rattle.rules.specs.Editions.{current, any_line}
use Rattle.rules.specs.Rows.{Row, is_drawn_row, is_labelled}
use Rattle.rules.specs.Frames.{Frame, is_line, is_brief_in, is_brief, ended, is_drawn_in, is_drawn, head_lines}
use Rattle.rules.specs.Frames.{frame_text}
use Rattle.rules.specs.Frames.{FrameOfIn, FrameOf}
use Rattle.rules.specs.Refusals.{line_count, BeginsIn, Begins, RightLinesIn, rows_within, unlabelled_line, or_behind}
use Rattle.rules.specs.Refusals.{wrong_line, Plain, Refuses, line}
use Rattle.rules.specs.Answers.{refused}
use Rattle.rules.specs.Results.{Brief, BriefStays}
use Rattle.laws.proofs.OperatorLaws.{Widens}
use Rattle.laws.proofs.Earlier.{AlikeStored}
use Rattle.text_laws.specs.FrameReader.{lines_of, rest}
use Rattle.text_laws.proofs.SplitLaws.{split_joined, pieces_joined, pieces_are_free, lines_joined}
use Rattle.text_laws.proofs.SplitLaws.{line_count_lines, first_lines_lines}
use Rattle.text_laws.proofs.FrameRun.{Kept, kept_frame, frame_lines, lines_are_lines}
use Rattle.text_laws.proofs.FrameRight.{take_lines}
use Rattle.text_laws.proofs.FramePlace.{cut_lists}
use Rattle.text_laws.proofs.RowEditions.{Draws, frame_of_more, begins_more}
use Rattle.text_laws.proofs.EarlierTexts.{formless_like, text_more}

-- ── the lines of such a text ──

lines_brief : (t : List ℕ) → Brief t → (ls : List (List ℕ)) (before behind : List ℕ)
    → t ≡ before ++ (joined ended ls ++ behind) → all is_line ls ≡ true → all is_brief ls ≡ true
unfolding all joined
lines_brief t b [] before behind e a = refl
lines_brief t b (l ∷ ls) before behind e a =
    let x = all_cons is_line l ls a in
    let split : t ≡ before ++ (ended l ++ (joined ended ls ++ behind)) =
    e ∙ ap (λ (m : List ℕ). before ++ m) (append_assoc (ended l) (joined ended ls) behind) in
    and_both (is_brief l) (all is_brief ls) (le-leb (length l) line_most (b before l _ split x.0))
    (lines_brief t b ls (before ++ ended l) behind
    (split ∙ sym (append_assoc before (ended l) (joined ended ls ++ behind))) x.1)

pub text_brief : (t : List ℕ) → Brief t → all is_brief (lines_of t) ≡ true
text_brief t b =
    lines_brief t b (lines_of t) [] (rest line_feed t) (sym (split_joined line_feed t)) (pieces_are_free line_feed t)

take_brief : (k : ℕ) (t : List ℕ) → all is_brief (lines_of t) ≡ true → all is_brief (take k (lines_of t)) ≡ true
take_brief k t a =
    all_front is_brief (take k (lines_of t)) (drop k (lines_of t)) (rw (take-append-drop k (lines_of t)) a)

-- ── a frame drawn with lines of any length ──

record Parts (f : Frame) : Type 0 where
  name : is_label f.name ≡ true
  width : is_row_width f.row_width ≡ true
  some_row : is_empty f.rows ≡ false
  rows : all (is_drawn_row any_line.row_lines f.row_width) f.rows ≡ true
  some_line : is_empty f.lines ≡ false
  lines : all is_line f.lines ≡ true

drawn_parts : (f : Frame) → is_drawn_in any_line f ≡ true → Parts f
unfolding is_drawn_in
drawn_parts f h =
    let b5 : Bool = all is_line f.lines && all (is_brief_in any_line) f.lines in
    let b4 : Bool = not (is_empty f.lines) && b5 in
    let b3 : Bool = all (is_drawn_row any_line.row_lines f.row_width) f.rows && b4 in
    let b2 : Bool = not (is_empty f.rows) && b3 in
    let b1 : Bool = is_row_width f.row_width && b2 in
    let h1 : b1 ≡ true = and_right (is_label f.name) b1 h in
    let h2 : b2 ≡ true = and_right (is_row_width f.row_width) b2 h1 in
    let h3 : b3 ≡ true = and_right (not (is_empty f.rows)) b3 h2 in
    let h4 : b4 ≡ true = and_right (all (is_drawn_row any_line.row_lines f.row_width) f.rows) b4 h3 in
    let h5 : b5 ≡ true = and_right (not (is_empty f.lines)) b5 h4 in
    record {
      name = and_left (is_label f.name) b1 h;
      width = and_left (is_row_width f.row_width) b2 h1;
      some_row = not-true (is_empty f.rows) (and_left (not (is_empty f.rows)) b3 h2);
      rows = and_left (all (is_drawn_row any_line.row_lines f.row_width) f.rows) b4 h3;
      some_line = not-true (is_empty f.lines) (and_left (not (is_empty f.lines)) b5 h4);
      lines = and_left (all is_line f.lines) (all (is_brief_in any_line) f.lines) h5;
    }

-- the frame with other field lines
abbrev refilled : Frame → List (List ℕ) → Frame
refilled f m = record { an = f.an; name = f.name; row_width = f.row_width; rows = f.rows; lines = m }

refilled_kept : (f : Frame) → Parts f → (m : List (List ℕ)) → is_empty m ≡ false → all is_line m ≡ true
    → all is_brief m ≡ true → Kept (refilled f m)
refilled_kept f p m some_m a b = record {
  top = (p.name, p.width);
  some_row = p.some_row;
  rows = p.rows;
  some_line = some_m;
  lines = a;
  brief = b;
}

-- its lines up to the field lines hold no LF
head_lines_lem : (f : Frame) → Parts f → all is_line (head_lines f) ≡ true
unfolding all head_lines
head_lines_lem f p =
    all_front is_line (head_lines f) ([] ∷ [])
    (lines_are_lines (refilled f ([] ∷ [])) (refilled_kept f p ([] ∷ []) refl refl refl))

-- ── the frame of a text whose lines are short enough ──

pub frame_brief : (t : List ℕ) → Brief t → (f : Frame) → FrameOfIn any_line t f → FrameOf t f
unfolding frame_text
frame_brief t b f h = record {
  is_framed = and_both (is_drawn f) (all is_labelled f.rows) (kept_frame f kept)
      (and_right (is_drawn_in any_line f) (all is_labelled f.rows) h.is_framed);
  is_text = h.is_text;
}
  where
    p : Parts f
    p = drawn_parts f (and_left (is_drawn_in any_line f) (all is_labelled f.rows) h.is_framed)

    split : t ≡ joined ended (head_lines f) ++ (joined ended f.lines ++ [])
    split =
        sym h.is_text
        ∙ joined_append ended (head_lines f) f.lines
        ∙ ap (λ (m : List ℕ). joined ended (head_lines f) ++ m) (sym (append-nil (joined ended f.lines)))

    kept : Kept f
    kept = refilled_kept f p f.lines p.some_line p.lines
        (lines_brief t b f.lines (joined ended (head_lines f)) [] split p.lines)

-- ── first lines that are short enough ──

-- other field lines with which the frame begins with these lines
record Refill (f : Frame) (ls : List (List ℕ)) : Type 0 where
  lines : List (List ℕ)
  kept : Kept (refilled f lines)
  behind : List (List ℕ)
  is_begun : frame_lines (refilled f lines) ≡ ls ++ behind

more_lines : (m : List (List ℕ)) → is_empty (m ++ ([] ∷ [])) ≡ false
more_lines [] = refl
more_lines (l ∷ m) = refl

refill : (f : Frame) → Parts f → (ls ms : List (List ℕ)) → frame_lines f ≡ ls ++ ms → all is_brief ls ≡ true
    → Refill f ls
unfolding all head_lines
refill f p ls ms e b = go (cut_lists (head_lines f) f.lines ls ms e)
  where
    go : ((c : List (List ℕ)) × (head_lines f ≡ ls ++ c))
        ⊎ ((z : List ℕ) × (d : List (List ℕ)) × (ls ≡ head_lines f ++ (z ∷ d)) × (f.lines ≡ z ∷ (d ++ ms)))
        → Refill f ls
    go (inl q) = record {
      lines = [] ∷ [];
      kept = refilled_kept f p ([] ∷ []) refl refl refl;
      behind = q.0 ++ ([] ∷ []);
      is_begun = ap (λ (m : List (List ℕ)). m ++ ([] ∷ [])) q.1 ∙ append_assoc ls q.0 ([] ∷ []);
    }
    go (inr q) =
        let m : List (List ℕ) = q.0 ∷ q.1 in
        let a : all is_line m ≡ true =
        all_front is_line m ms (subst (λ (k : List (List ℕ)). all is_line k ≡ true) q.3 p.lines) in
        let c : all is_brief m ≡ true =
        all_back is_brief (head_lines f) m (subst (λ (k : List (List ℕ)). all is_brief k ≡ true) q.2 b) in
        record {
          lines = m ++ ([] ∷ []);
          kept = refilled_kept f p (m ++ ([] ∷ [])) refl (all_append is_line m ([] ∷ []) a refl)
              (all_append is_brief m ([] ∷ []) c refl);
          behind = [] ∷ [];
          is_begun = sym (append_assoc (head_lines f) m ([] ∷ []))
              ∙ ap (λ (k : List (List ℕ)). k ++ ([] ∷ [])) (sym q.2);
        }

frame_split : (t : List ℕ) (k : ℕ) → k ≤ line_count t → (b : BeginsIn any_line t k)
    → frame_lines b.frame ≡ take k (lines_of t) ++ lines_of b.behind
unfolding frame_text
frame_split t k le b =
    let p = drawn_parts b.frame b.drawn in
    sym (lines_joined (frame_lines b.frame)
    (all_append is_line (head_lines b.frame) b.frame.lines (head_lines_lem b.frame p) p.lines))
    ∙ ap lines_of (b.is_text ∙ ap (λ (m : List ℕ). m ++ b.behind)
    (first_lines_lines k t (rw (line_count_lines t) at le)))
    ∙ pieces_joined line_feed (take k (lines_of t)) b.behind (take_lines k t)

-- so the text of a frame of the same rows begins with them
begins_brief : (t : List ℕ) (k : ℕ) → k ≤ line_count t → all is_brief (take k (lines_of t)) ≡ true
    → (b : BeginsIn any_line t k) → (c : Begins t k) × (c.frame.rows ≡ b.frame.rows)
unfolding frame_text
begins_brief t k le a b =
    let r = refill b.frame (drawn_parts b.frame b.drawn) (take k (lines_of t)) (lines_of b.behind)
    (frame_split t k le b) a in (
      record {
        frame = refilled b.frame r.lines;
        drawn = kept_frame (refilled b.frame r.lines) r.kept;
        behind = joined ended r.behind;
        is_text = ap (joined ended) r.is_begun
            ∙ joined_append ended (take k (lines_of t)) r.behind
            ∙ ap (λ (m : List ℕ). m ++ joined ended r.behind)
            (sym (first_lines_lines k t (rw (line_count_lines t) at le)));
      },
      refl,
    )

-- and what is wrong hangs on the rows alone
wrong_rows_lem : (k : ℕ) (f g : Frame) → f.rows ≡ g.rows → wrong_line k f ≡ wrong_line k g
wrong_rows_lem k f g e = ap (λ (rows : List Row). or_behind k (unlabelled_line 5 (rows_within k 5 rows))) e

-- ── the answer ──

forth : Widens any_line current
forth = record { fields = omega arith; packet = omega arith; knows = λ o h. h; means = λ o h x y. refl }

pub back : Widens current any_line
back = record { fields = omega arith; packet = omega arith; knows = λ o h. h; means = λ o h x y. refl }

pub drawn_any : Draws current any_line
drawn_any = record { rows = omega arith; lines = omega arith }

pub brief_stays : BriefStays
brief_stays text brief out o = (
  λ p. text_more any_line current forth text (frame_brief text brief) alike out o p
      (λ k e plain q r. now k plain q r) (λ f e h. h)
      (λ lines i e q. formless_like current any_line (λ o h. h) (λ o h. h) lines i q),
  λ p. text_more current any_line back text (frame_of_more current any_line drawn_any text)
      (record { kind = refl; keeps = refl }) out o p
      (λ k e plain q r. line plain (λ f h. q f (frame_brief text brief f h)) (record {
        there = r.there;
        begins = begins_more current any_line drawn_any text k r.begins;
        most = λ j lt le b. r.most j lt le (begins j le b).0;
      })) (λ f e h. h) (λ lines i e q. formless_like any_line current (λ o h. h) (λ o h. h) lines i q),
)
  where
    alike : AlikeStored any_line current
    alike = record { kind = refl; keeps = refl }

    begins : (k : ℕ) → k ≤ line_count text → (b : BeginsIn any_line text k)
        → (c : Begins text k) × (c.frame.rows ≡ b.frame.rows)
    begins k le b = begins_brief text k le (take_brief k text (text_brief text brief)) b

    now : (k : ℕ) → Plain text → ((f : Frame) → FrameOfIn any_line text f → ⊥) → (r : RightLinesIn any_line text k)
        → Refuses text (refused 3 (wrong_line k r.begins.frame))
    now k plain q r =
        let b = begins k r.there r.begins in
        subst (λ (n : ℕ). Refuses text (refused 3 n)) (wrong_rows_lem k b.0.frame r.begins.frame b.1)
        (line plain (λ f h. q f (frame_of_more current any_line drawn_any text f h)) (record {
          there = r.there;
          begins = b.0;
          most = λ j lt le c. r.most j lt le (begins_more current any_line drawn_any text j c);
        }))
