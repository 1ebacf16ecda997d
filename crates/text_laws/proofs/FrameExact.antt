-- The frame of a text: what is read is its frame, its frame is read, and it has one frame at most.
use mathlib.Core.Path.{◌≡◌, refl, ap, sym, ◌∙◌}
use mathlib.Core.Bool.{Bool, true, false, cond}
use mathlib.Core.List.{List, [], ◌∷◌, ◌++◌, append-nil}
use mathlib.Core.Option.{Option, none, some}
use Prim.Native.Nat.{ℕ}
use native.Mathlib.Omega.{arith}
use Rattle.base.specs.Lists.{all, is_empty, joined}
use Rattle.base.proofs.Lists.{and_left, and_right, and_both}
use Rattle.rules.specs.Names.{line_feed}
use Rattle.rules.specs.Rows.{is_labelled, Row}
use Rattle.rules.specs.Frames.{is_line, ended, is_drawn, Frame, frame_text, FrameOf}
use Rattle.text_laws.specs.FrameReader.{rest, lines_of, Top, State, begun, named, spaced, ruled, counted}
use Rattle.text_laws.specs.FrameReader.{bordered, rowed, closed, headed, filled, on_state, run, whole, read_drawn}
use Rattle.text_laws.specs.FrameReader.{if_labelled, read_frame}
use Rattle.text_laws.proofs.SplitLaws.{split_joined, pieces_are_free, lines_joined, lines_end}
use Rattle.text_laws.proofs.FrameStates.{state_lines, Sane, Reached}
use Rattle.text_laws.proofs.FrameSound.{fields_are_lines, run_sound}
use Rattle.text_laws.proofs.FrameRun.{top_of, frame_kept, kept_frame, frame_lines, frame_lines_are}
use Rattle.text_laws.proofs.FrameRun.{lines_are_lines, run_filled}

-- ── sound ──

-- the text is that of a drawn frame
pub record DrawnOf (text : List ℕ) (f : Frame) : Type 0 where
  pub drawn : is_drawn f ≡ true
  pub is_text : frame_text f ≡ text

abbrev Found : List ℕ → Option Frame → Type 0
Found t none = Unit {0}
Found t (some f) = DrawnOf t f

filled_found : (t : List ℕ) (h : Top) (rows : List Row) (ls : List (List ℕ))
    → Sane (filled h rows ls) → state_lines (filled h rows ls) ≡ lines_of t → joined ended (lines_of t) ≡ t
    → all is_line (lines_of t) ≡ true → Found t (whole (filled h rows ls))
unfolding whole
filled_found t h rows ls s e j a = go (is_empty ls) refl
  where
    f : Frame
    f = record { an = h.an; name = h.name; row_width = h.row_width; rows = rows; lines = ls }

    go : (x : Bool) → is_empty ls ≡ x → Found t (cond x none (some f))
    go true p = tt
    go false p = record {
      drawn = kept_frame f (record {
        top = s.0;
        some_row = s.2;
        rows = s.1;
        some_line = p;
        lines = fields_are_lines h rows ls (rw e a);
        brief = s.3;
      });
      is_text = unfold frame_text in ap (joined ended) (frame_lines_are f ∙ e) ∙ j;
    }

run_found : (t : List ℕ) (o : Option State) → Reached (lines_of t) o → joined ended (lines_of t) ≡ t
    → all is_line (lines_of t) ≡ true → Found t (on_state none whole o)
unfolding whole
run_found t none p j a = tt
run_found t (some begun) p j a = tt
run_found t (some (named an n)) p j a = tt
run_found t (some (spaced an n)) p j a = tt
run_found t (some (ruled h)) p j a = tt
run_found t (some (counted h)) p j a = tt
run_found t (some (bordered h rows)) p j a = tt
run_found t (some (rowed h rows r)) p j a = tt
run_found t (some (closed h rows)) p j a = tt
run_found t (some (headed h rows)) p j a = tt
run_found t (some (filled h rows ls)) p j a = filled_found t h rows ls p.0 p.1 j a

found : (t : List ℕ) → Found t (read_drawn t)
unfolding read_drawn
found t = go (rest line_feed t) (split_joined line_feed t)
  where
    go : (r : List ℕ) → joined ended (lines_of t) ++ r ≡ t
        → Found t (cond (is_empty r) (on_state none whole (run begun (lines_of t))) none)
    go [] e = run_found t (run begun (lines_of t)) (run_sound (lines_of t) begun [] tt refl)
        (sym (append-nil (joined ended (lines_of t))) ∙ e) (pieces_are_free line_feed t)
    go (b ∷ r) e = tt

abbrev Labelled : List ℕ → Option Frame → Type 0
Labelled t none = Unit {0}
Labelled t (some f) = FrameOf t f

labelled : (t : List ℕ) (o : Option Frame) → Found t o → Labelled t (if_labelled o)
unfolding if_labelled
labelled t none h = tt
labelled t (some f) h = go (all is_labelled f.rows) refl
  where
    go : (x : Bool) → all is_labelled f.rows ≡ x → Labelled t (cond x (some f) none)
    go true e = record { is_framed = and_both (is_drawn f) (all is_labelled f.rows) h.drawn e; is_text = h.is_text }
    go false e = tt

pub frame_sound : (t : List ℕ) (f : Frame) → read_frame t ≡ some f → FrameOf t f
unfolding read_frame
frame_sound t f e = rw e at (labelled t (read_drawn t) (found t))

-- ── complete ──

whole_filled : (f : Frame) → is_empty f.lines ≡ false → whole (filled (top_of f) f.rows f.lines) ≡ some f
unfolding whole
whole_filled f e = rw e

pub drawn_complete : (t : List ℕ) (f : Frame) → DrawnOf t f → read_drawn t ≡ some f
unfolding read_drawn frame_text
drawn_complete t f x =
    let k = frame_kept f x.drawn in
    let a = lines_are_lines f k in
    let l : lines_of t ≡ frame_lines f = ap lines_of (sym x.is_text) ∙ lines_joined (frame_lines f) a in
    let r : rest line_feed t ≡ [] = ap (rest line_feed) (sym x.is_text) ∙ lines_end (frame_lines f) a in
    rw (r, l, frame_lines_are f, run_filled (top_of f) f.rows f.lines k.top k.rows k.some_row k.brief)
    (whole_filled f k.some_line)

-- a frame is drawn, and labelled
pub frame_drawn : (t : List ℕ) (f : Frame) → FrameOf t f → DrawnOf t f
frame_drawn t f x =
    record { drawn = and_left (is_drawn f) (all is_labelled f.rows) x.is_framed; is_text = x.is_text }

pub frame_labelled : (t : List ℕ) (f : Frame) → FrameOf t f → all is_labelled f.rows ≡ true
frame_labelled t f x = and_right (is_drawn f) (all is_labelled f.rows) x.is_framed

pub frame_complete : (t : List ℕ) (f : Frame) → FrameOf t f → read_frame t ≡ some f
unfolding read_frame if_labelled
frame_complete t f x = rw (drawn_complete t f (frame_drawn t f x), frame_labelled t f x) refl

-- where none is read there is none
pub frame_none : (t : List ℕ) → read_frame t ≡ none → (f : Frame) → FrameOf t f → ⊥
frame_none t e f x = let p = frame_complete t f x in absurd (let z : ◌≡◌ {A = ℕ} 0 1 = cc in omega arith)

-- ── one frame at most ──

pub frame_unique : (t : List ℕ) (f g : Frame) → FrameOf t f → FrameOf t g → f ≡ g
frame_unique t f g x y = let p = frame_complete t f x in let q = frame_complete t g y in cc
