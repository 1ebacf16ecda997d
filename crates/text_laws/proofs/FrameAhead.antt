-- The lines of a state begin the text of a frame: the lines that miss are added.
use mathlib.Core.Path.{◌≡◌, refl, ap, ◌∙◌}
use mathlib.Core.Bool.{Bool, true, false}
use mathlib.Core.List.{List, [], ◌∷◌, ◌++◌, append_assoc}
use Prim.Native.Nat.{ℕ, ◌*◌, ◌-◌}
use lib.ListN.{replicate}
use Rattle.base.specs.Bytes.{bytes}
use Rattle.base.specs.Lists.{all, is_empty, joined, sum, last_is}
use Rattle.base.proofs.Lists.{all_append, and_both}
use Rattle.rules.specs.Limits.{row_lines_most}
use Rattle.rules.specs.Names.{is_label, is_label_byte, is_word_byte, is_letter, is_digit, is_space, no_two_spaces}
use Rattle.rules.specs.Within.{is_row_width}
use Rattle.rules.specs.Rows.{Row, bit_row, row_lines, are_fitted, is_drawn_row}
use Rattle.rules.specs.Frames.{tens, units, border, is_line, is_brief, Frame}
use Rattle.text_laws.specs.FrameReader.{Top, State, begun, named, spaced, ruled, counted, bordered, rowed}
use Rattle.text_laws.specs.FrameReader.{closed, headed, filled, rows_in}
use Rattle.text_laws.proofs.FrameStates.{state_lines, IsTop, Sane, width_cases}
use Rattle.text_laws.proofs.FrameSound.{framed_more, framed_row, more_rows, fields_are_lines}
use Rattle.text_laws.proofs.FrameRun.{Kept, frame_lines, frame_lines_are}

-- a frame whose lines begin with these
pub record Ahead (p : Row → Bool) (ls : List (List ℕ)) : Type 0 where
  pub frame : Frame
  pub kept : Kept frame
  -- what holds of the rows so far and of the row to add
  pub rows : all p frame.rows ≡ true
  pub behind : List (List ℕ)
  pub is_begun : frame_lines frame ≡ ls ++ behind

shorter : (p : Row → Bool) (ls ms ns : List (List ℕ)) → ns ≡ ls ++ ms → Ahead p ns → Ahead p ls
shorter p ls ms ns e a = record {
  frame = a.frame;
  kept = a.kept;
  rows = a.rows;
  behind = ms ++ a.behind;
  is_begun = a.is_begun ∙ ap (λ (m : List (List ℕ)). m ++ a.behind) e ∙ append_assoc ls ms a.behind;
}

-- ── a label and a row to add ──

letter : is_label (bytes "x") ≡ true
unfolding is_label all is_label_byte is_word_byte is_letter is_digit is_space last_is no_two_spaces
letter = refl

unfoldable pub plain_row : ℕ → Row
plain_row w = bit_row (w ∷ []) (((120 ∷ replicate (2 * w - 2) 32) ∷ []) ∷ [])

plain_row_lem : (w : ℕ) → is_row_width w ≡ true → is_drawn_row row_lines_most w (plain_row w) ≡ true
unfolding plain_row all sum are_fitted
plain_row_lem w h = width_cases (λ v. is_drawn_row row_lines_most v (plain_row v) ≡ true) refl refl refl w h

-- ── from the last state to the first ──

module _ (p : Row → Bool) (plain : (w : ℕ) → is_row_width w ≡ true → p (plain_row w) ≡ true) where
  filled_ahead : (h : Top) (rows : List Row) (ls : List (List ℕ)) → Sane (filled h rows ls) → all is_line ls ≡ true
      → all p rows ≡ true
      → Ahead p (state_lines (filled h rows ls))
  unfolding all
  filled_ahead h rows ls s a g = record {
    frame = f;
    rows = g;
    kept = record {
      top = s.0;
      some_row = s.2;
      rows = s.1;
      some_line = more ls;
      lines = all_append is_line ls ([] ∷ []) a refl;
      brief = all_append is_brief ls ([] ∷ []) s.3 refl;
    };
    behind = [] ∷ [];
    is_begun = frame_lines_are f ∙ framed_more h rows ([] ∷ bytes "where:" ∷ [] ∷ ls) ([] ∷ []);
  }
    where
      f : Frame
      f = record { an = h.an; name = h.name; row_width = h.row_width; rows = rows; lines = ls ++ ([] ∷ []) }

      more : (l : List (List ℕ)) → is_empty (l ++ ([] ∷ [])) ≡ false
      more [] = refl
      more (x ∷ l) = refl

  closed_ahead : (h : Top) (rows : List Row) → Sane (closed h rows) → all p rows ≡ true
      → Ahead p (state_lines (closed h rows))
  unfolding all
  closed_ahead h rows s g =
      shorter p (state_lines (closed h rows)) (bytes "where:" ∷ [] ∷ []) (state_lines (filled h rows []))
      (framed_more h rows ([] ∷ []) (bytes "where:" ∷ [] ∷ [])) (filled_ahead h rows [] (s.0, s.1, s.2, refl) refl g)

  headed_ahead : (h : Top) (rows : List Row) → Sane (headed h rows) → all p rows ≡ true
      → Ahead p (state_lines (headed h rows))
  unfolding all
  headed_ahead h rows s g =
      shorter p (state_lines (headed h rows)) ([] ∷ []) (state_lines (filled h rows []))
      (framed_more h rows ([] ∷ bytes "where:" ∷ []) ([] ∷ [])) (filled_ahead h rows [] (s.0, s.1, s.2, refl) refl g)

  rowed_ahead : (h : Top) (rows : List Row) (r : Row) → Sane (rowed h rows r) → all p (rows ++ (r ∷ [])) ≡ true
      → Ahead p (state_lines (rowed h rows r))
  rowed_ahead h rows r s g =
      shorter p (state_lines (rowed h rows r)) (border h.row_width ∷ [] ∷ []) (state_lines (closed h (rows ++ (r ∷
      []))))
      (framed_row h rows r ([] ∷ []) ∙ framed_more h rows (row_lines r) (border h.row_width ∷ [] ∷ []))
      (closed_ahead h (rows ++ (r ∷ [])) (s.0, more_rows h rows r s.1 s.2, more rows) g)
    where
      more : (l : List Row) → is_empty (l ++ (r ∷ [])) ≡ false
      more [] = refl
      more (x ∷ l) = refl

  bordered_ahead : (h : Top) (rows : List Row) → Sane (bordered h rows) → all p rows ≡ true
      → Ahead p (state_lines (bordered h rows))
  unfolding all
  bordered_ahead h rows s g =
      let r : Row = plain_row h.row_width in
      shorter p (state_lines (bordered h rows)) (row_lines r) (state_lines (rowed h rows r))
      (framed_more h rows [] (row_lines r))
      (rowed_ahead h rows r (s.0, s.1, plain_row_lem h.row_width s.0.1)
      (all_append p rows (r ∷ []) g (and_both (p r) true (plain h.row_width s.0.1) refl)))

  ruled_ahead : (h : Top) → IsTop h → Ahead p (state_lines (ruled h))
  unfolding all joined
  ruled_ahead h s =
      shorter p (state_lines (ruled h)) (units h.row_width ∷ border h.row_width ∷ []) (state_lines (bordered h []))
      refl
      (bordered_ahead h [] (s, refl) refl)

  counted_ahead : (h : Top) → IsTop h → Ahead p (state_lines (counted h))
  unfolding all joined
  counted_ahead h s =
      shorter p (state_lines (counted h)) (border h.row_width ∷ []) (state_lines (bordered h [])) refl
      (bordered_ahead h [] (s, refl) refl)

  spaced_ahead : (an : Bool) (n : List ℕ) → is_label n ≡ true → Ahead p (state_lines (spaced an n))
  spaced_ahead an n s =
      let h : Top = record { an = an; name = n; row_width = 8 } in
      shorter p (state_lines (spaced an n)) (tens 8 ∷ []) (state_lines (ruled h)) refl (ruled_ahead h (s, refl))

  named_ahead : (an : Bool) (n : List ℕ) → is_label n ≡ true → Ahead p (state_lines (named an n))
  named_ahead an n s = shorter p (state_lines (named an n)) ([] ∷ []) (state_lines (spaced an n)) refl (spaced_ahead an
      n s)

  pub ahead_with : (s : State) → Sane s → all is_line (state_lines s) ≡ true → all p (rows_in s) ≡ true → Ahead p
      (state_lines s)
  ahead_with begun s a g =
      shorter p [] (state_lines (named false (bytes "x"))) (state_lines (named false (bytes "x"))) refl
      (named_ahead false (bytes "x") letter)
  ahead_with (named an n) s a g = named_ahead an n s
  ahead_with (spaced an n) s a g = spaced_ahead an n s
  ahead_with (ruled h) s a g = ruled_ahead h s
  ahead_with (counted h) s a g = counted_ahead h s
  ahead_with (bordered h rows) s a g = bordered_ahead h rows s g
  ahead_with (rowed h rows r) s a g = rowed_ahead h rows r s g
  ahead_with (closed h rows) s a g = closed_ahead h rows s g
  ahead_with (headed h rows) s a g = headed_ahead h rows s g
  ahead_with (filled h rows ls) s a g = filled_ahead h rows ls s (fields_are_lines h rows ls a) g

-- any frame that is drawn
pub ahead : (s : State) → Sane s → all is_line (state_lines s) ≡ true → Ahead (λ r. true) (state_lines s)
ahead s h a = ahead_with (λ r. true) (λ w e. refl) s h a (every (rows_in s))
  where
    every : (rows : List Row) → all (λ (r : Row). true) rows ≡ true
    every [] = unfold all in refl
    every (r ∷ rows) = let h = every rows in both rows h
      where
        both : (rows : List Row) → all (λ (r : Row). true) rows ≡ true → all (λ (r : Row). true) (r ∷ rows) ≡ true
        both rows h = unfold all in h
