-- How many lines are right: the first k lines of a text begin a frame where the reader takes them, and there is one
-- greatest such number for each text.
use mathlib.Core.Path.{◌≡◌, refl, ap, sym, ◌∙◌}
use mathlib.Core.Bool.{Bool, true, false}
use mathlib.Core.List.{List, [], ◌∷◌, ◌++◌}
use mathlib.Core.Option.{Option, none, some}
use Prim.Native.Nat.{ℕ, zero, suc, ◌≤◌, ◌<◌}
use native.Mathlib.Omega.{arith}
use lib.Dec.{ltb}
use lib.ListN.{length, take, drop, take-append-drop}
use borrow.Author.Tests.{ltb-true, ltb-false}
use Rattle.base.specs.Lists.{all, joined}
use Rattle.base.proofs.Lists.{all_front}
use Rattle.base.proofs.Joined.{joined_append}
use Rattle.rules.specs.Names.{line_feed}
use Rattle.rules.specs.Frames.{is_line, ended, Frame, frame_text}
use Rattle.rules.specs.Rows.{Row}
use Rattle.rules.specs.Refusals.{line_count, first_lines, Begins, RightLines}
use Rattle.text_laws.specs.FrameReader.{lines_of, State, begun, filled, step, on_state, run, right_from}
use Rattle.text_laws.specs.FrameReader.{right_lines}
use Rattle.text_laws.proofs.SplitLaws.{pieces_joined, pieces_are_free, lines_joined, line_count_lines}
use Rattle.text_laws.proofs.SplitLaws.{first_lines_lines}
use Rattle.text_laws.proofs.FrameStates.{state_lines, Reached}
use Rattle.text_laws.proofs.FrameSound.{run_sound}
use Rattle.text_laws.proofs.FrameRun.{top_of, frame_kept, kept_frame, frame_lines, frame_lines_are}
use Rattle.text_laws.proofs.FrameRun.{lines_are_lines, run_filled}
use Rattle.text_laws.proofs.FrameAhead.{Ahead, ahead}

-- ── the number of lines that are read ──

pub right_there : (ls : List (List ℕ)) (s : State) → right_from s ls ≤ length ls
unfolding right_from
right_there [] s = omega arith
right_there (l ∷ ls) s = go (step s l) (right_there ls)
  where
    go : (o : Option State) → ((q : State) → right_from q ls ≤ length ls)
        → on_state 0 (λ q. suc (right_from q ls)) o ≤ suc (length ls)
    go none f = omega arith
    go (some q) f = let h = f q in omega arith

-- so many are read
pub right_run : (ls : List (List ℕ)) (s : State) → (q : State) × (run s (take (right_from s ls) ls) ≡ some q)
unfolding right_from run
right_run [] s = (s, refl)
right_run (l ∷ ls) s = go (step s l) refl (right_run ls)
  where
    go : (o : Option State) → step s l ≡ o → ((q : State) → (p : State) × (run q (take (right_from q ls) ls) ≡ some p))
        → (p : State) × (run s (take (on_state 0 (λ q. suc (right_from q ls)) o) (l ∷ ls)) ≡ some p)
    go none e f = (s, refl)
    go (some q) e f = let w = f q in (w.0, rw e w.1)

-- and no more
pub right_most : (ls : List (List ℕ)) (s : State) (j : ℕ) → right_from s ls < j → j ≤ length ls
    → run s (take j ls) ≡ none
unfolding right_from run
right_most [] s j lt le = absurd (omega arith)
right_most (l ∷ ls) s zero lt le = absurd (omega arith)
right_most (l ∷ ls) s (suc j) lt le = go (step s l) (right_most ls) lt
  where
    go : (o : Option State)
        → ((q : State) (j : ℕ) → right_from q ls < j → j ≤ length ls → run q (take j ls) ≡ none)
        → on_state 0 (λ q. suc (right_from q ls)) o < suc j
        → on_state none (λ q. run q (take j ls)) o ≡ none
    go none f h = refl
    go (some q) f h = f q j (omega arith) (omega arith)

-- ── lines that are read begin a frame, and the other way round ──

pub run_append : (a b : List (List ℕ)) (s : State) → run s (a ++ b) ≡ on_state none (λ q. run q b) (run s a)
unfolding run
run_append [] b s = refl
run_append (l ∷ a) b s = go (step s l) (run_append a b)
  where
    go : (o : Option State) → ((q : State) → run q (a ++ b) ≡ on_state none (λ p. run p b) (run q a))
        → on_state none (λ q. run q (a ++ b)) o ≡ on_state none (λ p. run p b) (on_state none (λ q. run q a) o)
    go none f = refl
    go (some q) f = f q

pub take_lines : (k : ℕ) (t : List ℕ) → all is_line (take k (lines_of t)) ≡ true
take_lines k t =
    all_front is_line (take k (lines_of t)) (drop k (lines_of t))
    (rw (take-append-drop k (lines_of t)) (pieces_are_free line_feed t))

-- the text of a frame that begins with the lines of a state
pub ahead_text : (p : Row → Bool) (t : List ℕ) (k : ℕ) (q : State) → k ≤ line_count t
    → state_lines q ≡ take k (lines_of t) → (a : Ahead p (state_lines q))
    → frame_text a.frame ≡ first_lines k t ++ joined ended a.behind
unfolding frame_text
ahead_text p t k q le e a =
    ap (joined ended) (a.is_begun ∙ ap (λ (m : List (List ℕ)). m ++ a.behind) e)
    ∙ joined_append ended (take k (lines_of t)) a.behind
    ∙ ap (λ (m : List ℕ). m ++ joined ended a.behind)
    (sym (first_lines_lines k t (rw (line_count_lines t) at le)))

pub run_begins : (t : List ℕ) (k : ℕ) (q : State) → k ≤ line_count t → run begun (take k (lines_of t)) ≡ some q
    → Begins t k
run_begins t k q le e = begin (ahead q r.0 (rw r.1 (take_lines k t)))
  where
    r : Reached (take k (lines_of t)) (some q)
    r = rw e at (run_sound (take k (lines_of t)) begun [] tt refl)

    begin : Ahead (λ r. true) (state_lines q) → Begins t k
    begin a = record {
      frame = a.frame;
      drawn = kept_frame a.frame a.kept;
      behind = joined ended a.behind;
      is_text = ahead_text (λ r. true) t k q le r.1 a;
    }

pub begins_run : (t : List ℕ) (k : ℕ) → k ≤ line_count t → Begins t k → run begun (take k (lines_of t)) ≡ none → ⊥
unfolding frame_text
begins_run t k le b e =
    let f : Frame = b.frame in
    let kept = frame_kept f b.drawn in
    let ls : List (List ℕ) = take k (lines_of t) in
    let text : frame_text f ≡ joined ended ls ++ b.behind
    = b.is_text ∙ ap (λ (m : List ℕ). m ++ b.behind) (first_lines_lines k t (rw (line_count_lines t) at le)) in
    let split : frame_lines f ≡ ls ++ lines_of b.behind
    = sym (lines_joined (frame_lines f) (lines_are_lines f kept))
    ∙ ap lines_of text
    ∙ pieces_joined line_feed ls b.behind (take_lines k t) in
    let all_read : run begun (frame_lines f) ≡ some (filled (top_of f) f.rows f.lines)
    = ap (run begun) (frame_lines_are f)
    ∙ run_filled (top_of f) f.rows f.lines kept.top kept.rows kept.some_row
    kept.brief in
    let none_read : run begun (frame_lines f) ≡ none
    = ap (run begun) split ∙ run_append ls (lines_of b.behind) begun
    ∙ ap (on_state none (λ q. run q (lines_of b.behind))) e in
    absurd (let z : ◌≡◌ {A = ℕ} 0 1 = cc in omega arith)

-- whether the first k lines begin a frame is decided
pub begins_decidable : (t : List ℕ) (k : ℕ) → k ≤ line_count t → Dec (Begins t k)
begins_decidable t k le = go (run begun (take k (lines_of t))) refl
  where
    go : (o : Option State) → run begun (take k (lines_of t)) ≡ o → Dec (Begins t k)
    go none e = no (λ b. begins_run t k le b e)
    go (some q) e = yes (run_begins t k q le e)

-- ── the greatest number ──

pub right_lines_lem : (t : List ℕ) → RightLines t (right_lines t)
unfolding right_lines
right_lines_lem t = record {
  there = there;
  begins = let w = right_run (lines_of t) begun in run_begins t (right_from begun (lines_of t)) w.0 there w.1;
  most = λ j lt le b. begins_run t j le b (right_most (lines_of t) begun j lt (rw (line_count_lines t) at le));
}
  where
    there : right_from begun (lines_of t) ≤ line_count t
    there = rw (line_count_lines t) (right_there (lines_of t) begun)

pub right_unique : (t : List ℕ) (j k : ℕ) → RightLines t j → RightLines t k → j ≡ k
right_unique t j k x y = go (ltb j k) refl (ltb k j) refl
  where
    go : (a : Bool) → ltb j k ≡ a → (b : Bool) → ltb k j ≡ b → j ≡ k
    go true p b q = absurd (x.most k (ltb-true j k p) y.there y.begins)
    go false p true q = absurd (y.most j (ltb-true k j q) x.there x.begins)
    go false p false q = let c = ltb-false j k p in let d = ltb-false k j q in omega arith

-- the number that the reader counts
pub right_exact : (t : List ℕ) (k : ℕ) → RightLines t k → k ≡ right_lines t
right_exact t k x = right_unique t k (right_lines t) x (right_lines_lem t)
