-- Texts without a further line of a row: those of a frame whose rows have one line, and those without two lines that
-- have the same bars. [02, R-1]
use mathlib.Core.Path.{◌≡◌, refl, ap, sym, ◌∙◌, subst}
use mathlib.Core.Bool.{Bool, true, false, ◌&&◌}
use mathlib.Core.List.{List, [], ◌∷◌, ◌++◌, map, append_assoc}
use mathlib.Core.Option.{Option, none, some}
use Prim.Native.Nat.{ℕ, ◌≤◌}
use lib.Dec.{eqb}
use lib.ListN.{length, take, drop, take-append-drop}
use Rattle.base.specs.Lists.{all, joined, between, sum}
use Rattle.base.proofs.Lists.{and_left, and_right, and_both, all_append, all_back, not_both}
use Rattle.base.proofs.Breaks.{all_cons}
use Rattle.base.proofs.Joined.{joined_append}
use Rattle.rules.specs.Names.{line_feed}
use Rattle.rules.specs.Limits.{row_lines_most}
use Rattle.rules.specs.Within.{is_row_width}
use Rattle.rules.specs.Editions.{one_line}
use Rattle.rules.specs.Rows.{Row, bit_row, long_row, bar_line, row_lines, are_fitted, is_drawn_row, is_labelled}
use Rattle.rules.specs.Frames.{is_line, ended, border, is_drawn_in}
use Rattle.rules.specs.Refusals.{line_count, BeginsIn}
use Rattle.rules.specs.Results.{OneLineFramed, NoFurtherLine, NoFurtherOneLined}
use Rattle.text_laws.specs.Bars.{alike, same_bars}
use Rattle.text_laws.specs.FrameReader.{lines_of, rest, Top, State, begun, named, spaced, ruled, counted}
use Rattle.text_laws.specs.FrameReader.{bordered, rowed, closed, headed, filled, run, rows_in}
use Rattle.text_laws.proofs.SameBars.{fit_bars}
use Rattle.text_laws.proofs.SplitLaws.{split_joined, line_count_lines, first_lines_lines}
use Rattle.text_laws.proofs.FrameStates.{state_lines, pairs, framed, Sane, Reached, AreRows}
use Rattle.text_laws.proofs.FrameSound.{run_sound, framed_more}
use Rattle.text_laws.proofs.FrameRight.{take_lines, ahead_text, begins_run}
use Rattle.text_laws.proofs.FrameRun.{kept_frame}
use Rattle.text_laws.proofs.FrameAhead.{plain_row, Ahead, ahead_with}
use Rattle.text_laws.proofs.RowEditions.{is_one_line, drawn_one}

-- ── the text of a frame ──

pub one_line_framed : OneLineFramed
one_line_framed text f h k le b = record {
  frame = f;
  drawn = and_left (is_drawn_in one_line f) (all is_labelled f.rows) h.is_framed;
  behind = joined ended (drop k (lines_of text)) ++ rest line_feed text;
  is_text = h.is_text
      ∙ sym (split_joined line_feed text)
      ∙ ap (λ (ls : List (List ℕ)). joined ended ls ++ rest line_feed text) (sym (take-append-drop k (lines_of text)))
      ∙ ap (λ (m : List ℕ). m ++ rest line_feed text)
      (joined_append ended (take k (lines_of text)) (drop k (lines_of text)))
      ∙ append_assoc (joined ended (take k (lines_of text))) (joined ended (drop k (lines_of text)))
      (rest line_feed text)
      ∙ ap (λ (m : List ℕ). m ++ (joined ended (drop k (lines_of text)) ++ rest line_feed text))
      (sym (first_lines_lines k text (rw (line_count_lines text) at le)));
}

-- ── two lines with the same bars ──

abbrev bars : List ℕ → List Bool
bars l = map (λ b. eqb b 124) l

alike_same : (x y : Bool) → alike x y ≡ true → x ≡ y
alike_same true true h = refl
alike_same false false h = refl
alike_same true false h = absurd (not_both false h refl)
alike_same false true h = absurd (not_both false h refl)

bars_same : (l m : List ℕ) → same_bars l m ≡ true → bars l ≡ bars m
unfolding same_bars
bars_same [] [] h = refl
bars_same [] (b ∷ m) h = absurd (not_both false h refl)
bars_same (a ∷ l) [] h = absurd (not_both false h refl)
bars_same (a ∷ l) (b ∷ m) h =
    let x = alike_same (eqb a 124) (eqb b 124) (and_left (alike (eqb a 124) (eqb b 124)) (same_bars l m) h) in
    let y = bars_same l m (and_right (alike (eqb a 124) (eqb b 124)) (same_bars l m) h) in
    ap (λ (c : Bool). c ∷ bars l) x ∙ ap (λ (bs : List Bool). eqb b 124 ∷ bs) y

record Pair (ls : List (List ℕ)) : Type 0 where
  before : List (List ℕ)
  first : List ℕ
  second : List ℕ
  after : List (List ℕ)
  is_pair : ls ≡ before ++ ((124 ∷ first) ∷ second ∷ after)
  same : bars (124 ∷ first) ≡ bars second

pair_front : (a b : List (List ℕ)) → Pair a → Pair (a ++ b)
pair_front a b p = record {
  before = p.before;
  first = p.first;
  second = p.second;
  after = p.after ++ b;
  is_pair = ap (λ (m : List (List ℕ)). m ++ b) p.is_pair
      ∙ append_assoc p.before ((124 ∷ p.first) ∷ p.second ∷ p.after) b;
  same = p.same;
}

pair_back : (a b : List (List ℕ)) → Pair b → Pair (a ++ b)
pair_back a b p = record {
  before = a ++ p.before;
  first = p.first;
  second = p.second;
  after = p.after;
  is_pair = ap (λ (m : List (List ℕ)). a ++ m) p.is_pair
      ∙ sym (append_assoc a p.before ((124 ∷ p.first) ∷ p.second ∷ p.after));
  same = p.same;
}

-- ── the rows of lines without such two ──

row_one : (w : ℕ) (r : Row) → is_drawn_row row_lines_most w r ≡ true → (Pair (row_lines r) → ⊥) → is_one_line r ≡ true
unfolding row_lines all
row_one w (long_row bits s) h q = refl
row_one w (bit_row bits (ss ∷ [])) h q = refl
row_one w (bit_row bits []) h q =
    absurd (not_both false (and_right (eqb (sum (λ n. n) bits) w) false h) refl)
row_one w (bit_row bits (ss ∷ ts ∷ lines)) h q =
    let c = all (are_fitted bits) (ss ∷ ts ∷ lines) in
    let n = between 1 (length (ss ∷ ts ∷ lines)) row_lines_most in
    let x = and_right n c (and_right (eqb (sum (λ n. n) bits) w) (n && c) h) in
    let y = all_cons (are_fitted bits) ss (ts ∷ lines) x in
    let z = all_cons (are_fitted bits) ts lines y.1 in
    absurd (q (record {
      before = [];
      first = joined (λ s. s ++ (124 ∷ [])) ss;
      second = bar_line ts;
      after = map bar_line lines;
      is_pair = refl;
      same = bars_same (bar_line ss) (bar_line ts) (fit_bars bits ss ts y.0 z.0);
    }))

rows_one : (w : ℕ) (rows : List Row) → all (is_drawn_row row_lines_most w) rows ≡ true → (Pair (pairs w rows) → ⊥)
    → all is_one_line rows ≡ true
unfolding all joined
rows_one w [] h q = refl
rows_one w (r ∷ rows) h q =
    let x = all_cons (is_drawn_row row_lines_most w) r rows h in
    let ls = row_lines r ++ (border w ∷ []) in
    and_both (is_one_line r) (all is_one_line rows)
    (row_one w r x.0 (λ p. q (pair_front ls (pairs w rows) (pair_front (row_lines r) (border w ∷ []) p))))
    (rows_one w rows x.1 (λ p. q (pair_back ls (pairs w rows) p)))

framed_one : (h : Top) (rows : List Row) (m : List (List ℕ)) → AreRows h rows → (Pair (framed h rows m) → ⊥)
    → all is_one_line rows ≡ true
unfolding joined
framed_one h rows m a q = rows_one h.row_width rows a (λ p. q (pair_back top (pairs h.row_width rows ++ m)
    (pair_front (pairs h.row_width rows) m p)))
  where
    top : List (List ℕ)
    top = framed h [] []

state_one : (q : State) → Sane q → (Pair (state_lines q) → ⊥) → all is_one_line (rows_in q) ≡ true
unfolding all
state_one begun s n = refl
state_one (named an a) s n = refl
state_one (spaced an a) s n = refl
state_one (ruled h) s n = refl
state_one (counted h) s n = refl
state_one (bordered h rows) s n = framed_one h rows [] s.1 n
state_one (closed h rows) s n = framed_one h rows _ s.1 n
state_one (headed h rows) s n = framed_one h rows _ s.1 n
state_one (filled h rows ls) s n = framed_one h rows _ s.1 n
state_one (rowed h rows r) s n =
    all_append is_one_line rows (r ∷ []) (framed_one h rows (row_lines r) s.1 n)
    (and_both (is_one_line r) true
    (row_one h.row_width r s.2
    (λ p. n (subst Pair (sym (framed_more h rows [] (row_lines r))) (pair_back (framed h rows []) (row_lines r) p))))
    refl)

-- ── the text ──

-- the lines of a state whose rows have one line begin a frame whose rows have one
one_begins : (t : List ℕ) (k : ℕ) (q : State) → k ≤ line_count t → Reached (take k (lines_of t)) (some q)
    → all is_one_line (rows_in q) ≡ true → BeginsIn one_line t k
one_begins t k q le r f = begin (ahead_with is_one_line plain q r.0 (rw r.1 (take_lines k t)) f)
  where
    plain : (w : ℕ) → is_row_width w ≡ true → is_one_line (plain_row w) ≡ true
    plain w h = unfold plain_row row_lines in refl

    begin : Ahead is_one_line (state_lines q) → BeginsIn one_line t k
    begin a = record {
      frame = a.frame;
      drawn = drawn_one a.frame a.rows (kept_frame a.frame a.kept);
      behind = joined ended a.behind;
      is_text = ahead_text is_one_line t k q le r.1 a;
    }

-- a text of which no two lines have such bars has none in its first lines
no_pair : (t : List ℕ) (k : ℕ) → NoFurtherLine t → Pair (take k (lines_of t)) → ⊥
unfolding all
no_pair t k n p = n p.before p.first p.second behind text lines p.same
  where
    two : List (List ℕ)
    two = (124 ∷ p.first) ∷ p.second ∷ []

    last : List (List ℕ)
    last = p.after ++ drop k (lines_of t)

    behind : List ℕ
    behind = joined ended last ++ rest line_feed t

    split : lines_of t ≡ (p.before ++ two) ++ last
    split =
        sym (take-append-drop k (lines_of t))
        ∙ ap (λ (m : List (List ℕ)). m ++ drop k (lines_of t)) p.is_pair
        ∙ append_assoc p.before (two ++ p.after) (drop k (lines_of t))
        ∙ sym (append_assoc p.before two last)

    text : t ≡ joined ended (p.before ++ two) ++ behind
    text =
        sym (split_joined line_feed t)
        ∙ ap (λ (ls : List (List ℕ)). joined ended ls ++ rest line_feed t) split
        ∙ ap (λ (m : List ℕ). m ++ rest line_feed t) (joined_append ended (p.before ++ two) last)
        ∙ append_assoc (joined ended (p.before ++ two)) (joined ended last) (rest line_feed t)

    lines : all is_line (p.first ∷ p.second ∷ []) ≡ true
    lines =
        let a = all_back is_line p.before ((124 ∷ p.first) ∷ p.second ∷ p.after)
        (subst (λ (ls : List (List ℕ)). all is_line ls ≡ true) p.is_pair (take_lines k t)) in
        let x = all_cons is_line (124 ∷ p.first) (p.second ∷ p.after) a in
        let y = all_cons is_line p.second p.after x.1 in
        and_both (is_line p.first) (is_line p.second && true) x.0
        (and_both (is_line p.second) true y.0 refl)

pub no_further_one_lined : NoFurtherOneLined
no_further_one_lined t n k le b = go (run begun (take k (lines_of t))) refl
  where
    go : (o : Option State) → run begun (take k (lines_of t)) ≡ o → BeginsIn one_line t k
    go none e = absurd (begins_run t k le b e)
    go (some q) e =
        let r : Reached (take k (lines_of t)) (some q) = rw e at (run_sound (take k (lines_of t)) begun [] tt refl) in
        one_begins t k q le r (state_one q r.0 (λ p. no_pair t k n (subst Pair r.1 p)))
