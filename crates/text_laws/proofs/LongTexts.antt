-- A text with a line that is too long is refused by 3, and only 3 is what a text gets for it. [02, R-9]
use mathlib.Core.Path.{◌≡◌, refl, ap, sym, ◌∙◌, subst}
use mathlib.Core.Bool.{true, false, not}
use mathlib.Core.List.{List, [], ◌∷◌, ◌++◌, append_assoc}
use Prim.Native.Nat.{ℕ, suc, ◌+◌, ◌-◌, ◌≤◌, ◌<◌}
use native.Mathlib.Omega.{arith}
use native.Mathlib.Decide.{dec_lt}
use lib.Dec.{eqb}
use lib.ListN.{length, length-append, take}
use lib.Seq.{take-append-add}
use borrow.Author.Tests.{leb-true}
use Rattle.base.specs.Lists.{all, joined}
use Rattle.base.proofs.Lists.{all_append, all_front, all_back, not_both}
use Rattle.base.proofs.Breaks.{all_cons}
use Rattle.rules.specs.Limits.{text_most, line_most}
use Rattle.rules.specs.Names.{is_allowed, line_feed}
use Rattle.rules.specs.Editions.{current, any_line}
use Rattle.rules.specs.Frames.{Frame, is_line, is_brief, ended, frame_text, FrameOf}
use Rattle.rules.specs.Refusals.{line_count, Begins, RightLines, wrong_line, Refuses, Plain}
use Rattle.rules.specs.Refusals.{long, byte, line, many, form, rule}
use Rattle.rules.specs.Answers.{Answer, refused}
use Rattle.rules.specs.Promises.{Outcome, leaves, ReadsTextIn, ReadsText, spelled, refuses}
use Rattle.rules.specs.Results.{Brief, AnyLineAnswersStay, LongLineRefused, LongLinePlace}
use Rattle.text_laws.specs.FrameReader.{lines_of, rest}
use Rattle.text_laws.proofs.SplitLaws.{pieces_cons, pieces_joined, split_joined, pieces_are_free, rest_is_free}
use Rattle.text_laws.proofs.SplitLaws.{lines_joined, line_count_lines, first_lines_lines}
use Rattle.text_laws.proofs.FrameRun.{frame_kept, frame_lines, lines_are_lines}
use Rattle.text_laws.proofs.FrameRight.{take_lines}
use Rattle.text_laws.proofs.FrameExact.{frame_drawn}
use Rattle.text_laws.proofs.AllowedTexts.{spelled_allowed_in}
use Rattle.text_laws.proofs.LineLengths.{lines_are_brief}
use Rattle.text_laws.proofs.WrongPlaces.{wrong_low}
use Rattle.text_laws.proofs.TextResults.{text_unique}
use Rattle.text_laws.proofs.RowEditions.{frame_of_more}
use Rattle.text_laws.proofs.EarlierTexts.{formless_like, text_more}
use Rattle.text_laws.proofs.BriefTexts.{back, drawn_any, brief_stays}

-- ── what is read has no line that is too long ──

pub framed_brief : (t : List ℕ) (f : Frame) → FrameOf t f → all is_brief (lines_of t) ≡ true
unfolding frame_text
framed_brief t f h =
    let k = frame_kept f (frame_drawn t f h).drawn in
    let is : lines_of t ≡ frame_lines f =
    ap lines_of (sym h.is_text) ∙ lines_joined (frame_lines f) (lines_are_lines f k) in
    rw is (lines_are_brief f k)

pub begun_brief : (t : List ℕ) (k : ℕ) → k ≤ line_count t → Begins t k → all is_brief (take k (lines_of t)) ≡ true
unfolding frame_text
begun_brief t k le b =
    let kept = frame_kept b.frame b.drawn in
    let split : frame_lines b.frame ≡ take k (lines_of t) ++ lines_of b.behind =
    sym (lines_joined (frame_lines b.frame) (lines_are_lines b.frame kept))
    ∙ ap lines_of (b.is_text ∙ ap (λ (m : List ℕ). m ++ b.behind)
    (first_lines_lines k t (rw (line_count_lines t) at le)))
    ∙ pieces_joined line_feed (take k (lines_of t)) b.behind (take_lines k t) in
    all_front is_brief (take k (lines_of t)) (lines_of b.behind)
    (subst (λ (ls : List (List ℕ)). all is_brief ls ≡ true) split (lines_are_brief b.frame kept))

-- ── a line that is too long ──

module _ (text : List ℕ) (before : List (List ℕ)) (l behind : List ℕ)
    (is : text ≡ joined ended before ++ (ended l ++ behind)) (lines : all is_line (l ∷ before) ≡ true)
    (over : line_most < length l) where
  split : lines_of text ≡ before ++ (l ∷ lines_of behind)
  split =
      let x = all_cons is_line l before lines in
      ap lines_of is
      ∙ pieces_joined line_feed before (ended l ++ behind) x.1
      ∙ ap (λ (m : List (List ℕ)). before ++ m)
      (ap lines_of (append_assoc l (line_feed ∷ []) behind) ∙ pieces_cons line_feed l behind x.0)

  not_brief : (more : List (List ℕ)) → all is_brief (before ++ (l ∷ more)) ≡ true → ⊥
  not_brief more a =
      let b = all_cons is_brief l more (all_back is_brief before (l ∷ more) a) in
      let le = leb-true (length l) line_most b.0 in
      absurd (omega (arith, le, over))

  no_frame : (f : Frame) → FrameOf text f → ⊥
  no_frame f h =
      not_brief (lines_of behind)
      (subst (λ (ls : List (List ℕ)). all is_brief ls ≡ true) split (framed_brief text f h))

  -- so many lines at most are right
  few_right : (k : ℕ) → k ≤ line_count text → Begins text k → k ≤ length before
  few_right k le b = go (dec_lt (length before) k)
    where
      go : Dec (length before < k) → k ≤ length before
      go (no h) = omega arith
      go (yes h) = absurd (longer (k - suc (length before)) (omega (arith, h)))
        where
          longer : (n : ℕ) → k ≡ length before + suc n → ⊥
          longer n e =
              let first : take k (lines_of text) ≡ before ++ (l ∷ take n (lines_of behind)) =
              ap (λ (m : ℕ). take m (lines_of text)) e
              ∙ ap (λ (ls : List (List ℕ)). take (length before + suc n) ls) split
              ∙ take-append-add before (l ∷ lines_of behind) (suc n) in
              not_brief (take n (lines_of behind))
              (subst (λ (ls : List (List ℕ)). all is_brief ls ≡ true) first (begun_brief text k le b))

  -- and these are, where they begin a frame that is drawn right
  abbrev right : Begins text (length before) → RightLines text (length before)
  right b = record {
    there = let n = line_count_lines text in
        let m = ap length split in
        let k = length-append before (l ∷ lines_of behind) in
        omega (arith, n, m, k);
    begins = b;
    most = λ j lt le c. let few = few_right j le c in absurd (omega (arith, lt, few));
  }

  refused_there : Plain text → (b : Begins text (length before)) → (out : List ℕ)
      → ReadsText text out (leaves (refused 3 (wrong_line (length before) b.frame)) out)
  refused_there plain b out = refuses (line plain no_frame (right b))

  abbrev Told : List ℕ → Outcome → Type 0
  Told out o = (o.answer.number ≡ 3) × (o.answer.place ≤ suc (length before)) × (o.buffer ≡ out)

  refusal : (out : List ℕ) (a : Answer) → Plain text → Refuses text a → Told out (leaves a out)
  refusal out a plain (long h) = absurd (let le = plain.size in omega (arith, le, h))
  refusal out a plain (byte h e) = absurd (not_both (all is_allowed text) plain.bytes e)
  refusal out a plain (line {k} p q r) =
      let low = wrong_low k r.begins.frame in
      let few = few_right k r.there r.begins in
      (refl, omega (arith, low, few), refl)
  refusal out a plain (many {f} p q r) = absurd (no_frame f q)
  refusal out a plain (form {f} w q) = absurd (no_frame f w.is_frame_of)
  refusal out a plain (rule {f} forms w q r) = absurd (no_frame f w.is_frame_of)

  told : (out : List ℕ) (o : Outcome) → Plain text → ReadsText text out o → Told out o
  told out o plain (spelled le s) = absurd (no_frame s.frame s.is_frame_of)
  told out o plain (refuses {a} r) = refusal out a plain r

pub long_line_refused : LongLineRefused
long_line_refused text before l behind plain is lines over out o r =
    told text before l behind is lines over out o plain r

pub long_line_place : LongLinePlace
long_line_place text before l behind plain is lines over b out o r =
    text_unique text out o (leaves (refused 3 (wrong_line (length before) b.frame)) out) r
    (refused_there text before l behind is lines over plain b out)

-- ── an answer that changed ──

-- a text that has a frame has no such line
frame_is_brief : (t : List ℕ) (f : Frame) → FrameOf t f → Brief t
frame_is_brief t f h before l behind is e =
    let r = rest line_feed before in
    let ls = lines_of before in
    let free : is_line (r ++ l) ≡ true =
    all_append (λ b. not (eqb b line_feed)) r l (rest_is_free line_feed before) e in
    let text : t ≡ joined ended ls ++ ((r ++ l) ++ (line_feed ∷ behind)) =
    is
    ∙ ap (λ (s : List ℕ). s ++ (ended l ++ behind)) (sym (split_joined line_feed before))
    ∙ append_assoc (joined ended ls) r (ended l ++ behind)
    ∙ ap (λ (s : List ℕ). joined ended ls ++ s)
    (ap (λ (s : List ℕ). r ++ s) (append_assoc l (line_feed ∷ []) behind)
    ∙ sym (append_assoc r l (line_feed ∷ behind))) in
    let lines : lines_of t ≡ ls ++ ((r ++ l) ∷ lines_of behind) =
    ap lines_of text
    ∙ pieces_joined line_feed ls ((r ++ l) ++ (line_feed ∷ behind)) (pieces_are_free line_feed before)
    ∙ ap (λ (m : List (List ℕ)). ls ++ m) (pieces_cons line_feed (r ++ l) behind free) in
    let brief = all_cons is_brief (r ++ l) (lines_of behind) (all_back is_brief ls ((r ++ l) ∷ lines_of behind)
    (subst (λ (m : List (List ℕ)). all is_brief m ≡ true) lines (framed_brief t f h))) in
    let le = leb-true (length (r ++ l)) line_most brief.0 in
    let n = length-append r l in
    omega (arith, le, n)

any_long : (text out : List ℕ) (o : Outcome) → text_most < length text → ReadsTextIn any_line text out o
    → o ≡ leaves (refused 1 0) out
any_long text out o lt (spelled le s) = absurd (omega (arith, lt, le))
any_long text out o lt (refuses (long h)) = refl
any_long text out o lt (refuses (byte h e)) = absurd (omega (arith, lt, h))
any_long text out o lt (refuses (line p q r)) = absurd (let le = p.size in omega (arith, lt, le))
any_long text out o lt (refuses (many p q r)) = absurd (let le = p.size in omega (arith, lt, le))
any_long text out o lt (refuses (form w q)) = absurd (let le = w.plain.size in omega (arith, lt, le))
any_long text out o lt (refuses (rule forms w q r)) = absurd (let le = w.plain.size in omega (arith, lt, le))

any_byte : (text out : List ℕ) (o : Outcome) → length text ≤ text_most → all is_allowed text ≡ false
    → ReadsTextIn any_line text out o → o ≡ leaves (refused 2 0) out
any_byte text out o le e (spelled {d} h s) =
    absurd (not_both (all is_allowed text) (spelled_allowed_in any_line refl text d s) e)
any_byte text out o le e (refuses (long h)) = absurd (omega (arith, h, le))
any_byte text out o le e (refuses (byte h k)) = refl
any_byte text out o le e (refuses (line p q r)) = absurd (not_both (all is_allowed text) p.bytes e)
any_byte text out o le e (refuses (many p q r)) = absurd (not_both (all is_allowed text) p.bytes e)
any_byte text out o le e (refuses (form w q)) = absurd (not_both (all is_allowed text) w.plain.bytes e)
any_byte text out o le e (refuses (rule forms w q r)) = absurd (not_both (all is_allowed text) w.plain.bytes e)

module _ (text out : List ℕ) (o : Outcome) (any : ReadsTextIn any_line text out o) where
  by_frame_lem : (f : Frame) → FrameOf text f → (p : Outcome) → ReadsText text out p → o ≡ p
  by_frame_lem f h p now = text_unique text out o p ((brief_stays text (frame_is_brief text f h) out o).0 any) now

  by_answer : (a : Answer) → Refuses text a → (a.number ≡ 3 → ⊥) → o ≡ leaves a out
  by_answer a (long h) ne = any_long text out o h any
  by_answer a (byte h e) ne = any_byte text out o h e any
  by_answer a (line p q r) ne = absurd (ne refl)
  by_answer a (many {f} p q r) ne = by_frame_lem f q (leaves a out) (refuses (many p q r))
  by_answer a (form {f} w q) ne = by_frame_lem f w.is_frame_of (leaves a out) (refuses (form w q))
  by_answer a (rule {f} forms w q r) ne = by_frame_lem f w.is_frame_of (leaves a out) (refuses (rule forms w q r))

  by_outcome : (p : Outcome) → ReadsText text out p → (p.answer.number ≡ 3 → ⊥) → o ≡ p
  by_outcome p (spelled le s) ne = by_frame_lem s.frame s.is_frame_of p (spelled le s)
  by_outcome p (refuses {a} r) ne = by_answer a r ne

pub any_line_answers_stay : AnyLineAnswersStay
any_line_answers_stay text out o now ne = (
  text_more current any_line back text (frame_of_more current any_line drawn_any text)
      (record { kind = refl; keeps = refl }) out o now (λ k e. absurd (ne e)) (λ f e h. h)
      (λ lines i e q. formless_like any_line current (λ o h. h) (λ o h. h) lines i q),
  λ p any. by_outcome text out p any o now ne,
)
