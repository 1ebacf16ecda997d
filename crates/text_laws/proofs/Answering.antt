-- The outcome that the fold gives at the end is the one that 01 gives: the main law.
use mathlib.Core.Path.{◌≡◌, refl, ap, ap₂, sym, ◌∙◌, subst}
use mathlib.Core.Bool.{Bool, true, false, cond}
use mathlib.Core.List.{List, [], ◌∷◌, ◌++◌, foldl}
use mathlib.Core.Option.{Option, none, some, map}
use Prim.Native.Nat.{ℕ, suc, ◌+◌, ◌≤◌, ◌<◌}
use native.Mathlib.Omega.{arith}
use native.Mathlib.Decide.{dec_lt}
use lib.Dec.{ltb}
use lib.ListN.{length, length-append, length-map, take}
use lib.Seq.{take_all}
use borrow.Author.Tests.{le-ltb, ltb-true, ltb-false}
use Rattle.base.specs.Lists.{all, is_empty, joined}
use Rattle.base.proofs.Lookups.{each_length}
use Rattle.rules.specs.Answers.{Answer, refused}
use Rattle.rules.specs.Limits.{text_most, line_most, fields_most}
use Rattle.rules.specs.Names.{is_allowed, line_feed}
use Rattle.rules.specs.Fields.{Form, Description}
use Rattle.rules.specs.Stored.{stored}
use Rattle.rules.specs.Lines.{SpellsField, Unresolved}
use Rattle.rules.specs.Rows.{Row}
use Rattle.rules.specs.Frames.{Frame, frame_text, FrameOf, head_lines, slots_in, cells, is_overfull}
use Rattle.rules.specs.Refusals.{rule_broken, Plain, Framed, Refuses, long, byte, line, many, form, rule}
use Rattle.rules.specs.Promises.{Outcome, leaves, delivered, ReadsText, spelled, refuses}
use Rattle.text_laws.specs.FrameReader.{rest, lines_of, Top, State, begun, named, spaced, ruled, counted}
use Rattle.text_laws.specs.FrameReader.{bordered, rowed, closed, headed, filled, right_lines, whole, read_frame}
use Rattle.text_laws.specs.FrameReader.{strict_run, stop_at, strict_place}
use Rattle.text_laws.specs.Resolving.{resolve, described}
use Rattle.text_laws.proofs.SplitLaws.{lines_joined}
use Rattle.text_laws.proofs.FrameRun.{frame_kept, frame_lines, lines_are_lines}
use Rattle.text_laws.proofs.FrameRight.{right_lines_lem}
use Rattle.text_laws.proofs.FramePlace.{place_right}
use Rattle.text_laws.proofs.StrictTexts.{strict_place_lem, strict_read, strict_unread, strict_end}
use Rattle.text_laws.proofs.FrameExact.{frame_sound, frame_none, frame_drawn}
use Rattle.text_laws.proofs.NamedTypes.{rules_kept}
use Rattle.text_laws.proofs.Resolve.{resolved_spells}
use Rattle.text_laws.specs.Lowest.{lower}
use Rattle.text_laws.specs.Judging.{face}
use Rattle.text_laws.specs.Fold.{Stage, opening, blank, tens_ruler, units_ruler, top_border, first_row, in_row}
use Rattle.text_laws.specs.Fold.{row_or_blank, where_line, last_blank, first_field, field_line, lost, Found, start}
use Rattle.text_laws.specs.Fold.{Kept, fresh, lined, is_lost, cut, wrong, unended, kept, early, uncelled}
use Rattle.text_laws.specs.Fold.{lowest_at, found_description, outcome, finish}
use Rattle.text_laws.proofs.Lowests.{Above, lower_stays}
use Rattle.text_laws.proofs.Resolved.{folded, folded_faces, folded_all}
use Rattle.text_laws.proofs.Judges.{Spelled, Judges, all_kept, over_size, no_form_at}
use Rattle.text_laws.proofs.HeadFills.{Fills, fits, spills}
use Rattle.text_laws.proofs.Heads.{stage_of, Stands, start_stands, stands_blamed, Ran, run_stands}
use Rattle.text_laws.proofs.Fed.{lost_stage, kept_lines, Lost, too_long, bad_bytes}
use Rattle.text_laws.proofs.Ended.{remaining, rules_found}

-- ── 1 and 2 ──

lost_finish : (n : ℕ) (k : Kept) (out : List ℕ) → Lost n k → finish k out ≡ leaves (refused n 0) out
unfolding finish lowest_at
lost_finish n k out h =
    ap (λ (s : Stage). outcome k.found out (lowest_at s k.line k.found)) h.0
    ∙ ap (outcome k.found out) h.1

refused_by_lem : (text out : List ℕ) (k : Kept) (a : Answer) → finish k out ≡ leaves a out → Refuses text a
    → ReadsText text out (finish k out)
refused_by_lem text out k a e r = subst (λ (o : Outcome). ReadsText text out o) (sym e) (refuses r)

-- ── the text of a frame; g is what is kept of its lines, and p their number before the field lines ──

length_folded : (forms : List Form) → length (folded [] forms) ≡ length forms
length_folded forms =
    sym (length-map (folded [] forms) face) ∙ ap length (folded_faces [] forms) ∙ length-map forms face

uncelled_above : (g : Found) → Above 7 (uncelled g)
uncelled_above g = go (ltb (length g.judged.fields) (length g.cells))
  where
    go : (b : Bool) → Above 7 (cond b (some (refused 7 (suc g.lines))) none)
    go true = let z : 7 ≤ 7 = omega arith in z
    go false = tt

-- a refusal below 7 stays
stays : (g : Found) (a : Answer) → a.number ≤ 7 → g.judged.lowest ≡ some a
    → lower g.judged.lowest (uncelled g) ≡ some a
stays g a le e =
    ap (λ (o : Option Answer). lower o (uncelled g)) e ∙ lower_stays 7 a (uncelled g) (uncelled_above g) le

module _ (text out : List ℕ) (plain : Plain text) (f : Frame) (is_frame_of : FrameOf text f) (g : Found)
    (name : g.name ≡ f.name) (width : g.width ≡ f.row_width)
    (lines : g.lines ≡ length (head_lines f) + length f.lines) where
  abbrev Gives : Option Answer → Type 0
  Gives o = ReadsText text out (outcome g out o)

  gives_refused : (o : Option Answer) (a : Answer) → o ≡ some a → Refuses text a → Gives o
  gives_refused o a e r = subst Gives (sym e) (refuses r)

  module _ (few : is_overfull f ≡ false) where
    framed : Framed text f
    framed = record { plain = plain; is_frame_of = is_frame_of; few = few }

    -- where cells remain, 7 behind the last line
    uncelled_is : (forms : List Form) → Spelled forms f.lines → g.judged.fields ≡ folded [] forms
        → g.cells ≡ cells f
        → uncelled g
        ≡ map (λ n. refused 7 (suc (length (head_lines f)) + n)) (remaining (length forms) (cells f))
    uncelled_is forms h e c =
        let n : length g.judged.fields ≡ length forms = ap length e ∙ length_folded forms in
        let m : suc g.lines ≡ suc (length (head_lines f)) + length forms =
        let q = each_length (SpellsField Unresolved) forms f.lines h in omega (arith, q, lines) in
        rw (n, m, c) (go (ltb (length forms) (length (cells f))))
      where
        go : (b : Bool)
            → cond b (some (refused 7 (suc (length (head_lines f)) + length forms))) none
            ≡ map (λ n. refused 7 (suc (length (head_lines f)) + n)) (cond b (some (length forms)) none)
        go true = refl
        go false = refl

    by_rule : (forms : List Form) → Spelled forms f.lines → g.judged.fields ≡ folded [] forms
        → (o : Option Answer) → rule_broken f forms ≡ o → Gives o
    by_rule forms h e (some a) r = refuses (rule forms framed h r)
    by_rule forms h e none r =
        let k = rules_kept f forms r in
        let fields : g.judged.fields ≡ resolve forms = e ∙ folded_all forms k.types in
        let d : found_description g ≡ described f forms =
        λ i. record { name = name i; row_width = width i; fields = fields i } in
        subst (λ (x : Description). ReadsText text out (delivered (stored x) out)) (sym d)
        (spelled plain.size (resolved_spells text f forms is_frame_of few h r))

    by_judged : Judges (cells f) (suc (length (head_lines f))) f.lines g.judged → g.cells ≡ cells f
        → Gives (lower g.judged.lowest (uncelled g))
    unfolding rule_broken
    by_judged (no_form_at {i = i} h e) c =
        let a : Answer = refused 5 (suc (length (head_lines f)) + i) in
        gives_refused (lower g.judged.lowest (uncelled g)) a (stays g a (omega arith) e) (form framed h)
    by_judged (over_size {i = i} forms h s e) c =
        let a : Answer = refused 6 (suc (length (head_lines f)) + i) in
        gives_refused (lower g.judged.lowest (uncelled g)) a (stays g a (omega arith) e)
        (rule forms framed h (rw s refl))
    by_judged (all_kept forms h s e l) c =
        let o : lower g.judged.lowest (uncelled g) ≡ rule_broken f forms =
        rw (l, uncelled_is forms h e c) (rules_found f forms) in
        subst Gives (sym o) (by_rule forms h e (rule_broken f forms) refl)

  by_fields : Fills (cells f) (suc (length (head_lines f))) f.lines g.cells g.judged
      → Gives (lower g.judged.lowest (uncelled g))
  by_fields (spills o e) =
      gives_refused (lower g.judged.lowest (uncelled g)) (refused 4 0) (stays g (refused 4 0) (omega arith) e)
      (many plain is_frame_of o)
  by_fields (fits a b c n h) =
      let few : is_overfull f ≡ false =
      rw (le-ltb fields_most (length (cells f)) a, le-ltb fields_most (length f.lines) b) refl in
      by_judged few h c

-- ── a plain text; g is what is kept of its lines, and r what is behind the last LF ──

frame_lines_lem : (text : List ℕ) (f : Frame) → FrameOf text f → lines_of text ≡ head_lines f ++ f.lines
unfolding frame_text
frame_lines_lem text f h =
    ap lines_of (sym h.is_text) ∙ lines_joined (frame_lines f) (lines_are_lines f (frame_kept f (frame_drawn text f h
    ).drawn))

module _ (text out : List ℕ) (plain : Plain text) (g : Found) (r : List ℕ) (is_rest : rest line_feed text ≡ r) where
  abbrev Ends : Option Answer → Type 0
  Ends o = ReadsText text out (outcome g out o)

  -- 3
  wrong_line_lem : (o : Option Answer) → o ≡ some (refused 3 (strict_place 0 begun (lines_of text)))
      → read_frame text ≡ none
      → Ends o
  wrong_line_lem o e n =
      subst Ends
      (ap (λ (p : ℕ). some (refused 3 p)) (place_right text (right_lines text) (right_lines_lem text)
      ∙ strict_place_lem text)
      ∙ sym e)
      (refuses (line plain (frame_none text n) (right_lines_lem text)))

  -- no frame is read
  no_frame : (q : State) → strict_run begun (lines_of text) ≡ some q → whole q ≡ none → read_frame text ≡ none
  no_frame q e h =
      strict_read text q e
      ∙ ap (λ (o : Option Frame). cond (is_empty (rest line_feed text)) o none) h
      ∙ go (is_empty (rest line_feed text))
    where
      go : (b : Bool) → cond {A = Option Frame} b none none ≡ none
      go true = refl
      go false = refl

  no_end : (q : State) → strict_run begun (lines_of text) ≡ some q → is_empty r ≡ false → read_frame text ≡ none
  no_end q e h = strict_read text q e ∙ rw (is_rest, h) refl

  module _ (q : State) (is_run : strict_run begun (lines_of text) ≡ some q)
      (h : Stands (length (lines_of text)) q g) where
    -- the text ends early
    ends_early : read_frame text ≡ none → lowest_at (stage_of q) r g ≡ early g → Ends (lowest_at g.stage r g)
    ends_early n e =
        let z : 0 + length (lines_of text) ≡ length (lines_of text) = omega arith in
        wrong_line_lem (lowest_at g.stage r g)
        (ap (λ (s : Stage). lowest_at s r g) h.stage
        ∙ e
        ∙ ap (λ (k : ℕ). some (refused 3 k))
        (stands_blamed (length (lines_of text)) q g h
        ∙ sym (strict_end (lines_of text) 0 begun q is_run ∙ ap (λ (n : ℕ). stop_at n q) z)))
        n

    early_state : whole q ≡ none → lowest_at (stage_of q) r g ≡ early g → Ends (lowest_at g.stage r g)
    early_state n e = ends_early (no_frame q is_run n) e

  -- a frame
  by_frame_lem : (t : Top) (rows : List Row) (m : List ℕ) (ms : List (List ℕ))
      → strict_run begun (lines_of text) ≡ some (filled t rows (m ∷ ms)) → r ≡ []
      → Stands (length (lines_of text)) (filled t rows (m ∷ ms)) g
      → Ends (lower g.judged.lowest (uncelled g))
  unfolding whole cells
  by_frame_lem t rows m ms e k h =
      let f : Frame = record { an = t.an; name = t.name; row_width = t.row_width; rows = rows; lines = m ∷ ms } in
      let is_frame_of : FrameOf text f = frame_sound text f
      (strict_read text (filled t rows (m ∷ ms)) e ∙ rw (is_rest, k) refl) in
      let n : length (lines_of text) ≡ length (head_lines f ++ (m ∷ ms)) = ap length
      (frame_lines_lem text f is_frame_of) in
      let all_lines : length (head_lines f ++ (m ∷ ms)) ≡ length (head_lines f) + length (m ∷ ms) =
      length-append (head_lines f) (m ∷ ms) in
      let from : h.from ≡ length (head_lines f) = let c = h.counts in omega (arith, c, n, all_lines) in
      by_fields text out plain f is_frame_of g h.name h.width (h.lines ∙ n ∙ all_lines)
      (subst (λ (p : ℕ). Fills (joined slots_in rows) (suc p) (m ∷ ms) g.cells g.judged) from h.fills)

  by_state : (q : State) → strict_run begun (lines_of text) ≡ some q → Stands (length (lines_of text)) q g
      → Ends (lowest_at g.stage r g)
  unfolding lowest_at whole
  by_state begun e h = early_state begun e h refl refl
  by_state (named an n) e h = early_state (named an n) e h refl refl
  by_state (spaced an n) e h = early_state (spaced an n) e h refl refl
  by_state (ruled t) e h = early_state (ruled t) e h refl refl
  by_state (counted t) e h = early_state (counted t) e h refl refl
  by_state (bordered t []) e h = early_state (bordered t []) e h refl refl
  by_state (bordered t (x ∷ rows)) e h = early_state (bordered t (x ∷ rows)) e h refl refl
  by_state (rowed t rows x) e h = early_state (rowed t rows x) e h refl refl
  by_state (closed t rows) e h = early_state (closed t rows) e h refl refl
  by_state (headed t rows) e h = early_state (headed t rows) e h refl refl
  by_state (filled t rows []) e h = early_state (filled t rows []) e h refl refl
  by_state (filled t rows (m ∷ ms)) e h = go r refl
    where
      go : (s : List ℕ) → r ≡ s → Ends (lowest_at g.stage r g)
      go [] k =
          let o : lowest_at g.stage r g ≡ lower g.judged.lowest (uncelled g) =
          ap₂ (λ (x : Stage) (l : List ℕ). lowest_at x l g) h.stage k in
          subst Ends (sym o) (by_frame_lem t rows m ms e k h)
      go (b ∷ s) k =
          ends_early (filled t rows (m ∷ ms)) e h
          (no_end (filled t rows (m ∷ ms)) e (rw k refl)) (ap (λ (l : List ℕ). lowest_at field_line l g) k)

  by_run : (o : Option State) → strict_run begun (lines_of text) ≡ o
      → Ran (0 + length (lines_of text)) (strict_place 0 begun (lines_of text)) o g → Ends (lowest_at g.stage r g)
  unfolding lowest_at
  by_run none e h =
      wrong_line_lem (lowest_at g.stage r g) (ap (λ (s : Stage). lowest_at s r g) h.0 ∙ h.1) (strict_unread text e)
  by_run (some q) e h =
      let z : 0 + length (lines_of text) ≡ length (lines_of text) = omega arith in
      by_state q e (subst (λ (n : ℕ). Stands n q g) z h)

-- ── bytes behind the last LF ──

-- they are a 3 there, too long or not
pub lowest_behind : (s : Stage) (r : List ℕ) (g : Found) → is_lost s ≡ false → is_empty r ≡ false → lowest_at s r g ≡
    early g
unfolding lowest_at
lowest_behind opening r g e h = refl
lowest_behind blank r g e h = refl
lowest_behind tens_ruler r g e h = refl
lowest_behind units_ruler r g e h = refl
lowest_behind top_border r g e h = refl
lowest_behind first_row r g e h = refl
lowest_behind in_row r g e h = refl
lowest_behind row_or_blank r g e h = refl
lowest_behind where_line r g e h = refl
lowest_behind last_blank r g e h = refl
lowest_behind first_field r g e h = refl
lowest_behind field_line r g e h = rw h refl
lowest_behind lost r g e h = cc

long_some : (r : List ℕ) → line_most < length r → is_empty r ≡ false
long_some [] lt = absurd (omega arith)
long_some (b ∷ r) lt = refl

-- at the end, a line that was cut answers as if it were there whole
pub ended_same : (n : ℕ) (r : List ℕ) (g : Found) (out : List ℕ)
    → finish (record { size = n; line = take line_most r; found = unended g r }) out
    ≡ outcome g out (lowest_at g.stage r g)
unfolding finish unended lowest_at
ended_same n r g out = go (ltb line_most (length r)) refl
  where
    cut_short : (x : Bool) → is_lost g.stage ≡ x → is_empty r ≡ false
        → finish (record { size = n; line = take line_most r; found = cond x g (wrong g) }) out
        ≡ outcome g out (lowest_at g.stage r g)
    cut_short true e h =
        ap (λ (s : Stage). outcome g out (lowest_at s (take line_most r) g)) (lost_stage g.stage e)
        ∙ sym (ap (λ (s : Stage). outcome g out (lowest_at s r g)) (lost_stage g.stage e))
    cut_short false e h = ap (outcome g out) (sym (lowest_behind g.stage r g e h))

    go : (b : Bool) → ltb line_most (length r) ≡ b
        → finish (record { size = n; line = take line_most r; found = cond b (cut g) g }) out
        ≡ outcome g out (lowest_at g.stage r g)
    go true e = cut_short (is_lost g.stage) refl (long_some r (ltb-true line_most (length r) e))
    go false e =
        ap (λ (l : List ℕ). outcome g out (lowest_at g.stage l g))
        (take_all line_most r (ltb-false line_most (length r) e))

-- so behind a plain text the end is that of its lines and of all bytes behind the last LF
pub kept_finish : (t out : List ℕ) → all is_allowed t ≡ true → length t ≤ text_most
    → finish (kept t) out
    ≡ finish (record { size = length t; line = rest line_feed t; found = foldl lined start (lines_of t) }) out
unfolding finish
kept_finish t out a le =
    ap (λ (k : Kept). finish k out) (kept_lines t a le)
    ∙ ended_same (length t) (rest line_feed t) (foldl lined start (lines_of t)) out

plain_answers : (text out : List ℕ) → Plain text → ReadsText text out (finish (kept text) out)
unfolding finish
plain_answers text out plain =
    subst (λ (o : Outcome). ReadsText text out o) (sym (kept_finish text out plain.bytes plain.size))
    (by_run text out plain (foldl lined start (lines_of text)) (rest line_feed text) refl
    (strict_run begun (lines_of text)) refl
    (run_stands (lines_of text) 0 begun start start_stands))

-- ── the main law ──

pub kept_answers : (text out : List ℕ) → ReadsText text out (finish (kept text) out)
unfolding kept
kept_answers text out = go (dec_lt text_most (length text))
  where
    by_bytes : length text ≤ text_most → (b : Bool) → all is_allowed text ≡ b
        → ReadsText text out (finish (kept text) out)
    by_bytes le true e = plain_answers text out (record { size = le; bytes = e })
    by_bytes le false e =
        refused_by_lem text out (kept text) (refused 2 0)
        (lost_finish 2 (kept text) out (bad_bytes text fresh (omega (arith, le)) e)) (byte le e)

    go : Dec (text_most < length text) → ReadsText text out (finish (kept text) out)
    go (yes h) =
        refused_by_lem text out (kept text) (refused 1 0)
        (lost_finish 1 (kept text) out (too_long text fresh (omega arith) (omega (arith, h)))) (long h)
    go (no h) = by_bytes (omega arith) (all is_allowed text) refl
