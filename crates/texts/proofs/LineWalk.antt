-- The lines of a text, one by one: what is left decides.
use Rattle.std.specs.Prelude.{Some}
use Rattle.texts.specs.declared.notes.Note.TheVariants.{BadByte}
use mathlib.Core.Path.{◌≡◌, refl, ap, sym, ◌∙◌, subst}
use mathlib.Core.Bool.{Bool, true, false, cond}
use mathlib.Core.List.{List, [], ◌∷◌, ◌++◌, foldl, foldl-append}
use Prim.Native.Nat.{ℕ, suc, ◌+◌, ◌-◌, ◌≤◌, ◌<◌}
use native.Mathlib.Omega.{arith}
use lib.Dec.{ltb, eqb}
use lib.ListN.{length, take, drop, get_or, length-drop, take-append-drop}
use lib.Seq.{length-take-le, take_all, drop-cons, drop-drop, get_or-drop}
use borrow.Author.Tests.{eq-eqb, eqb-true}
use Rattle.base.proofs.Lists.{not_both}
use Rattle.base.specs.Lists.{all, is_empty, joined, any}
use Rattle.std.specs.Prelude.{Err}
use Rattle.rules.specs.Names.{line_feed, is_printable}
use Rattle.rules.specs.Limits.{text_most, line_most}
use Rattle.rules.specs.declared.TextRefusal.{TextRefusal}
use Rattle.rules.specs.Answers.{of_text, refused}
use Rattle.rules.specs.Refusals.{long}
use Rattle.rules.specs.Promises.{Outcome, ReadsText, refuses, leaves}
use Rattle.text_laws.specs.Fold as fold
use Rattle.text_laws.proofs.Answering.{kept_answers, ended_same}
use Rattle.text_laws.proofs.FedRuns.{fed_run, fed_line, fed_bad}
use Rattle.text_laws.proofs.FedAlike.{alike_refl, alike_trans, alike_lost, finish_alike}
use Rattle.text_laws.proofs.Steadiness.{steady_start, steady_line, steady_losing}
use Rattle.texts.specs.LineEnds.{printable_length}
use Rattle.texts.specs.Changes.{begun_with, changed}
use Rattle.texts.specs.HeldAreas.{held_room}
use Rattle.texts.specs.States.{Room, NoneCounted, LineStep}
use Rattle.texts.specs.WalkSteps.{KeptAs, LinesLeft, Walking, WalkedTo}
use Rattle.texts.specs.declared.states.Stage.TheVariants as stages
use Rattle.texts.specs.declared.states.Reading.{Reading}
use Rattle.texts.specs.declared.walks.Walked.{Walked}
use Rattle.texts.proofs.AreaLaws.{names_room_lem}
use Rattle.texts.proofs.CutLines.{holds_lost}
use Rattle.texts.proofs.LineEnds.{front_plain, first_other, bad_byte}
use Rattle.texts.proofs.StateSteps.{room_changed, empty_nil, filled_nil, kept_outside, kept_same}

pub room_begun : Room begun_with
room_begun = record {
  width = omega arith;
  name = omega arith;
  row = omega arith;
  front = omega arith;
  cells = omega arith;
  slots = omega arith;
  cell = omega arith;
  count = omega arith;
  fields = omega arith;
  end = omega arith;
  placed = omega arith;
}

pub alike_eq : (a b : fold.Kept) → a ≡ b → fold.Alike a b
alike_eq a b e = subst (λ (q : fold.Kept). fold.Alike a q) e (alike_refl a)

pub drop_all : (l : List ℕ) → drop (length l) l ≡ []
drop_all [] = refl
drop_all (x ∷ l) = drop_all l

-- before the first line
pub kept_begun : (held row counts : List ℕ) → held_room ≤ length held → NoneCounted counts
    → KeptAs fold.start begun_with held row counts
unfolding joined any
kept_begun held row counts room none_yet = record {
  steady = steady_start;
  rows = kept_outside refl refl;
  holds = record {
    counts = record {
      lines = refl;
      stage = refl;
      width = refl;
      name = refl;
      row = refl;
      cells = refl;
      count = refl;
      fields = refl;
      rested = refl;
      lowest = refl;
    };
    slots = record { stored = refl; end = refl; next = refl };
    records = record {
      fields = [];
      stands = record { seen = refl; exact = λ e. refl };
      stored = refl;
      end = refl;
      numbers = none_yet;
    };
    named = record {
      label = λ i y e. absurd (let z : ◌≡◌ {A = ℕ} 0 1 = cc in omega arith);
      name = λ i y e. absurd (let z : ◌≡◌ {A = ℕ} 0 1 = cc in omega arith);
      room = names_room_lem held room;
    };
  };
}

pub walking_start : (k : fold.Kept) (text : List ℕ) (from : ℕ) (r : Reading) {held row counts : List ℕ}
    → k.line ≡ [] → k.size + (length text - from) ≤ text_most → KeptAs k.found r held row counts
    → Walking k text from from r held row counts
walking_start k text from r e le h = record {
  kept = k;
  is = h;
  begun = e;
  size = le;
  alike = alike_refl (foldl fold.fed k (drop from text));
}

-- ── the bytes up to the first that is not printable ──

module _ (t : List ℕ) (at i : ℕ) (first : i ≡ at + printable_length (drop at t)) where
  run_length : i - at ≡ printable_length (drop at t)
  run_length = omega (arith, first)

  pub run_plain : all is_printable (take (i - at) (drop at t)) ≡ true
  run_plain = ap (λ (n : ℕ). all is_printable (take n (drop at t))) run_length ∙ front_plain (drop at t)

  run_split : drop at t ≡ take (i - at) (drop at t) ++ drop i t
  run_split =
      let n : at + (i - at) ≡ i = omega (arith, first) in
      sym (take-append-drop (i - at) (drop at t))
      ∙ ap (λ (z : List ℕ). take (i - at) (drop at t) ++ z) (drop-drop (i - at) at t ∙ ap (λ (m : ℕ). drop m t) n)

  -- to the end
  pub rest_plain : length t ≤ i → all is_printable (drop at t) ≡ true
  rest_plain ge =
      subst (λ (z : List ℕ). all is_printable z ≡ true)
      (take_all (i - at) (drop at t) (let n = length-drop at t in omega (arith, n, ge))) run_plain

  module _ (lt : i < length t) where
    pub run_next : drop at t ≡ take (i - at) (drop at t) ++ (get_or t i 0 ∷ drop (suc i) t)
    run_next = run_split ∙ ap (λ (z : List ℕ). take (i - at) (drop at t) ++ z) (drop-cons t i 0 lt)

    pub run_long : length (take (i - at) (drop at t)) ≡ i - at
    run_long = length-take-le (i - at) (drop at t) (let n = length-drop at t in omega (arith, n, lt, first))

    pub stops : is_printable (get_or t i 0) ≡ false
    stops =
        let n = length-drop at t in
        let e = get_or-drop at t (printable_length (drop at t)) 0 in
        ap (λ (m : ℕ). is_printable (get_or t m 0)) first ∙ ap is_printable (sym e)
        ∙ first_other (drop at t) (omega (arith, n, first, lt))

-- ── a line, or a byte that is not allowed ──

module _ (k : fold.Kept) (t : List ℕ) (from at i : ℕ) (r : Reading) {held row counts : List ℕ}
    (w : Walking k t from at r held row counts) (first : i ≡ at + printable_length (drop at t)) (lt : i < length t)
  where
    abbrev line : List ℕ
    line = take (i - at) (drop at t)

    behind_size : length (drop (suc i) t) ≡ length t - suc i
    behind_size = length-drop (suc i) t

    abbrev behind_line : fold.Kept
    behind_line = record {
      size = w.kept.size + suc (length line);
      line = [];
      found = fold.lined w.kept.found line;
    }

    short : length w.kept.line ≤ line_most
    short = let n = ap length w.begun in omega (arith, n)

    next_fed : get_or t i 0 ≡ line_feed
        → foldl fold.fed w.kept (drop at t) ≡ foldl fold.fed behind_line (drop (suc i) t)
    next_fed feed =
        let n = run_long t at i first lt in
        let le = w.size in
        ap (foldl fold.fed w.kept) (run_next t at i first lt
        ∙ ap (λ (b : ℕ). line ++ (b ∷ drop (suc i) t)) feed)
        ∙ fed_line line (drop (suc i) t) w.kept (run_plain t at i first)
        (let m = behind_size in omega (arith, n, m, le, lt, first)) short w.is.steady.small
        ∙ ap (λ (l : List ℕ). foldl fold.fed (record {
          size = w.kept.size + suc (length line);
          line = [];
          found = fold.lined w.kept.found (l ++ line);
        }) (drop (suc i) t)) w.begun

    pub walking_next : get_or t i 0 ≡ line_feed → (q : Reading) {held' row' counts' : List ℕ}
        → LineStep line r q held held' row row' counts counts' → Walking k t from (i + 1) q held' row' counts'
    walking_next feed q step =
        let h = step w.kept.found w.is.steady w.is.rows w.is.holds in
        let n = run_long t at i first lt in
        let le = w.size in
        let z : suc i ≡ i + 1 = omega arith in
        record {
          kept = behind_line;
          is = record {
            steady = steady_line w.kept.found line w.is.steady;
            rows = h.1;
            holds = h.0;
          };
          begun = refl;
          size = omega (arith, n, le, lt, first);
          alike = alike_trans _ _ _ w.alike (alike_eq _ _ (next_fed feed
              ∙ ap (λ (m : ℕ). foldl fold.fed behind_line (drop m t)) z));
        }

    abbrev bad_kept : fold.Kept
    bad_kept = record {
      size = w.kept.size;
      line = [];
      found = fold.losing (refused 2 0) w.kept.found;
    }

    -- 2 is the same behind a line that was cut
    losing_same : (l : List ℕ) → fold.losing (refused 2 0) (fold.unended w.kept.found l)
        ≡ fold.losing (refused 2 0) w.kept.found
    unfolding fold.unended
    losing_same l = go (ltb line_most (length l)) (fold.is_lost w.kept.found.stage)
      where
        go : (x y : Bool)
            → fold.losing (refused 2 0) (cond x (cond y w.kept.found (fold.wrong w.kept.found))
            w.kept.found) ≡ fold.losing (refused 2 0) w.kept.found
        go true true = refl
        go true false = refl
        go false y = refl

    bad_found : (get_or t i 0 ≡ line_feed → ⊥)
        → (foldl fold.fed w.kept (drop at t)).found ≡ fold.losing (refused 2 0) w.kept.found
    bad_found other =
        let b = get_or t i 0 in
        let n = run_long t at i first lt in
        let m = behind_size in
        let le = w.size in
        let run = fed_run line w.kept (run_plain t at i first) (omega (arith, n, le, lt, first)) short in
        ap (λ (z : List ℕ). (foldl fold.fed w.kept z).found) (run_next t at i first lt)
        ∙ ap (λ (q : fold.Kept). q.found) (foldl-append fold.fed w.kept line (b ∷ drop (suc i) t))
        ∙ ap (λ (q : fold.Kept). (foldl fold.fed q (b ∷ drop (suc i) t)).found) run
        ∙ fed_bad b (drop (suc i) t) _ (bad_byte b (stops t at i first lt) other)
        (omega (arith, n, m, le, lt, first))
        ∙ losing_same (w.kept.line ++ line)

    pub walking_bad : (get_or t i 0 ≡ line_feed → ⊥)
        → Walking k t from (length t) (changed r r.lines stages.Lost (Some BadByte)) held row counts
    walking_bad other =
        let x = holds_lost w.kept.found r w.is.holds (refused 2 0) (Some BadByte) refl in
        let le = w.size in
        let none : drop (length t) t ≡ [] = drop_all t in
        record {
          kept = bad_kept;
          is = record {
            steady = steady_losing (refused 2 0) w.kept.found w.is.steady;
            rows = kept_same w.is.holds.counts x.counts refl refl w.is.rows;
            holds = x;
          };
          begun = refl;
          size = (let z : length t - length t ≡ 0 = omega arith in omega (arith, le, z));
          alike = alike_trans _ _ _ w.alike (subst (λ (l : List ℕ). fold.Alike (foldl fold.fed w.kept (drop at t))
              (foldl fold.fed bad_kept l)) (sym none)
              (alike_lost _ bad_kept (bad_found other) (ap (λ (f : fold.Found). f.stage) (bad_found other))));
        }

    pub bad_to : (get_or t i 0 ≡ line_feed → ⊥)
        → WalkedTo k t from (record { reading = changed r r.lines stages.Lost (Some BadByte); at = length t }) held row
        counts
    unfolding all
    bad_to other = record {
      walking = walking_bad other;
      plain = subst (λ (l : List ℕ). all is_printable l ≡ true) (sym (drop_all t)) refl;
    }

pub bad_left : (n : ℕ) (first : Reading) (m : ℕ) (r : Reading) → LinesLeft n first m r
    → LinesLeft n first 0 (changed r r.lines stages.Lost (Some BadByte))
bad_left n first m r h = (
  room_changed r r.lines stages.Lost (Some BadByte) (omega arith) h.0,
  (let k = h.1 in omega (arith, k)),
)

-- ── the end of a whole text ──

module _ (t : List ℕ) (w : Walked) {held row counts : List ℕ} (h : WalkedTo fold.fresh t 0 w held row counts) where
  abbrev ending : fold.Kept
  ending = record { size = length t; line = drop w.at t; found = h.walking.kept.found }

  walked_finish : (out : List ℕ) → fold.finish (fold.kept t) out ≡ fold.finish ending out
  unfolding fold.kept
  walked_finish out =
      let g = h.walking.kept in
      let u = drop w.at t in
      let n = length-drop w.at t in
      let le = h.walking.size in
      let short = ap length h.walking.begun in
      let run = fed_run u g h.plain (omega (arith, n, le)) (omega (arith, short)) in
      finish_alike _ _ out h.walking.alike
      ∙ ap (λ (q : fold.Kept). fold.finish q out) run
      ∙ ap (λ (l : List ℕ). fold.finish (record {
        size = g.size + length u;
        line = take line_most (l ++ u);
        found = fold.unended g.found (l ++ u);
      }) out) h.walking.begun
      ∙ ended_same (g.size + length u) u g.found out
      ∙ sym ended_is
    where
      ended_is : fold.finish ending out
          ≡ fold.outcome h.walking.kept.found out
          (fold.lowest_at h.walking.kept.found.stage (drop w.at t) h.walking.kept.found)
      ended_is = unfold fold.finish in refl

  pub walked_reads : (out : List ℕ) (o : Outcome) → o ≡ fold.finish ending out → ReadsText t out o
  walked_reads out o e = subst (ReadsText t out) (walked_finish out ∙ sym e) (kept_answers t out)

pub empty_end : (t : List ℕ) (at : ℕ) → at ≤ length t → is_empty (drop at t) ≡ eqb at (length t)
empty_end t at le = go (eqb at (length t)) refl
  where
    go : (b : Bool) → eqb at (length t) ≡ b → is_empty (drop at t) ≡ b
    go true e =
        let q = eqb-true at (length t) e in
        empty_nil (drop at t) (let n = length-drop at t in omega (arith, n, q))
    go false e =
        filled_nil (drop at t) (λ z. let n = length-drop at t in
        not_both (eqb at (length t)) (eq-eqb at (length t) (omega (arith, n, z, le))) e)

pub reads_long : (t out : List ℕ) → text_most < length t
    → ReadsText t out (leaves (of_text (Err TextRefusal.TooLong)) out)
unfolding of_text
reads_long t out h = refuses (long h)
