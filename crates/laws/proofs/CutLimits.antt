-- What a cut leaves keeps the limits, where a field is left and the rows fit. [02, R-4]
use mathlib.Core.Path.{◌≡◌, refl, ap, sym, subst, ◌∙◌}
use mathlib.Core.Bool.{Bool, true, ◌&&◌, not}
use mathlib.Core.List.{List, [], ◌∷◌, ◌++◌, map, map-append, append_assoc, append-nil}
use mathlib.Core.Option.{none}
use Prim.Native.Nat.{ℕ, suc, ◌+◌, ◌≤◌, ◌<◌}
use native.Mathlib.Omega.{arith}
use lib.ListN.{length, length-append, length-map}
use borrow.Author.Tests.{not-true}
use Rattle.base.specs.Lists.{all, any, between, is_none, first_break}
use Rattle.base.proofs.Lists.{or_left, or_right, between_true, true_between}
use Rattle.base.proofs.Breaks.{all_cons, all_append, or_true, first_break_cons}
use Rattle.rules.specs.Limits.{fields_most}
use Rattle.rules.specs.Fields.{Field, is_fixed, is_rest}
use Rattle.rules.specs.Within.{clash, keeps_names, keeps_types, keeps_rest, is_readable, index_readable}
use Rattle.rules.specs.Within.{Keeps}
use Rattle.rules.specs.Edits.{renumbered, closed, run_length, remaining, cut, reads_run, first_reader}
use Rattle.rules.specs.Promises.{is_run}
use Rattle.rules.specs.EditResults.{CutLimits}
use Rattle.laws.proofs.OperatorLaws.{keeps_known}
use Rattle.laws.proofs.NamesStay.{not_more}
use Rattle.laws.proofs.Renumbering.{closed_low}
use Rattle.laws.proofs.Runs.{Split, remaining_between, split_run}
use Rattle.laws.proofs.RunReads.{kept_parts, kept_append, away, none_reads}
use Rattle.laws.proofs.RenumberedTypes.{fixed_stays, rest_stays, condition_stays, clash_stays}
use Rattle.laws.proofs.RenumberedTypes.{readable_stays, Still, field_typed}
use Rattle.laws.proofs.ReadsBelow.{below_listed}
use Rattle.laws.proofs.CutPut.{run_bounds}
use Rattle.laws.proofs.CutRefers.{closed_element}
use Rattle.laws.proofs.CutCandidate.{cut_sound}

-- ── lists ──

-- a rule that each element keeps behind some elements, and changed keeps behind others
kept_changed : {A : Type 0} (keeps : List A → A → Bool) (change : A → A) (before after l : List A)
    → ((b : List A) (x : A) (a : List A) → l ≡ b ++ (x ∷ a) → keeps (before ++ b) x ≡ true
    → keeps (after ++ map change b) (change x) ≡ true)
    → first_break keeps before l ≡ none → first_break keeps after (map change l) ≡ none
unfolding first_break
kept_changed keeps change before after [] f h = refl
kept_changed keeps change before after (x ∷ l) f h =
    let e = first_break_cons keeps before x l h in
    let first : keeps after (change x) ≡ true =
    rw (append-nil after) at (f [] x l refl (rw (append-nil before) e.0)) in
    rw first
    (kept_changed keeps change (before ++ (x ∷ [])) (after ++ (change x ∷ [])) l
    (λ b y a p k. rw (append_assoc after (change x ∷ []) (map change b)) (f (x ∷ b) y a (ap (λ m. x ∷ m) p)
    (rw (append_assoc before (x ∷ []) b) at k)))
    e.1)

module _ {A : Type 0} (p : A → Bool) where
  any_back : (l m : List A) → any p m ≡ true → any p (l ++ m) ≡ true
  unfolding any
  any_back [] m h = h
  any_back (x ∷ l) m h = or_right (p x) (any p (l ++ m)) (any_back l m h)

  -- a test that some element of two lists passes, with others between them
  any_between : (l k m : List A) → any p (l ++ m) ≡ true → any p ((l ++ k) ++ m) ≡ true
  unfolding any
  any_between [] k m h = any_back k m h
  any_between (x ∷ l) k m h =
      or_true (p x) (any p (l ++ m)) (or_left (p x) (any p ((l ++ k) ++ m)))
      (λ e. or_right (p x) (any p ((l ++ k) ++ m)) (any_between l k m e)) h

  any_stays : (change : A → A) → ((x : A) → p (change x) ≡ p x) → (l : List A) → any p (map change l) ≡ any p l
  unfolding any
  any_stays change stays [] = refl
  any_stays change stays (x ∷ l) = rw (stays x, any_stays change stays l)

-- ── fields xs, a run gs from first to last, and fields ys ──

module _ (first last : ℕ) where
  abbrev index : ℕ → ℕ
  index i = closed first (run_length first last) i

  abbrev move : Field ℕ → Field ℕ
  move f = renumbered (closed first (run_length first last)) f

  abbrev StillIn : List (Field ℕ) → List (Field ℕ) → Type 0
  StillIn b c = Still index (λ i. between first i last) (index_readable b) (index_readable c)

  -- the fields c are what is left of the fields b before a field f
  record Left (f : Field ℕ) (b c : List (Field ℕ)) : Type 0 where
    fewer : (p : Field ℕ → Bool) → ((h : Field ℕ) → p (move h) ≡ p h) → any p c ≡ true → any p b ≡ true
    still : StillIn b c
    own : StillIn (b ++ (f ∷ [])) (c ++ (move f ∷ []))

  names_left : (f : Field ℕ) (b c : List (Field ℕ)) → Left f b c → keeps_names b f ≡ true
      → keeps_names c (move f) ≡ true
  unfolding renumbered
  names_left f b c l h =
      not_more (any (clash f) b) (any (clash f) c)
      (l.fewer (clash f) (λ x. clash_stays (closed first (run_length first last)) f x)) h

  rests_left : (f : Field ℕ) (b c : List (Field ℕ)) → Left f b c → keeps_rest b f ≡ true → keeps_rest c (move f) ≡ true
  rests_left f b c l h =
      let g = closed first (run_length first last) in
      let alone = is_fixed f && is_none f.condition in
      rw (fixed_stays g f, condition_stays g f)
      (or_true (not (any is_rest b)) alone
      (λ e. or_left (not (any is_rest c)) alone
      (not_more (any is_rest b) (any is_rest c) (l.fewer is_rest (rest_stays g)) e))
      (or_right (not (any is_rest c)) alone) h)

  types_left : (f : Field ℕ) (b c : List (Field ℕ)) → away first last f ≡ true → Left f b c
      → keeps_types index_readable b f ≡ true → keeps_types index_readable c (move f) ≡ true
  types_left f b c e l h =
      field_typed (closed first (run_length first last)) (λ i. between first i last) b c f l.still l.own
      (not-true (reads_run first last f) e) h

  -- before the run
  still_front : (b : List (Field ℕ)) → length b ≤ first → StillIn b (map move b)
  still_front b le i out h =
      let low : i < first = omega (arith, below_listed b i h) in
      rw (closed_low first (run_length first last) i low)
      (readable_stays (closed first (run_length first last)) b i ∙ h)

  left_front : (f : Field ℕ) (b : List (Field ℕ)) → length b < first → Left f b (map move b)
  left_front f b lt =
      let one = b ++ (f ∷ []) in
      let most : length one ≤ first = omega (arith, length-append b (f ∷ [])) in
      record {
        fewer = λ p stays h. sym (any_stays p move stays b) ∙ h;
        still = still_front b (omega arith);
        own = subst (λ (c : List (Field ℕ)). StillIn one c) (map-append move b (f ∷ [])) (still_front one most);
      }

  module _ (xs gs : List (Field ℕ)) (start : length xs ≡ first) (end : suc last ≡ first + length gs) where
    -- behind the run
    still_back : (b : List (Field ℕ)) → StillIn ((xs ++ gs) ++ b) (map move xs ++ map move b)
    still_back b i out h =
        let g = closed first (run_length first last) in
        let same : index_readable (xs ++ b) (g i) ≡ index_readable ((xs ++ gs) ++ b) i =
        ap is_readable (closed_element xs gs b first last start end i out)
        ∙ ap (λ (l : List (Field ℕ)). index_readable l i) (sym (append_assoc xs gs b)) in
        ap (λ (l : List (Field ℕ)). index_readable l (g i)) (sym (map-append move xs b))
        ∙ readable_stays g (xs ++ b) (g i) ∙ same ∙ h

    left_back : (f : Field ℕ) (b : List (Field ℕ)) → Left f ((xs ++ gs) ++ b) (map move xs ++ map move b)
    left_back f b =
        record {
          fewer = λ p stays h. any_between p xs gs b
              (sym (any_stays p move stays (xs ++ b)) ∙ ap (any p) (map-append move xs b) ∙ h);
          still = still_back b;
          own = rw (
            append_assoc (xs ++ gs) b (f ∷ []),
            append_assoc (map move xs) (map move b) (move f ∷ []),
            ← map-append move b (f ∷ []),
          ) (still_back (b ++ (f ∷ [])));
        }

    -- a rule that holds of what is left holds of the fields without the run
    left_keeps : (keeps : List (Field ℕ) → Field ℕ → Bool)
        → ((f : Field ℕ) (b c : List (Field ℕ)) → away first last f ≡ true → Left f b c → keeps b f ≡ true
        → keeps c (move f) ≡ true)
        → (ys : List (Field ℕ)) → all (away first last) xs ≡ true → all (away first last) ys ≡ true
        → Keeps keeps (xs ++ (gs ++ ys)) → Keeps keeps (map move (xs ++ ys))
    left_keeps keeps less ys p q h =
        let e = kept_parts keeps [] xs (gs ++ ys) h in
        let k = kept_parts keeps xs gs ys e.1 in
        rw (map-append move xs ys)
        (kept_append keeps [] (map move xs) (map move ys)
        (kept_changed keeps move [] [] xs
        (λ b f a w. less f b (map move b) (one_of xs b f a w p)
        (left_front f b (omega (arith, start, ap length w, length-append b (f ∷ a))))) e.0)
        (kept_changed keeps move (xs ++ gs) (map move xs) ys
        (λ b f a w. less f ((xs ++ gs) ++ b) (map move xs ++ map move b) (one_of ys b f a w q) (left_back f b))
        k.1))
      where
        one_of : (l b : List (Field ℕ)) (f : Field ℕ) (a : List (Field ℕ)) → l ≡ b ++ (f ∷ a)
            → all (away first last) l ≡ true → away first last f ≡ true
        one_of l b f a w t =
            (all_cons (away first last) f a (all_append (away first last) b (f ∷ a) (rw w at t)).1).0

-- ── what a cut leaves ──

module _ (first last : ℕ) (fs : List (Field ℕ)) (whole : is_run first last fs ≡ true) where
  split : Split first last fs
  split = let bounds = run_bounds first last fs whole in split_run first last fs bounds.0 bounds.1

  left_parts : remaining first last fs ≡ split.xs ++ split.ys
  left_parts =
      ap (remaining first last) split.whole
      ∙ remaining_between split.xs split.gs split.ys first last split.start split.end

  left_few : length (remaining first last fs) ≤ length fs
  left_few =
      omega (
        arith,
        ap length left_parts,
        ap length split.whole,
        length-append split.xs split.ys,
        length-append split.xs (split.gs ++ split.ys),
        length-append split.gs split.ys,
      )

  cut_keeps : first_reader first last fs ≡ none → (keeps : List (Field ℕ) → Field ℕ → Bool)
      → ((f : Field ℕ) (b c : List (Field ℕ)) → away first last f ≡ true → Left first last f b c → keeps b f ≡ true
      → keeps c (move first last f) ≡ true)
      → Keeps keeps fs → Keeps keeps (map (move first last) (remaining first last fs))
  cut_keeps unread keeps less h =
      let s = split in
      let aways = none_reads first last s.xs s.gs s.ys s.start s.end
      (subst (λ (l : List (Field ℕ)). first_reader first last l ≡ none) s.whole unread) in
      subst (λ (l : List (Field ℕ)). Keeps keeps (map (move first last) l)) (sym left_parts)
      (left_keeps first last s.xs s.gs s.start s.end keeps less s.ys aways.0 aways.1
      (subst (λ (l : List (Field ℕ)). Keeps keeps l) s.whole h))

pub cut_limits : CutLimits
unfolding cut
cut_limits d first last w whole unread some_left fits =
    let fs = remaining first last d.fields in
    let left = map (move first last) fs in
    let sound = cut_sound first last d w in
    let few : length left ≤ fields_most =
    omega (
      arith,
      length-map fs (move first last),
      left_few first last d.fields whole,
      (between_true 1 (length d.fields) fields_most w.count).1,
    ) in
    let keep = cut_keeps first last d.fields whole unread in
    record {
      name = w.name;
      row = w.row;
      count = true_between 1 (length left) fields_most (omega (arith, some_left)) few;
      form = sound.form;
      operators = keeps_known [] left;
      size = sound.size;
      names = keep keeps_names (λ f b c e. names_left first last f b c) w.names;
      types = keep (keeps_types index_readable) (types_left first last) w.types;
      rests = keep keeps_rest (λ f b c e. rests_left first last f b c) w.rests;
      rows = fits;
    }
