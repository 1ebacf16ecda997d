-- Which fields read a run that is cut.
use mathlib.Core.Path.{◌≡◌, refl}
use mathlib.Core.Bool.{Bool, true, false, ◌||◌, not}
use mathlib.Core.List.{List, [], ◌∷◌, ◌++◌, map, append_assoc, append-nil}
use mathlib.Core.Option.{none}
use Prim.Native.Nat.{ℕ, suc, ◌+◌, ◌≤◌, ◌<◌}
use native.Mathlib.Omega.{arith}
use lib.ListN.{length, length-append}
use borrow.Author.Tests.{le-leb, lt-leb}
use Rattle.base.specs.Lists.{all, any, between, first_break}
use Rattle.base.proofs.Lists.{and_both, and_left, and_right, or_left, or_right}
use Rattle.base.proofs.Breaks.{first_break_cons}
use Rattle.rules.specs.Fields.{Field}
use Rattle.rules.specs.References.{field_reads}
use Rattle.rules.specs.Edits.{renumbered, opened, reads_run, first_reader}
use Rattle.laws.proofs.Renumbering.{opened_outside, field_reads_lem}

-- ── no break, in parts ──

module _ {A : Type 0} (keeps : List A → A → Bool) where
  kept_cons : (before : List A) (x : A) (l : List A) → keeps before x ≡ true
      → first_break keeps (before ++ (x ∷ [])) l ≡ none → first_break keeps before (x ∷ l) ≡ none
  unfolding first_break
  kept_cons before x l e h = rw e h

  pub kept_parts : (before l m : List A) → first_break keeps before (l ++ m) ≡ none
      → (first_break keeps before l ≡ none) × (first_break keeps (before ++ l) m ≡ none)
  unfolding first_break
  kept_parts before [] m h = (refl, rw (append-nil before) h)
  kept_parts before (x ∷ l) m h =
      let e = first_break_cons keeps before x (l ++ m) h in
      let k = kept_parts (before ++ (x ∷ [])) l m e.1 in
      (kept_cons before x l e.0 k.0, rw (append_assoc before (x ∷ []) l) at k.1)

  pub kept_append : (before l m : List A) → first_break keeps before l ≡ none → first_break keeps (before ++ l) m ≡ none
      → first_break keeps before (l ++ m) ≡ none
  unfolding first_break
  kept_append before [] m h k = rw (append-nil before) at k
  kept_append before (x ∷ l) m h k =
      let e = first_break_cons keeps before x l h in
      kept_cons before x (l ++ m) e.0
      (kept_append (before ++ (x ∷ [])) l m e.1 (rw (append_assoc before (x ∷ []) l) k))

-- ── fields that read no cut one ──

module _ (first last : ℕ) where
  abbrev keeps_away : List (Field ℕ) → Field ℕ → Bool
  keeps_away before f = between first (length before) last || not (reads_run first last f)

  abbrev pub away : Field ℕ → Bool
  away f = not (reads_run first last f)

  -- the fields l behind the fields before are all a part of the run, or none of them is
  abbrev Parts : Bool → List (Field ℕ) → List (Field ℕ) → Type 0
  Parts part before l = (i : ℕ) → length before ≤ i → i < length before + length l → between first i last ≡ part

  parts_behind : (part : Bool) (before : List (Field ℕ)) (f : Field ℕ) (l : List (Field ℕ))
      → Parts part before (f ∷ l) → Parts part (before ++ (f ∷ [])) l
  parts_behind part before f l h i p q =
      let longer = length-append before (f ∷ []) in
      h i (omega (arith, longer, p)) (omega (arith, longer, q))

  kept_away : (before l : List (Field ℕ)) → Parts false before l → first_break keeps_away before l ≡ none
      → all away l ≡ true
  unfolding all
  kept_away before [] out h = refl
  kept_away before (f ∷ l) out h =
      let e = first_break_cons keeps_away before f l h in
      let here = out (length before) (omega arith) (omega arith) in
      and_both (away f) (all away l) (rw here at e.0)
      (kept_away (before ++ (f ∷ [])) l (parts_behind false before f l out) e.1)

  away_kept : (before l : List (Field ℕ)) → all away l ≡ true → first_break keeps_away before l ≡ none
  unfolding all first_break
  away_kept before [] h = refl
  away_kept before (f ∷ l) h =
      kept_cons keeps_away before f l
      (or_right (between first (length before) last) (away f) (and_left (away f) (all away l) h))
      (away_kept (before ++ (f ∷ [])) l (and_right (away f) (all away l) h))

  inside_kept : (before l : List (Field ℕ)) → Parts true before l → first_break keeps_away before l ≡ none
  unfolding first_break
  inside_kept before [] h = refl
  inside_kept before (f ∷ l) h =
      kept_cons keeps_away before f l
      (or_left (between first (length before) last) (away f) (h (length before) (omega arith) (omega arith)))
      (inside_kept (before ++ (f ∷ [])) l (parts_behind true before f l h))

  -- a run gs between xs and ys
  module _ (xs gs ys : List (Field ℕ)) (start : length xs ≡ first) (end : suc last ≡ first + length gs) where
    pub none_reads : first_reader first last (xs ++ (gs ++ ys)) ≡ none → (all away xs ≡ true) × (all away ys ≡ true)
    unfolding first_reader
    none_reads h =
        let e = kept_parts keeps_away [] xs (gs ++ ys) h in
        let k = kept_parts keeps_away xs gs ys e.1 in (
          kept_away [] xs (λ i p q. let low : i < first = omega (arith, start) in rw (lt-leb first i low)) e.0,
          kept_away (xs ++ gs) ys
              (λ i p q.
              let l = length-append xs gs in
              let high : last < i = omega (arith, start, end, l) in
              let above : first ≤ i = omega (arith, start, end, l) in
              rw (le-leb first i above, lt-leb i last high))
              k.1,
        )

    pub reads_none : all away xs ≡ true → all away ys ≡ true → first_reader first last (xs ++ (gs ++ ys)) ≡ none
    unfolding first_reader
    reads_none p q =
        kept_append keeps_away [] xs (gs ++ ys) (away_kept [] xs p)
        (kept_append keeps_away xs gs ys
        (inside_kept xs gs
        (λ i low high.
        let above : first ≤ i = omega (arith, start) in
        let within : i ≤ last = omega (arith, start, end) in
        rw (le-leb first i above, le-leb i last within)))
        (away_kept (xs ++ gs) ys q))

-- ── old fields read no new one ──

any_map_none : (p : ℕ → Bool) (g : ℕ → ℕ) (l : List ℕ) → ((i : ℕ) → p (g i) ≡ false) → any p (map g l) ≡ false
unfolding any
any_map_none p g [] h = refl
any_map_none p g (i ∷ l) h = rw (h i) (any_map_none p g l h)

pub opened_away : (at n last : ℕ) → suc last ≡ at + n → (fs : List (Field ℕ))
    → all (away at last) (map (renumbered (opened at n)) fs) ≡ true
unfolding all
opened_away at n last h [] = refl
opened_away at n last h (f ∷ fs) =
    let g = opened at n in
    let e : any (λ i. between at i last) (field_reads (renumbered g f)) ≡ false =
    rw (field_reads_lem g f) (any_map_none (λ i. between at i last) g (field_reads f)
    (λ i. opened_outside at n last i h)) in
    rw e (opened_away at n last h fs)
