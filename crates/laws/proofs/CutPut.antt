-- Cutting what was put in, and putting in what was cut.
use mathlib.Core.Path.{◌≡◌, refl, ap, sym, ◌∙◌, subst}
use mathlib.Core.Bool.{Bool, true, false}
use mathlib.Core.List.{List, [], ◌∷◌, ◌++◌, map}
use mathlib.Core.Option.{none}
use Prim.Native.Nat.{ℕ, suc, ◌+◌, ◌≤◌, ◌<◌}
use native.Mathlib.Omega.{arith}
use lib.Dec.{leb, ltb}
use lib.ListN.{length, length-append, length-map, take, drop, take-append-drop}
use lib.Seq.{take-append_seam, drop-append_seam, length-take-le}
use borrow.Author.Tests.{leb-true, ltb-true, eq-eqb, not-true}
use Rattle.base.specs.Lists.{all, any, between}
use Rattle.base.proofs.Lists.{or_false_left, or_false_right, all_append, all_front, all_back}
use Rattle.base.proofs.Breaks.{and_true, all_cons}
use Rattle.rules.specs.Fields.{Field, Description}
use Rattle.rules.specs.References.{field_reads}
use Rattle.rules.specs.Edits.{
  renumbered,
  closed,
  opened,
  with_fields,
  run_length,
  run,
  remaining,
  inserted,
  cut,
  put,
  reads_run,
  first_reader,
}
use Rattle.rules.specs.Promises.{is_run}
use Rattle.laws.proofs.Renumbering.{closed_opened, opened_closed, comes_back, fields_back}
use Rattle.laws.proofs.Runs.{remaining_between, run_between, split_run}
use Rattle.laws.proofs.RunReads.{away, none_reads, reads_none, opened_away}

-- a test that always passes
all_always : {A : Type 0} (p : A → Bool) → ((x : A) → p x ≡ true) → (l : List A) → all p l ≡ true
unfolding all
all_always p h [] = refl
all_always p h (x ∷ l) = rw (h x) (all_always p h l)

-- a run is not empty and lies within the fields
pub run_bounds : (first last : ℕ) (fs : List (Field ℕ)) → is_run first last fs ≡ true
    → (first ≤ last) × (last < length fs)
run_bounds first last fs h =
    let e = and_true (leb first last) (ltb last (length fs)) h in
    (leb-true first last e.0, ltb-true last (length fs) e.1)

-- ── cutting what was put in ──

module _ (at last : ℕ) (gs : List (Field ℕ)) (d : Description)
    (end : suc last ≡ at + length gs) (inside : at ≤ length d.fields) where
  abbrev old : List (Field ℕ)
  old = map (renumbered (opened at (length gs))) d.fields

  start : length (take at old) ≡ at
  start = length-take-le at old (rw (length-map d.fields (renumbered (opened at (length gs)))) inside)

  remaining_put : remaining at last (put at gs d).fields ≡ old
  unfolding put
  remaining_put =
      remaining_between (take at old) gs (drop at old) at last start end ∙ take-append-drop at old

  pub cut_put : cut at last (put at gs d) ≡ d
  unfolding cut put
  cut_put =
      let n = length gs in
      let size : run_length at last ≡ n = omega (arith, end) in
      let back = all_always (λ x. all (comes_back (opened at n) (closed at n)) (field_reads x))
      (λ x. all_always (comes_back (opened at n) (closed at n))
      (λ i. eq-eqb (closed at n (opened at n i)) i (closed_opened at n i)) (field_reads x)) d.fields in
      ap (with_fields d)
      (rw (size, remaining_put) (fields_back (opened at n) (closed at n) d.fields back))

  -- no old field reads a new one
  pub put_unread : first_reader at last (put at gs d).fields ≡ none
  unfolding put
  put_unread =
      let parts : all (away at last) (take at old ++ drop at old) ≡ true =
      rw (take-append-drop at old) (opened_away at (length gs) last end d.fields) in
      reads_none at last (take at old) gs (drop at old) start end
      (all_front (away at last) (take at old) (drop at old) parts)
      (all_back (away at last) (take at old) (drop at old) parts)

inserted_length : (at : ℕ) (gs fs : List (Field ℕ)) → length (inserted at gs fs) ≡ length fs + length gs
inserted_length at gs fs =
    omega (
      arith,
      length-append (take at fs) (gs ++ drop at fs),
      length-append gs (drop at fs),
      length-append (take at fs) (drop at fs),
      ap length (take-append-drop at fs),
    )

pub put_length : (at : ℕ) (gs : List (Field ℕ)) (d : Description)
    → length (put at gs d).fields ≡ length d.fields + length gs
unfolding put
put_length at gs d =
    let old = map (renumbered (opened at (length gs))) d.fields in
    inserted_length at gs old
    ∙ ap (λ (n : ℕ). n + length gs) (length-map d.fields (renumbered (opened at (length gs))))

-- ── putting in what was cut ──

-- where a field reads no cut one, each index comes back
away_back : (first last : ℕ) → first ≤ last → (l : List ℕ) → any (λ i. between first i last) l ≡ false
    → all (comes_back (closed first (run_length first last)) (opened first (run_length first last))) l ≡ true
unfolding any all
away_back first last low [] h = refl
away_back first last low (i ∷ l) h =
    let c : ℕ → Bool = λ j. between first j last in
    let n = run_length first last in
    let e = eq-eqb (opened first n (closed first n i)) i
    (opened_closed first last i low (or_false_left (c i) (any c l) h)) in
    rw e (away_back first last low l (or_false_right (c i) (any c l) h))

fields_away : (first last : ℕ) → first ≤ last → (fs : List (Field ℕ)) → all (away first last) fs ≡ true
    → all (λ x. all (comes_back (closed first (run_length first last)) (opened first (run_length first last)))
    (field_reads x)) fs ≡ true
unfolding all
fields_away first last low [] h = refl
fields_away first last low (f ∷ fs) h =
    let e = all_cons (away first last) f fs h in
    rw (away_back first last low (field_reads f) (not-true (reads_run first last f) e.0))
    (fields_away first last low fs e.1)

-- fields xs, a run gs and fields ys
module _ (xs gs ys : List (Field ℕ)) (first last : ℕ) (d : Description)
    (start : length xs ≡ first) (end : suc last ≡ first + length gs) (low : first ≤ last) where
  abbrev whole : List (Field ℕ)
  whole = xs ++ (gs ++ ys)

  parts_again : inserted first gs (xs ++ ys) ≡ whole
  parts_again = rw (← start, take-append_seam xs ys, drop-append_seam xs ys)

  numbers_again : first_reader first last whole ≡ none
      → map (renumbered (opened first (length gs))) (map (renumbered (closed first (length gs))) (xs ++ ys)) ≡ xs ++ ys
  numbers_again h =
      let size : run_length first last ≡ length gs = omega (arith, end) in
      let e = none_reads first last xs gs ys start end h in
      rw (← size)
      (fields_back (closed first (run_length first last)) (opened first (run_length first last)) (xs ++ ys)
      (fields_away first last low (xs ++ ys) (all_append (away first last) xs ys e.0 e.1)))

  put_cut_parts : first_reader first last whole ≡ none
      → put first (run first last whole) (cut first last (with_fields d whole)) ≡ with_fields d whole
  unfolding put cut
  put_cut_parts h =
      let size : run_length first last ≡ length gs = omega (arith, end) in
      ap (with_fields d)
      (rw (
        run_between xs gs ys first last start end,
        remaining_between xs gs ys first last start end,
        size,
        numbers_again h,
      ) parts_again)

pub put_cut : (first last : ℕ) (d : Description) → first ≤ last → last < length d.fields
    → first_reader first last d.fields ≡ none → put first (run first last d.fields) (cut first last d) ≡ d
put_cut first last d low high =
    let s = split_run first last d.fields low high in
    subst
    (λ (fs : List (Field ℕ)). first_reader first last fs ≡ none
    → put first (run first last fs) (cut first last (with_fields d fs)) ≡ with_fields d fs)
    (sym s.whole)
    (put_cut_parts s.xs s.gs s.ys first last d s.start s.end low)
