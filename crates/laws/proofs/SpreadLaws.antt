-- Entries spread over the indexes that their fields had before a run was cut: what stands where, and how wide it is.
use mathlib.Core.Path.{◌≡◌, refl, ap, sym, ◌∙◌}
use mathlib.Core.Bool.{Bool, true, false}
use mathlib.Core.Logic.{◌⊎◌, inl, inr}
use mathlib.Core.List.{List, ◌∷◌, ◌++◌, append_assoc}
use Prim.Native.Nat.{ℕ, zero, suc, ◌+◌, ◌-◌, ◌≤◌, ◌<◌}
use native.Mathlib.Omega.{arith}
use lib.Dec.{ltb}
use lib.ListN.{
  length,
  take,
  drop,
  get_or,
  replicate,
  length-append,
  length-drop,
  length-replicate,
  take-append-drop,
  get_or-eq_default,
  get_or-append,
}
use lib.Seq.{
  take-append-le,
  drop-append-le,
  take-append-add,
  get_or-append-add,
  get_or-take,
  get_or-drop,
  length-take-le,
}
use borrow.Author.Tests.{ltb-true, ltb-false, leb-false, le-leb}
use Rattle.base.specs.Lists.{between, sum}
use Rattle.rules.specs.Edits.{closed, run_length}
use Rattle.rules.specs.Reading.{Entry, absent, value_in}
use Rattle.rules.specs.EditResults.{spread, width_of}
use Rattle.laws.proofs.Renumbering.{closed_low, closed_high}
use Rattle.laws.proofs.RenumberedReads.{Alike}
use Rattle.laws.proofs.ReadSteps.{width_append}

-- an index outside a run lies before it or behind it
pub outside : (first i last : ℕ) → between first i last ≡ false → (i < first) ⊎ (last < i)
outside first i last h = go (ltb i first) refl
  where
    go : (b : Bool) → ltb i first ≡ b → (i < first) ⊎ (last < i)
    go true e = inl (ltb-true i first e)
    go false e = inr (leb-false i last (rw (le-leb first i (ltb-false i first e)) at h))

-- ── with others behind them ──

module _ (at n : ℕ) where
  pub spread_append : (es more : List Entry) → at ≤ length es → spread at n (es ++ more) ≡ spread at n es ++ more
  spread_append es more le =
      let gap = replicate n absent in
      rw (take-append-le at es more le, drop-append-le at es more le)
      (sym (append_assoc (take at es) (gap ++ drop at es) more
      ∙ ap (λ (l : List Entry). take at es ++ l) (append_assoc gap (drop at es) more)))

  -- few entries and one more stay where they are
  pub spread_front : (es : List Entry) (e : Entry) (more : List Entry) → length es < at
      → (rest : List Entry) × (spread at n (es ++ (e ∷ more)) ≡ es ++ (e ∷ rest))
  spread_front es e more lt =
      let k = at - suc (length es) in
      let behind = replicate n absent ++ drop at (es ++ (e ∷ more)) in
      let s : at ≡ length es + suc k = omega arith in
      let front : take at (es ++ (e ∷ more)) ≡ es ++ (e ∷ take k more)
      = ap (λ (m : ℕ). take m (es ++ (e ∷ more))) s ∙ take-append-add es (e ∷ more) (suc k) in (
        take k more ++ behind,
        ap (λ (l : List Entry). l ++ behind) front ∙ append_assoc es (e ∷ take k more) behind,
      )

  pub spread_length : (es : List Entry) → at ≤ length es → length (spread at n es) ≡ length es + n
  spread_length es le =
      let gap = replicate n absent in
      omega (
        arith,
        length-append (take at es) (gap ++ drop at es),
        length-append gap (drop at es),
        length-take-le at es le,
        length-replicate n absent,
        length-drop at es,
      )

-- ── widths ──

absent_width : (n : ℕ) → width_of (replicate n absent) ≡ 0
unfolding sum
absent_width zero = refl
absent_width (suc n) = omega (arith, absent_width n)

pub spread_width : (at n : ℕ) (es : List Entry) → width_of (spread at n es) ≡ width_of es
spread_width at n es =
    let gap = replicate n absent in
    omega (
      arith,
      width_append (take at es) (gap ++ drop at es),
      width_append gap (drop at es),
      absent_width n,
      ap width_of (sym (take-append-drop at es)) ∙ width_append (take at es) (drop at es),
    )

-- ── what stands at an index ──

module _ (at n : ℕ) (es : List Entry) (le : at ≤ length es) where
  entry_low : (i : ℕ) → i < at → get_or (spread at n es) i absent ≡ get_or es i absent
  entry_low i lt =
      let front : i < length (take at es) = omega (arith, length-take-le at es le) in
      get_or-append (take at es) (replicate n absent ++ drop at es) absent i front ∙ get_or-take at es i absent lt

  entry_high : (i : ℕ) → at + n ≤ i → get_or (spread at n es) i absent ≡ get_or es (i - n) absent
  entry_high i lo =
      let gap = replicate n absent in
      let k = i - (at + n) in
      let s : i ≡ length (take at es) + (length gap + k)
      = omega (arith, length-take-le at es le, length-replicate n absent) in
      let b : at + k ≡ i - n = omega arith in
      ap (λ (m : ℕ). get_or (spread at n es) m absent) s
      ∙ get_or-append-add (take at es) (gap ++ drop at es) (length gap + k) absent
      ∙ get_or-append-add gap (drop at es) k absent
      ∙ get_or-drop at es k absent
      ∙ ap (λ (m : ℕ). get_or es m absent) b

value_same : (l m : List Entry) (i j : ℕ) → get_or l i absent ≡ get_or m j absent → value_in l i ≡ value_in m j
unfolding value_in
value_same l m i j e = rw e

module _ (first last : ℕ) (run : first ≤ last) where
  abbrev pub SpreadAlike : List Entry → List Entry → Type 0
  SpreadAlike es old = Alike (closed first (run_length first last)) (λ i. between first i last) es old

  -- before the run nothing is spread
  pub alike_front : (es : List Entry) → length es ≤ first → SpreadAlike es es
  alike_front es few i h = go (outside first i last h)
    where
      n : ℕ
      n = run_length first last

      go : (i < first) ⊎ (last < i) → value_in es (closed first n i) ≡ value_in es i
      go (inl low) = rw (closed_low first n i low) refl
      go (inr high) =
          let above : first ≤ i = omega arith in
          let none : length es ≤ i - n = omega arith in
          let none_old : length es ≤ i = omega arith in
          rw (closed_high first n i above) (value_same es es (i - n) i
          (get_or-eq_default es absent none ∙ sym (get_or-eq_default es absent none_old)))

  pub alike_spread : (es : List Entry) → first ≤ length es → SpreadAlike es (spread first (run_length first last) es)
  alike_spread es le i h = go (outside first i last h)
    where
      n : ℕ
      n = run_length first last

      go : (i < first) ⊎ (last < i) → value_in es (closed first n i) ≡ value_in (spread first n es) i
      go (inl low) =
          rw (closed_low first n i low) (value_same es (spread first n es) i i (sym (entry_low first n es le i low)))
      go (inr high) =
          let above : first ≤ i = omega arith in
          let beyond : first + n ≤ i = omega arith in
          rw (closed_high first n i above) (value_same es (spread first n es) (i - n) i
          (sym (entry_high first n es le i beyond)))
