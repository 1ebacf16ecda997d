-- Widths with their expressions in stored form, against the reader over what is left of the text.
use mathlib.Core.Path.{◌≡◌, refl, ap, sym, ◌∙◌}
use mathlib.Core.Bool.{true, false, ◌&&◌}
use mathlib.Core.List.{List, []}
use Prim.Native.Nat.{ℕ, ◌+◌, ◌*◌, ◌≤◌}
use native.Mathlib.Omega.{arith}
use lib.Dec.{eqb}
use lib.ListN.{length, drop}
use borrow.Author.Tests.{eqb-true}
use Rattle.base.specs.Bytes.{bytes}
use Rattle.base.proofs.Lists.{and_left, and_right, not_both}
use Rattle.rules.specs.Trees.{Tree, num, read, two, negation, is_number}
use Rattle.rules.specs.Fields.{measured, rest}
use Rattle.rules.specs.Within.{is_width}
use Rattle.text_laws.specs.LineReader.{miss, hit, keep, begins, read_tree, read_measure, read_width}
use Rattle.texts.specs.HeldNames.{Names, names_in}
use Rattle.texts.specs.PartPlaces.{spaced_unit, is_unit}
use Rattle.texts.specs.HeldParts.{FixedFor, MeasureWithin, MeasureFor, SizedFor}
use Rattle.texts.specs.StoredTrees.{held, StoredIs, TreeAs}
use Rattle.texts.specs.declared.stored_trees.StoredTree.{StoredTree}
use Rattle.texts.specs.declared.kinds.Width.TheVariants as kind
use Rattle.texts.specs.declared.width_trees.Measure.{Measure}
use Rattle.std.specs.Prelude.{Option as CodeOption, None, Some, IfSome}
use Rattle.texts.proofs.FieldNames.{literal_at}
use Rattle.texts.proofs.FieldWidths.{
  single,
  one_single,
  measure_none,
  measure_is,
  variable_there,
  variable_none,
}

-- ── the width of an expression with its unit ──

module _ (s : List ℕ) (at : ℕ) (t : StoredTree) (u next : ℕ) (lo : at ≤ next) (hi : next ≤ length s) where
  pub sized_single : (m bits : ℕ) (r : CodeOption Measure) → (eqb t.depth 1 && eqb t.len 5) ≡ true
      → ((k : ℕ) (q : List ℕ) → read_tree (drop at s) ≡ hit (num k) q → m ≡ k) → bits ≡ u * m → FixedFor bits next r
      → MeasureWithin s at r × SizedFor s at t u next r
  sized_single m bits r y f b x = (within r (x (names_in []) 0 s []).1, same)
    where
      within : (r : CodeOption Measure) → IfSome r (λ m. m.next ≡ next) → MeasureWithin s at r
      within None h = tt
      within (Some m) h = (omega (arith, h, lo), omega (arith, h, hi))

      same : SizedFor s at t u next r
      same names n c v q h e =
          let d : t.depth ≡ 1 = eqb-true t.depth 1 (and_left (eqb t.depth 1) (eqb t.len 5) y) in
          let z : t.len ≡ 5 = eqb-true t.len 5 (and_right (eqb t.depth 1) (eqb t.len 5) y) in
          let w = single v (sym h.deep ∙ d) (sym h.len ∙ z) in
          let k : m ≡ w.value = f w.value q (e ∙ ap (λ (a : Tree (List ℕ)). hit a q) w.is_num) in
          let g : bits ≡ u * w.value = b ∙ ap (λ (a : ℕ). u * a) k in
          rw (w.is_num, ← g) (x names n s c).0

  measured_as : (names : Names) (n : ℕ) (b : List ℕ) (v : Tree (List ℕ)) → is_unit u ≡ true
      → StoredIs names n v (held t b) → is_number v ≡ false
      → MeasureFor names n s (keep (is_width (measured u v)) (measured u v) (drop next s)) b
      (Some (record { width = kind.Measured u t; next = next }))
  measured_as names n b v y h k =
      rw (y, k) (record { width = measured u v; is_read = refl; stored = (t, refl, h) })

  pub sized_other : (eqb t.depth 1 && eqb t.len 5) ≡ false → is_unit u ≡ true
      → MeasureWithin s at (Some (record { width = kind.Measured u t; next = next }))
      × SizedFor s at t u next (Some (record { width = kind.Measured u t; next = next }))
  sized_other y i = ((lo, hi), same)
    where
      same : SizedFor s at t u next (Some (record { width = kind.Measured u t; next = next }))
      same names n c (num m) q h e =
          absurd (not_both (eqb t.depth 1 && eqb t.len 5)
          (one_single m t.depth t.len (sym h.deep) (sym h.len)) y)
      same names n c (read a) q h e = measured_as names n c (read a) i h refl
      same names n c (two o a b) q h e = measured_as names n c (two o a b) i h refl
      same names n c (negation a) q h e = measured_as names n c (negation a) i h refl

-- ── measures ──

module _ (names : Names) (n : ℕ) (s : List ℕ) (at : ℕ) (b : List ℕ) where
  abbrev pub MeasureAt : CodeOption Measure → Type 0
  MeasureAt r = MeasureWithin s at r × MeasureFor names n s (read_measure (drop at s)) b r

  pub measure_fail : read_tree (drop at s) ≡ miss → MeasureAt None
  measure_fail e = (tt, measure_none (drop at s) e)

  pub measure_bare : (t : StoredTree) → TreeAs names n s (read_tree (drop at s)) (held t b)
      → spaced_unit (drop t.next s) ≡ miss → MeasureAt None
  measure_bare t f m =
      (tt, measure_is (drop at s) f.tree (drop t.next s) f.is_read ∙ rw m refl)

  pub measure_sized : (t : StoredTree) → TreeAs names n s (read_tree (drop at s)) (held t b)
      → (u next : ℕ) (r : CodeOption Measure) → spaced_unit (drop t.next s) ≡ hit u (drop next s) → MeasureWithin s
      at r → SizedFor s at t u next r
      → MeasureAt r
  measure_sized t f u next r m w k =
      let g = k names n b f.tree (drop t.next s) f.stored f.is_read in
      (w, rw (measure_is (drop at s) f.tree (drop t.next s) f.is_read) (rw m g))

-- ── widths ──

module _ (names : Names) (n : ℕ) (s : List ℕ) (at : ℕ) (le : at ≤ length s) (b : List ℕ)
  where
    pub width_rest : begins (bytes "variable") (drop at s) ≡ true → (r : CodeOption Measure)
        → r ≡ Some (record { width = kind.Rest; next = at + 8 })
        → MeasureWithin s at r × MeasureFor names n s (read_width (drop at s)) b r
    width_rest y r e =
        let l = literal_at (bytes "variable") s at le y in
        let m : at + 8 ≤ length s = l.0 in
        rw e (
          (omega arith, m),
          record {
            width = rest;
            is_read = variable_there (drop at s) (drop (at + 8) s) y l.1;
            stored = refl;
          },
        )

    pub width_measure : (r : CodeOption Measure) → begins (bytes "variable") (drop at s) ≡ false
        → MeasureFor names n s (read_measure (drop at s)) b r → MeasureFor names n s (read_width (drop at s)) b r
    width_measure r k h = rw (variable_none (drop at s) k) h
