-- Phrases, units, labels and short names at a place of a text, against the reader over what is left of it.
use mathlib.Core.Path.{◌≡◌, refl, ap, sym, ◌∙◌}
use mathlib.Core.Bool.{Bool, true, false, cond, not, ◌&&◌, ◌||◌}
use mathlib.Core.List.{List, [], ◌∷◌}
use mathlib.Core.Option.{none, some}
use Prim.Native.Nat.{ℕ, ◌+◌, ◌-◌, ◌≤◌, ◌<◌}
use native.Mathlib.Numerals.{add-one}
use native.Mathlib.Omega.{arith}
use native.Mathlib.Nat.{le_of_suc-le-suc}
use Rattle.std.specs.Cmp.Lexicographic.{pointwise}
use lib.Dec.{eqb, leb}
use lib.ListN.{length, take, drop, get_or}
use lib.Seq.{drop-cons, drop-length}
use borrow.Author.Tests.{le-leb, lt-leb, eq-eqb, ne_eqb}
use Rattle.base.specs.Bytes.{bytes}
use Rattle.base.specs.Lists.{all, same, is_none}
use Rattle.rules.specs.Names.{is_printable}
use Rattle.text_laws.specs.Reader.{after, word, behind}
use Rattle.text_laws.specs.LineReader.{begins, is_remark, unit_of, read_unit}
use Rattle.texts.specs.FieldPlaces.{SameBits, WithinBits}
use Rattle.std.specs.Prelude.{None, Some}
use Rattle.texts.proofs.ExprLeaves.{word_part}

-- ── phrases ──

-- a phrase that is longer than what is left
pub begins_long : (w s : List ℕ) → length s < length w → begins w s ≡ false
unfolding begins after
begins_long [] s lt = absurd (omega arith)
begins_long (c ∷ w) [] lt = refl
begins_long (c ∷ w) (d ∷ s) lt = go (eqb c d) (begins_long w s (le_of_suc-le-suc lt))
  where
    go : (b : Bool) → not (is_none (after w s)) ≡ false → not (is_none (cond b (after w s) none)) ≡ false
    go true e = e
    go false e = refl

-- as the library tells what a text starts with
pub begins_front : (w s : List ℕ) → pointwise eqb w (take (length w) s) ≡ begins w s
unfolding begins after
begins_front [] s = refl
begins_front (c ∷ w) [] = refl
begins_front (c ∷ w) (d ∷ s) = go (eqb c d) (begins_front w s)
  where
    go : (b : Bool) → pointwise eqb w (take (length w) s) ≡ not (is_none (after w s))
        → (b && pointwise eqb w (take (length w) s)) ≡ not (is_none (cond b (after w s) none))
    go true e = e
    go false e = refl

-- ── remarks ──

module _ (s : List ℕ) (at : ℕ) where
  pub remark_empty : at ≡ length s → is_remark (drop at s) ≡ true
  unfolding is_remark
  remark_empty e = rw (e, drop-length) refl

  pub remark_other : at < length s → (get_or s at 0 ≡ 32 → ⊥) → is_remark (drop at s) ≡ false
  unfolding is_remark
  remark_other lt e = rw (drop-cons s at 0 lt, ne_eqb (get_or s at 0) 32 e) refl

  pub remark_space : at < length s → get_or s at 0 ≡ 32 → is_remark (drop at s) ≡ all is_printable (drop (at + 1) s)
  unfolding is_remark
  remark_space lt e = rw (add-one at, drop-cons s at 0 lt, eq-eqb (get_or s at 0) 32 e) refl

-- ── printable bytes ──

pub printable_low : (b : ℕ) → b < 32 → is_printable b ≡ false
unfolding is_printable
printable_low b lt = rw (lt-leb 32 b lt) refl

pub printable_rest : (b : ℕ) → 32 ≤ b → is_printable b ≡ leb b 126
unfolding is_printable
printable_rest b le = rw (le-leb 32 b le) refl

-- ── units ──

pub unit_case : (w : List ℕ) (a b c d : Bool) → same w (bytes "bit") ≡ a → same w (bytes "bits") ≡ b
    → same w (bytes "byte") ≡ c → same w (bytes "bytes") ≡ d
    → unit_of w ≡ cond (a || b) (some 1) (cond (c || d) (some 8) none)
unfolding unit_of
unit_case w a b c d p q r t = rw (p, q, r, t) refl

module _ (s : List ℕ) (at end : ℕ) (lo : at ≤ end) (hi : end ≤ length s) (e : drop end s ≡ behind (drop at s)) where
  pub unit_none : unit_of (take (end - at) (drop at s)) ≡ none
      → WithinBits s at None × SameBits s (read_unit (drop at s)) None
  unfolding read_unit SameBits WithinBits
  unit_none o =
      let q : unit_of (word (drop at s)) ≡ none = ap unit_of (sym (word_part s at end lo hi e)) ∙ o in
      (tt, rw q refl)

  pub unit_some : (u : ℕ) → unit_of (take (end - at) (drop at s)) ≡ some u
      → WithinBits s at (Some (u, end)) × SameBits s (read_unit (drop at s)) (Some (u, end))
  unfolding read_unit SameBits WithinBits
  unit_some u o =
      let q : unit_of (word (drop at s)) ≡ some u = ap unit_of (sym (word_part s at end lo hi e)) ∙ o in
      ((lo, hi), rw q (end, refl, e))
