-- The first line of a row, as the code tests it.
use mathlib.Core.Path.{◌≡◌, refl, ap, sym, ◌∙◌, subst}
use mathlib.Core.Bool.{Bool, true, false, cond, ◌&&◌, and-true, and-false}
use mathlib.Core.List.{List, [], ◌∷◌, map}
use mathlib.Core.Option.{none, some}
use Prim.Native.Nat.{ℕ, ◌+◌, ◌*◌, ◌-◌, ◌/◌, ◌%◌, ◌≤◌, ◌<◌}
use native.Mathlib.Omega.{arith}
use lib.Dec.{eqb}
use lib.ListN.{length, take, drop, length-drop}
use borrow.Author.Tests.{eq-eqb, ne_eqb}
use Rattle.base.specs.Lists.{all, is_empty, sum}
use Rattle.base.proofs.Lists.{and_left}
use Rattle.rules.specs.Rows.{bit_row, is_fitted, are_fitted}
use Rattle.rules.specs.Frames.{is_line}
use Rattle.text_laws.specs.FrameReader.{pieces, rest, bits_of, keep_row, strips_of, read_long, row_of, read_row}
use Rattle.text_laws.proofs.SplitLaws.{is_free, pieces_are_free}
use Rattle.texts.specs.FramePlaces.{up_to, is_some, is_bits}
use Rattle.texts.proofs.RowLeaves.{line_part, fitted_by_length, row_kept, is_long}
use Rattle.texts.proofs.SplitSteps.{piece_at, rest_at, piece_length, piece_none, pieces_end}

-- ── a bit row, part by part ──

abbrev bits_in : List (List ℕ) → ℕ
bits_in ps = sum (λ n. n) (map bits_of ps)

-- behind parts of b bits the parts ps and the rest r are left
unfoldable pub fits : ℕ → ℕ → List ℕ → List (List ℕ) → Bool
fits w b r ps = is_empty r && (eqb (b + bits_in ps) w && are_fitted (map bits_of ps) ps)

pub fits_start : (w : ℕ) (l : List ℕ) → is_bits w l ≡ fits w 0 (rest 124 l) (pieces 124 l)
unfolding fits all
fits_start w l =
    let ps : List (List ℕ) = pieces 124 l in
    let q : 0 + bits_in ps ≡ bits_in ps = omega arith in
    rw (row_kept w (bit_row (map bits_of ps) (ps ∷ [])), q, and-true (are_fitted (map bits_of ps) ps)) refl

fits_part : (w b : ℕ) (r p : List ℕ) (ps : List (List ℕ)) → is_fitted 124 (bits_of p) p ≡ true
    → fits w b r (p ∷ ps) ≡ fits w (b + bits_of p) r ps
unfolding fits are_fitted sum
fits_part w b r p ps h =
    let q : b + (bits_of p + bits_in ps) ≡ b + bits_of p + bits_in ps = omega arith in
    rw (h, q) refl

fits_other : (w b : ℕ) (r p : List ℕ) (ps : List (List ℕ)) → is_fitted 124 (bits_of p) p ≡ false
    → fits w b r (p ∷ ps) ≡ false
unfolding fits are_fitted
fits_other w b r p ps h = rw (h, and-false (eqb (b + bits_in (p ∷ ps)) w)) (and-false (is_empty r))

-- at a place of what stands behind the first bar
module _ (w : ℕ) (l : List ℕ) (at b : ℕ) where
  abbrev left : Bool
  left = fits w b (rest 124 (drop at l)) (pieces 124 (drop at l))

  pub fits_none : (i : ℕ) → i ≡ at + up_to 124 (drop at l) → at < length l → i ≤ length l → length l ≤ i
      → left ≡ false
  unfolding fits
  fits_none i h lt le ge = rw (piece_none 124 l at i h (omega arith) le ge).1 (go (drop at l) (length-drop at l))
    where
      go : (m : List ℕ) → length m ≡ length l - at
          → (is_empty m && (eqb (b + bits_in (pieces 124 (drop at l))) w
          && are_fitted (map bits_of (pieces 124 (drop at l))) (pieces 124 (drop at l)))) ≡ false
      go [] e = absurd (omega (arith, e, lt))
      go (c ∷ m) e = refl

  module _ (i : ℕ) (h : i ≡ at + up_to 124 (drop at l)) (lt : i < length l) (line : is_line l ≡ true) where
    part : List ℕ
    part = take (i - at) (drop at l)

    part_fitted : is_fitted 124 (bits_of part) part ≡ eqb (length part + 1) (2 * bits_of part)
    unfolding part all
    part_fitted = fitted_by_length 124 (bits_of part) part
        (and_left (is_free 124 part) _
        (subst (λ (ps : List (List ℕ)). all (is_free 124) ps ≡ true) (piece_at 124 l at i h lt)
        (pieces_are_free 124 (drop at l))))
        (line_part l at (i - at) line)

    part_size : length part ≡ i - at
    unfolding part
    part_size = piece_length 124 l at i h lt

    cut : left ≡ fits w b (rest 124 (drop (i + 1) l)) (part ∷ pieces 124 (drop (i + 1) l))
    unfolding part
    cut =
        ap (fits w b (rest 124 (drop at l))) (piece_at 124 l at i h lt)
        ∙ ap (λ (r : List ℕ). fits w b r (take (i - at) (drop at l) ∷ pieces 124 (drop (i + 1) l)))
        (rest_at 124 l at i h lt)

    pub fits_stop : (i - at) % 2 ≡ 0 → left ≡ false
    fits_stop e =
        cut
        ∙ fits_other w b (rest 124 (drop (i + 1) l)) part (pieces 124 (drop (i + 1) l))
        (part_fitted ∙ ne_eqb (length part + 1) (2 * bits_of part) (λ k. absurd (omega (arith, k, e, part_size))))

    pub fits_next : ((i - at) % 2 ≡ 0 → ⊥)
        → left ≡ fits w (b + (i - at + 1) / 2) (rest 124 (drop (i + 1) l)) (pieces 124 (drop (i + 1) l))
    fits_next n =
        cut
        ∙ fits_part w b (rest 124 (drop (i + 1) l)) part (pieces 124 (drop (i + 1) l))
        (part_fitted ∙ eq-eqb (length part + 1) (2 * bits_of part) (omega (arith, n, part_size)))
        ∙ ap (λ (m : ℕ). fits w (b + (m + 1) / 2) (rest 124 (drop (i + 1) l)) (pieces 124 (drop (i + 1) l)))
        part_size

  pub fits_end : length l ≤ at → at ≤ length l → left ≡ eqb b w
  unfolding fits are_fitted sum
  fits_end le le' =
      let p = pieces_end 124 l at le le' in
      let q : b + 0 ≡ b = omega arith in
      rw (p.0, p.1, q) (and-true (eqb b w))

-- ── a row ──

begins_bar : (w b : ℕ) (m : List ℕ) → b ≡ 124 → is_some (read_row w (b ∷ m)) ≡ is_bits w m
unfolding read_row strips_of row_of read_long
begins_bar w b m e = rw e (go (is_empty (rest 124 m)))
  where
    go : (x : Bool) → is_some (row_of w (124 ∷ m) (cond x (some (pieces 124 m)) none))
        ≡ (x && is_some (keep_row w (bit_row (map bits_of (pieces 124 m)) (pieces 124 m ∷ []))))
    go true = refl
    go false = refl

begins_colon : (w b : ℕ) (m : List ℕ) → b ≡ 58 → is_some (read_row w (b ∷ m)) ≡ is_long w m
unfolding read_row strips_of row_of read_long
begins_colon w b m e = rw e refl

begins_other : (w b : ℕ) (m : List ℕ) → (b ≡ 124 → ⊥) → (b ≡ 58 → ⊥) → is_some (read_row w (b ∷ m)) ≡ false
unfolding read_row strips_of row_of read_long
begins_other w b m n n' = rw (ne_eqb b 124 n, ne_eqb b 58 n') refl

pub row_empty : (w : ℕ) (l : List ℕ) → length l ≡ 0 → false ≡ is_some (read_row w l)
unfolding read_row strips_of row_of read_long
row_empty w [] e = refl
row_empty w (b ∷ l) e = absurd (omega arith)

module _ (w : ℕ) {l : List ℕ} {b : ℕ} {m : List ℕ} (e : l ≡ b ∷ m) where
  pub row_bits : b ≡ 124 → is_bits w m ≡ is_some (read_row w l)
  row_bits q = sym (ap (λ (k : List ℕ). is_some (read_row w k)) e ∙ begins_bar w b m q)

  pub row_long : b ≡ 58 → is_long w m ≡ is_some (read_row w l)
  row_long q = sym (ap (λ (k : List ℕ). is_some (read_row w k)) e ∙ begins_colon w b m q)

  pub row_other : (b ≡ 124 → ⊥) → (b ≡ 58 → ⊥) → false ≡ is_some (read_row w l)
  row_other n n' = sym (ap (λ (k : List ℕ). is_some (read_row w k)) e ∙ begins_other w b m n n')
