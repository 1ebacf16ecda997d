-- Parts of a line, and a long row behind its first colon, as the code tests them.
use mathlib.Core.Path.{◌≡◌, refl, ap, sym, ◌∙◌, subst}
use mathlib.Core.Bool.{Bool, true, false, cond, ◌&&◌, not, and-true}
use mathlib.Core.List.{List, [], ◌∷◌, ◌++◌}
use mathlib.Core.Option.{none, some}
use Prim.Native.Nat.{ℕ, suc, ◌+◌, ◌*◌, ◌-◌, ◌≤◌, ◌<◌}
use native.Mathlib.Omega.{arith}
use lib.Dec.{eqb}
use lib.ListN.{length, take, drop, length-drop, drop_of_length-le, take-append-drop}
use lib.Seq.{length-take-le}
use borrow.Author.Tests.{eqb-true, eqb-false, eq-eqb}
use Rattle.base.specs.Lists.{all, is_empty, joined}
use Rattle.base.proofs.Lists.{and_left, and_right, and_both, all_front, all_back}
use Rattle.base.proofs.Lookups.{test_eq}
use Rattle.rules.specs.Limits.{row_lines_most}
use Rattle.rules.specs.Rows.{Row, long_row, is_fitted, is_drawn_row}
use Rattle.rules.specs.Frames.{is_line}
use Rattle.text_laws.specs.FrameReader.{on_first, pieces, rest, bits_of, keep_row, long_of}
use Rattle.text_laws.proofs.SplitLaws.{is_free, ended_by, split_joined, pieces_are_free}
use Rattle.texts.specs.FramePlaces.{up_to, is_some}
use Rattle.texts.proofs.FrameLeaves.{pieces_first, pieces_none}

-- ── a part of a line ──

pub rest_first : (e : ℕ) (s : List ℕ) → up_to e s < length s → rest e s ≡ rest e (drop (suc (up_to e s)) s)
unfolding pieces rest on_first up_to
rest_first e [] lt = absurd (omega arith)
rest_first e (b ∷ s) lt = go (eqb b e) (rest_first e s) (pieces_first e s) lt
  where
    go : (x : Bool)
        → (up_to e s < length s → rest e s ≡ rest e (drop (suc (up_to e s)) s))
        → (up_to e s < length s → pieces e s ≡ take (up_to e s) s ∷ pieces e (drop (suc (up_to e s)) s))
        → cond x 0 (suc (up_to e s)) < suc (length s)
        → cond x (rest e s) (cond (is_empty (pieces e s)) (b ∷ rest e s) (rest e s))
        ≡ rest e (drop (suc (cond x 0 (suc (up_to e s)))) (b ∷ s))
    go true h k lt = refl
    go false h k lt = rw (k (omega arith)) (h (omega arith))

-- a part of a line is a line
pub line_part : (l : List ℕ) (a n : ℕ) → is_line l ≡ true → is_line (take n (drop a l)) ≡ true
line_part l a n h =
    all_front (λ b. not (eqb b 10)) (take n (drop a l)) (drop n (drop a l))
    (rw (take-append-drop n (drop a l))
    (all_back (λ b. not (eqb b 10)) (take a l) (drop a l) (rw (take-append-drop a l) h)))

pub line_behind : {l : List ℕ} {b : ℕ} {m : List ℕ} → l ≡ b ∷ m → is_line l ≡ true → is_line m ≡ true
line_behind {l} {b} {m} e h = all_back (λ b. not (eqb b 10)) (b ∷ []) m (rw e at h)

-- with neither its bar nor an LF in it, a part fits its bits if its length does
pub fitted_by_length : (e n : ℕ) (p : List ℕ) → is_free e p ≡ true → is_line p ≡ true
    → is_fitted e n p ≡ eqb (length p + 1) (2 * n)
fitted_by_length e n p f g = rw (f, g) (and-true (eqb (length p + 1) (2 * n)))

pub row_kept : (w : ℕ) (row : Row) → is_some (keep_row w row) ≡ is_drawn_row row_lines_most w row
unfolding keep_row
row_kept w row = go (is_drawn_row row_lines_most w row)
  where
    go : (x : Bool) → is_some (cond x (some row) none) ≡ x
    go true = refl
    go false = refl

-- ── a long row, behind its first colon ──

abbrev pub is_long : ℕ → List ℕ → Bool
is_long w l = is_some (long_of w (rest 58 l) (pieces 58 l))

-- no colon, or more than one byte from the colon on
long_other : (w : ℕ) (l : List ℕ) → up_to 58 l ≤ length l → (length l - up_to 58 l ≡ 1 → ⊥) → false ≡ is_long w l
unfolding long_of joined
long_other w l le n = go (eqb (up_to 58 l) (length l)) refl
  where
    behind : (t : List ℕ) (p : List ℕ) (ls : List (List ℕ)) → pieces 58 t ≡ ls → 0 < length t
        → false ≡ is_some (long_of w (rest 58 t) (p ∷ ls))
    behind t p (m ∷ ls) q lt = refl
    behind t p [] q lt =
        let r : rest 58 t ≡ t =
        ap {B = List ℕ} (λ ls. joined (ended_by 58) ls ++ rest 58 t) (sym q) ∙ split_joined 58 t in
        rw r (filled t lt)
      where
        filled : (t : List ℕ) → 0 < length t
            → false ≡ is_some (cond (is_empty t) (keep_row w (long_row (bits_of p) p)) none)
        filled [] lt = absurd (omega arith)
        filled (b ∷ t) lt = refl

    go : (x : Bool) → eqb (up_to 58 l) (length l) ≡ x → false ≡ is_long w l
    go true e = rw (pieces_none 58 l (eqb-true (up_to 58 l) (length l) e)).0 refl
    go false e =
        let lt : up_to 58 l < length l = omega (arith, le, eqb-false (up_to 58 l) (length l) e) in
        let t : List ℕ = drop (suc (up_to 58 l)) l in
        rw (pieces_first 58 l lt, rest_first 58 l lt)
        (behind t (take (up_to 58 l) l) (pieces 58 t) refl (omega (arith, lt, n, length-drop (suc (up_to 58 l)) l)))

-- the colon is the last byte: the length decides
long_one_lem : (w : ℕ) (l : List ℕ) → is_line l ≡ true → length l - up_to 58 l ≡ 1
    → eqb (length l) (2 * w) ≡ is_long w l
unfolding long_of pieces rest all
long_one_lem w l i e =
    let lt : up_to 58 l < length l = omega arith in
    let p : List ℕ = take (up_to 58 l) l in
    let n : length p ≡ up_to 58 l = length-take-le (up_to 58 l) l (omega arith) in
    let t : drop (suc (up_to 58 l)) l ≡ [] = drop_of_length-le l {i = suc (up_to 58 l)} (omega arith) in
    let f : is_free 58 p ≡ true =
    and_left (is_free 58 p) _
    (subst (λ (ps : List (List ℕ)). all (is_free 58) ps ≡ true) (pieces_first 58 l lt) (pieces_are_free 58 l)) in
    rw (pieces_first 58 l lt, rest_first 58 l lt, t)
    (fits p (omega (arith, n, e))
    ∙ sym (ap (λ (x : Bool). eqb (bits_of p) w && x)
    (fitted_by_length 58 (bits_of p) p f (line_part l 0 (up_to 58 l) i)))
    ∙ sym (row_kept w (long_row (bits_of p) p)))
  where
    fits : (p : List ℕ) → length p + 1 ≡ length l
        → eqb (length l) (2 * w) ≡ (eqb (bits_of p) w && eqb (length p + 1) (2 * bits_of p))
    fits p n =
        test_eq (eqb (length l) (2 * w)) (eqb (bits_of p) w && eqb (length p + 1) (2 * bits_of p))
        (λ h. let k = eqb-true (length l) (2 * w) h in
        and_both (eqb (bits_of p) w) (eqb (length p + 1) (2 * bits_of p))
        (eq-eqb (bits_of p) w (omega (arith, k, n)))
        (eq-eqb (length p + 1) (2 * bits_of p) (omega (arith, k, n))))
        (λ h. let k = eqb-true (bits_of p) w (and_left (eqb (bits_of p) w) (eqb (length p + 1) (2 * bits_of p)) h) in
        let m = eqb-true (length p + 1) (2 * bits_of p)
        (and_right (eqb (bits_of p) w) (eqb (length p + 1) (2 * bits_of p)) h) in
        eq-eqb (length l) (2 * w) (omega (arith, k, m, n)))

module _ (w : ℕ) (l : List ℕ) (e : ℕ) (h : e ≡ 0 + up_to 58 l) where
  pub long_end : e ≤ length l → (length l - e ≡ 1 → ⊥) → false ≡ is_long w l
  long_end le ne = long_other w l (omega (arith, le, h)) (λ k. ne (omega (arith, k, h)))

  pub long_size : is_line l ≡ true → length l - e ≡ 1 → eqb (length l) (2 * w) ≡ is_long w l
  long_size i d = long_one_lem w l i (omega (arith, d, h))
