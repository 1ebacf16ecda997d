-- A line has the bars of a row exactly if it has bars at the columns where the row's first line has them.
use mathlib.Core.Path.{◌≡◌, refl, ap, sym, ◌∙◌, subst}
use mathlib.Core.Bool.{Bool, true, false, ◌&&◌, not}
use mathlib.Core.List.{List, [], ◌∷◌, ◌++◌, append_assoc}
use Prim.Native.Nat.{ℕ, suc, ◌+◌, ◌*◌}
use native.Mathlib.Omega.{arith}
use lib.Dec.{eqb}
use lib.ListN.{length}
use borrow.Author.Tests.{eqb-true, eq-eqb}
use Rattle.base.specs.Lists.{all, joined}
use Rattle.base.proofs.Lists.{and_left, and_right, and_both, all_front, all_back, not_both}
use Rattle.rules.specs.Rows.{bar_line, is_fitted, are_fitted}
use Rattle.rules.specs.Frames.{is_line}
use Rattle.text_laws.specs.Bars.{alike, same_bars}
use Rattle.text_laws.proofs.SplitLaws.{is_free, ended_by, other, others}

-- ── up to the next bar ──

record Cut (n : ℕ) (rest l : List ℕ) : Type 0 where
  front : List ℕ
  back : List ℕ
  is_cut : l ≡ front ++ (124 ∷ back)
  size : length front ≡ n
  free : is_free 124 front ≡ true
  bars : same_bars rest back ≡ true

bars_cut : (s rest l : List ℕ) → is_free 124 s ≡ true → same_bars (s ++ (124 ∷ rest)) l ≡ true → Cut (length s) rest l
unfolding same_bars all
bars_cut [] rest [] f h = absurd (not_both false h refl)
bars_cut [] rest (b ∷ l) f h = go (eqb b 124) refl h
  where
    go : (x : Bool) → eqb b 124 ≡ x → (alike true x && same_bars rest l) ≡ true → Cut 0 rest (b ∷ l)
    go true e k = record {
      front = [];
      back = l;
      is_cut = ap {B = List ℕ} (λ c. c ∷ l) (eqb-true b 124 e);
      size = refl;
      free = refl;
      bars = k;
    }
    go false e k = absurd (not_both false k refl)
bars_cut (a ∷ s) rest [] f h = absurd (not_both false h refl)
bars_cut (a ∷ s) rest (b ∷ l) f h =
    go (eqb b 124) refl (subst (λ (x : Bool). (alike x (eqb b 124) && same_bars (s ++ (124 ∷ rest)) l) ≡ true)
    (other 124 a s f) h) (bars_cut s rest l (others 124 a s f))
  where
    go : (x : Bool) → eqb b 124 ≡ x → (alike false x && same_bars (s ++ (124 ∷ rest)) l) ≡ true
        → (same_bars (s ++ (124 ∷ rest)) l ≡ true → Cut (length s) rest l) → Cut (suc (length s)) rest (b ∷ l)
    go true e k r = absurd (not_both false k refl)
    go false e k r =
        let w = r k in
        record {
          front = b ∷ w.front;
          back = w.back;
          is_cut = ap {B = List ℕ} (λ m. b ∷ m) w.is_cut;
          size = ap suc w.size;
          free = rw e w.free;
          bars = w.bars;
        }

-- ── all bars ──

-- the strips of a line that has the bars of one with these strips
strips_fit : (bits : List ℕ) (ss : List (List ℕ)) (l : List ℕ) → are_fitted bits ss ≡ true → is_line l ≡ true
    → same_bars (joined (ended_by 124) ss) l ≡ true
    → (ts : List (List ℕ)) × (l ≡ joined (ended_by 124) ts) × (are_fitted bits ts ≡ true)
unfolding are_fitted joined
strips_fit [] [] [] f h k = ([], refl, refl)
strips_fit [] [] (b ∷ l) f h k = absurd (unfold same_bars in not_both false k refl)
strips_fit [] (s ∷ ss) l f h k = absurd (not_both false f refl)
strips_fit (n ∷ bits) [] l f h k = absurd (not_both false f refl)
strips_fit (n ∷ bits) (s ∷ ss) l f h k =
    let fs = and_left (is_fitted 124 n s) (are_fitted bits ss) f in
    let size = eqb-true (length s + 1) (2 * n) (and_left (eqb (length s + 1) (2 * n)) _ fs) in
    let w = bars_cut s (joined (ended_by 124) ss) l
    (and_left (is_free 124 s) (is_free 10 s) (and_right (eqb (length s + 1) (2 * n)) _ fs))
    (rw (← append_assoc s (124 ∷ []) (joined (ended_by 124) ss)) k) in
    let line : is_line (w.front ++ (124 ∷ w.back)) ≡ true = subst (λ (m : List ℕ). is_line m ≡ true) w.is_cut h in
    let fine : is_fitted 124 n w.front ≡ true =
    and_both (eqb (length w.front + 1) (2 * n)) _
    (eq-eqb (length w.front + 1) (2 * n) (let z = w.size in omega (arith, z, size)))
    (and_both (is_free 124 w.front) (is_free 10 w.front) w.free
    (all_front (λ b. not (eqb b 10)) w.front (124 ∷ w.back) line)) in
    let r = strips_fit bits ss w.back (and_right (is_fitted 124 n s) (are_fitted bits ss) f)
    (others 10 124 w.back (all_back (λ b. not (eqb b 10)) w.front (124 ∷ w.back) line)) w.bars in (
      w.front ∷ r.0,
      w.is_cut ∙ sym (append_assoc w.front (124 ∷ []) w.back)
          ∙ ap (λ (m : List ℕ). (w.front ++ (124 ∷ [])) ++ m) r.1,
      and_both (is_fitted 124 n w.front) (are_fitted bits r.0) fine r.2,
    )

-- a line with these bars is one of the row
pub bars_fit : (bits : List ℕ) (ss : List (List ℕ)) (l : List ℕ) → are_fitted bits ss ≡ true → is_line l ≡ true
    → same_bars (bar_line ss) l ≡ true → (ts : List (List ℕ)) × (l ≡ bar_line ts) × (are_fitted bits ts ≡ true)
unfolding all
bars_fit bits ss l f h k =
    let w = bars_cut [] (joined (ended_by 124) ss) l refl k in
    go l h w w.front refl
  where
    go : (l : List ℕ) → is_line l ≡ true → (w : Cut 0 (joined (ended_by 124) ss) l) → (t : List ℕ) → w.front ≡ t
        → (ts : List (List ℕ)) × (l ≡ bar_line ts) × (are_fitted bits ts ≡ true)
    go l h w (b ∷ t) e = absurd (let z = w.size in let y = ap length e in omega (arith, z, y))
    go l h w [] e =
        let c : l ≡ 124 ∷ w.back = w.is_cut ∙ ap (λ (m : List ℕ). m ++ (124 ∷ w.back)) e in
        let r = strips_fit bits ss w.back f
        (others 10 124 w.back (subst (λ (m : List ℕ). is_line m ≡ true) c h)) w.bars in
        (r.0, c ∙ ap {B = List ℕ} (λ m. 124 ∷ m) r.1, r.2)

-- ── and the other way ──

same_strip : (s t u v : List ℕ) → length s ≡ length t → is_free 124 s ≡ true → is_free 124 t ≡ true
    → same_bars u v ≡ true → same_bars (s ++ (124 ∷ u)) (t ++ (124 ∷ v)) ≡ true
unfolding same_bars all
same_strip [] [] u v e f g h = h
same_strip [] (b ∷ t) u v e f g h = absurd (omega (arith, e))
same_strip (a ∷ s) [] u v e f g h = absurd (omega (arith, e))
same_strip (a ∷ s) (b ∷ t) u v e f g h =
    rw (other 124 a s f, other 124 b t g)
    (same_strip s t u v (omega (arith, e)) (others 124 a s f) (others 124 b t g) h)

strips_bars : (bits : List ℕ) (ss ts : List (List ℕ)) → are_fitted bits ss ≡ true → are_fitted bits ts ≡ true
    → same_bars (joined (ended_by 124) ss) (joined (ended_by 124) ts) ≡ true
unfolding are_fitted joined
strips_bars [] [] [] f g = unfold same_bars in refl
strips_bars [] (s ∷ ss) ts f g = absurd (not_both false f refl)
strips_bars [] [] (t ∷ ts) f g = absurd (not_both false g refl)
strips_bars (n ∷ bits) [] ts f g = absurd (not_both false f refl)
strips_bars (n ∷ bits) (s ∷ ss) [] f g = absurd (not_both false g refl)
strips_bars (n ∷ bits) (s ∷ ss) (t ∷ ts) f g =
    let a = and_left (is_fitted 124 n s) (are_fitted bits ss) f in
    let b = and_left (is_fitted 124 n t) (are_fitted bits ts) g in
    let x = eqb-true (length s + 1) (2 * n) (and_left (eqb (length s + 1) (2 * n)) _ a) in
    let y = eqb-true (length t + 1) (2 * n) (and_left (eqb (length t + 1) (2 * n)) _ b) in
    rw (append_assoc s (124 ∷ []) (joined (ended_by 124) ss), append_assoc t (124 ∷ []) (joined (ended_by 124) ts))
    (same_strip s t (joined (ended_by 124) ss) (joined (ended_by 124) ts) (omega (arith, x, y))
    (and_left (is_free 124 s) (is_free 10 s) (and_right (eqb (length s + 1) (2 * n)) _ a))
    (and_left (is_free 124 t) (is_free 10 t) (and_right (eqb (length t + 1) (2 * n)) _ b))
    (strips_bars bits ss ts (and_right (is_fitted 124 n s) (are_fitted bits ss) f)
    (and_right (is_fitted 124 n t) (are_fitted bits ts) g)))

pub fit_bars : (bits : List ℕ) (ss ts : List (List ℕ)) → are_fitted bits ss ≡ true → are_fitted bits ts ≡ true
    → same_bars (bar_line ss) (bar_line ts) ≡ true
unfolding same_bars
fit_bars bits ss ts f g = strips_bars bits ss ts f g
