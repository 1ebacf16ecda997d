-- Words, numbers and names at a place of a text, against the reader over what is left of it.
use mathlib.Core.Path.{◌≡◌, refl, ap, sym, ◌∙◌}
use mathlib.Core.Bool.{Bool, true, false, ◌&&◌, ◌||◌, and-false}
use mathlib.Core.List.{List, [], ◌∷◌}
use Prim.Native.Nat.{ℕ, suc, ◌+◌, ◌*◌, ◌-◌, ◌≤◌, ◌<◌}
use native.Mathlib.Omega.{arith}
use native.Mathlib.Numerals.{add-one}
use native.Mathlib.Decide.{dec_lt}
use lib.Dec.{leb, eqb}
use lib.ListN.{length, take, drop, get_or, length-drop, length-append}
use lib.Seq.{drop-cons, drop-length, take_at}
use borrow.Author.Tests.{le-leb, lt-leb, ne_eqb}
use Rattle.base.specs.Lists.{all, is_empty}
use Rattle.base.proofs.Lists.{and_left, and_right, between_true}
use Rattle.rules.specs.Limits.{number_most}
use Rattle.rules.specs.Names.{is_digit}
use Rattle.text_laws.specs.Reader.{word, behind, scan, word_value, is_numeral, is_number_word}
use Rattle.text_laws.proofs.ReaderWords.{word_behind}

pub digit_range : (c : ℕ) → is_digit c ≡ true → (48 ≤ c) × (c ≤ 57)
unfolding is_digit
digit_range c t = between_true 48 c 57 t

-- ── a word ──

-- the word is what stands between the two places
pub word_part : (s : List ℕ) (at end : ℕ) → at ≤ end → end ≤ length s → drop end s ≡ behind (drop at s)
    → take (end - at) (drop at s) ≡ word (drop at s)
word_part s at end le le' e =
    let z : List ℕ = drop at s in
    let n : length (word z) + length (behind z) ≡ length s - at =
    sym (length-append (word z) (behind z)) ∙ ap length (sym (word_behind z)) ∙ length-drop at s in
    let m : length (behind z) ≡ length s - end = ap length (sym e) ∙ length-drop end s in
    let k : length (word z) ≡ end - at = omega arith in
    ap (λ (l : List ℕ). take (end - at) l) (word_behind z) ∙ take_at (word z) (behind z) (end - at) k

-- ── a number ──

module _ (p : ℕ → Bool) (s : List ℕ) (at : ℕ) where
  pub all_step : at < length s → p (get_or s at 0) ≡ true → all p (drop at s) ≡ all p (drop (at + 1) s)
  unfolding all
  all_step lt e = rw (drop-cons s at 0 lt, e, add-one at) refl

  pub all_stop : at < length s → p (get_or s at 0) ≡ false → all p (drop at s) ≡ false
  unfolding all
  all_stop lt e = rw (drop-cons s at 0 lt, e) refl

  pub all_end : length s ≤ at → at ≤ length s → all p (drop at s) ≡ true
  unfolding all
  all_end le le' = let e : at ≡ length s = omega arith in rw (e, drop-length) refl

pub scan_step : (s : List ℕ) (at v : ℕ) → at < length s
    → scan v (drop at s) ≡ scan (v * 10 + (get_or s at 0 - 48)) (drop (at + 1) s)
unfolding scan
scan_step s at v lt = let e : v * 10 ≡ 10 * v = omega arith in rw (drop-cons s at 0 lt, add-one at, e) refl

pub scan_end : (s : List ℕ) (at v : ℕ) → length s ≤ at → at ≤ length s → scan v (drop at s) ≡ v
unfolding scan
scan_end s at v le le' = let e : at ≡ length s = omega arith in rw (e, drop-length) refl

pub scan_ge : (s : List ℕ) (v : ℕ) → v ≤ scan v s
unfolding scan
scan_ge [] v = omega arith
scan_ge (c ∷ s) v = let h = scan_ge s (10 * v + (c - 48)) in omega arith

pub number_empty : (w : List ℕ) → length w ≡ 0 → is_number_word w ≡ false
unfolding is_number_word is_numeral
number_empty [] e = refl
number_empty (c ∷ w) e = absurd (omega arith)

pub number_zero : (w : List ℕ) → 0 < length w → get_or w 0 0 ≡ 48 → eqb (length w) 1 ≡ is_number_word w
unfolding is_number_word is_numeral is_digit all word_value scan
number_zero [] lt e = absurd (omega arith)
number_zero (c ∷ []) lt e = rw e refl
number_zero (c ∷ d ∷ w) lt e =
    rw (e, and-false (is_digit d && all is_digit w)) (ne_eqb (suc (suc (length w))) 1 (λ q. omega arith))

-- not all of its bytes are digits
pub number_other : (w : List ℕ) → all is_digit w ≡ false → is_number_word w ≡ false
unfolding is_number_word is_numeral all
number_other [] e = refl
number_other (c ∷ w) e = go (is_digit c) (all is_digit w) e
  where
    go : (x y : Bool) → (x && y) ≡ false
        → (x && (y && (leb 49 c || is_empty w)) && leb (word_value (c ∷ w)) number_most) ≡ false
    go true true q = let z : ◌≡◌ {A = ℕ} 0 1 = cc in absurd (omega arith)
    go true false q = refl
    go false y q = refl

pub number_large : (w : List ℕ) → number_most < word_value w → is_number_word w ≡ false
unfolding is_number_word
number_large w lt = rw (lt-leb (word_value w) number_most lt) (and-false (is_numeral w))

pub number_yes : (w : List ℕ) → 0 < length w → (get_or w 0 0 ≡ 48 → ⊥) → all is_digit w ≡ true
    → word_value w ≤ number_most
    → is_number_word w ≡ true
unfolding is_number_word is_numeral all
number_yes [] lt ne a le = absurd (omega arith)
number_yes (c ∷ w) lt ne a le =
    let d : is_digit c ≡ true = and_left (is_digit c) (all is_digit w) a in
    let r = digit_range c d in
    let ge : 48 ≤ c = r.0 in
    let ge' : 49 ≤ c = omega (arith, ne) in
    rw (d, and_right (is_digit c) (all is_digit w) a, le-leb 49 c ge', le-leb (word_value (c ∷ w)) number_most le) refl

-- ── a leaf ──

module _ (s : List ℕ) (at end : ℕ) (lo : at ≤ end) (hi : end ≤ length s) (e : drop end s ≡ behind (drop at s)) where
  -- a test that refuses the empty word
  pub longer : (p : List ℕ → Bool) → p [] ≡ false → p (take (end - at) (drop at s)) ≡ true → at + 1 ≤ end
  longer p n y = go (dec_lt at end)
    where
      go : Dec (at < end) → at + 1 ≤ end
      go (yes h) = omega arith
      go (no h) =
          let z : end - at ≡ 0 = omega (arith, h) in
          let y' : p (take 0 (drop at s)) ≡ true = rw z at y in
          let q : ◌≡◌ {A = ℕ} 0 1 = cc in
          absurd (omega arith)
