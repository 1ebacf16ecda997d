-- Names held with zeros behind their ends are the same where the names are.
use mathlib.Core.Path.{◌≡◌, refl, sym, ◌∙◌, ap}
use mathlib.Core.Bool.{Bool, true, false, ◌&&◌, ◌||◌, not}
use mathlib.Core.List.{List, [], ◌∷◌, ◌++◌}
use Prim.Native.Nat.{ℕ, zero, suc, min, ◌+◌, ◌≤◌, ◌<◌}
use native.Mathlib.Numerals.{add-one}
use native.Mathlib.Omega.{arith}
use lib.Dec.{leb, eqb}
use lib.ListN.{length, take, drop, get_or, set, replicate}
use lib.Seq.{take_all, take-suc-set}
use borrow.Author.Tests.{ne_eqb, eqb-true, leb-true}
use Rattle.base.specs.Lists.{all, same, head_is, between}
use Rattle.base.proofs.Lists.{not_both, same_self, between_true}
use Rattle.base.proofs.Breaks.{and_true, or_true, all_cons}
use Rattle.rules.specs.Limits.{label_most, short_most}
use Rattle.rules.specs.Names.{is_letter, is_digit, is_space, is_word_byte, is_label_byte, has_word_ends, no_two_spaces}
use Rattle.rules.specs.Names.{is_label, is_reserved, is_short}
use Rattle.names.specs.Repeats.{pad_to, same_name}

pub past_end : (w : List ℕ) (i : ℕ) → length w ≤ i → get_or w i 0 ≡ 0
past_end [] i h = refl
past_end (x ∷ w) zero h = absurd (omega arith)
past_end (x ∷ w) (suc i) h = past_end w i (omega arith)

pad_suc : (n : ℕ) (w : List ℕ) → pad_to (suc n) w ≡ pad_to n w ++ (get_or w n 0 ∷ [])
unfolding pad_to
pad_suc zero [] = refl
pad_suc zero (x ∷ w) = refl
pad_suc (suc n) [] = ap (λ (l : List ℕ). 0 ∷ l) (pad_suc n [])
pad_suc (suc n) (x ∷ w) = ap (λ (l : List ℕ). x ∷ l) (pad_suc n w)

-- ── filling an array ──

pub pad_set : (name w : List ℕ) (i x : ℕ) → i < length name → take i name ≡ pad_to i w → x ≡ get_or w i 0
    → take (i + 1) (set name i x) ≡ pad_to (i + 1) w
pad_set name w i x lt e f = rw (add-one i, take-suc-set name i x lt, pad_suc i w, e, f)

pub pad_whole : (most : ℕ) (name w : List ℕ) (i : ℕ) → i ≡ most → length name ≡ most → take i name ≡ pad_to i w
    → name ≡ pad_to most w
pad_whole most name w i e l h =
    let t : take most name ≡ name = take_all most name (omega arith) in
    sym t ∙ rw e at h

pub pad_copied : (most : ℕ) (w : List ℕ) (n : ℕ) → n ≡ min (length w) most
    → take n w ++ drop n (replicate most 0) ≡ pad_to most w
unfolding pad_to
pad_copied zero w zero e = refl
pad_copied zero w (suc n) e = absurd (omega arith)
pad_copied (suc most) [] zero e = ap (λ (l : List ℕ). 0 ∷ l) (pad_copied most [] zero (omega arith))
pad_copied (suc most) [] (suc n) e = absurd (omega arith)
pad_copied (suc most) (x ∷ w) zero e = absurd (omega arith)
pad_copied (suc most) (x ∷ w) (suc n) e = ap (λ (l : List ℕ). x ∷ l) (pad_copied most w n (omega arith))

-- ── bytes of a short name are not 0 ──

pub word_byte : (b : ℕ) → is_word_byte b ≡ true → 0 < b
unfolding is_word_byte is_letter is_digit
word_byte b h =
    or_true (between 65 b 90 || between 97 b 122) (between 48 b 57)
    (λ e. or_true (between 65 b 90) (between 97 b 122)
    (λ f. omega (arith, between_true 65 b 90 f)) (λ f. omega (arith, between_true 97 b 122 f)) e)
    (λ e. omega (arith, between_true 48 b 57 e)) h

pub record Held (w : List ℕ) : Type 0 where
  pub bytes : all is_word_byte w ≡ true
  pub size : length w ≤ short_most

pub short_held : (w : List ℕ) → is_short w ≡ true → Held w × (head_is is_letter w ≡ true)
unfolding is_short
short_held w h =
    let e = and_true (head_is is_letter w) (all is_word_byte w && (leb (length w) short_most && not (is_reserved w)))
    h in
    let f = and_true (all is_word_byte w) (leb (length w) short_most && not (is_reserved w)) e.1 in
    let g = and_true (leb (length w) short_most) (not (is_reserved w)) f.1 in
    (record { bytes = f.0; size = leb-true _ _ g.0 }, e.0)

-- ── the same where the names are ──

-- names of bytes that are not 0
module _ (p : ℕ → Bool) (some : (b : ℕ) → p b ≡ true → 0 < b) where
  pub pad_same : (n : ℕ) (a b : List ℕ) → all p a ≡ true → all p b ≡ true → length a ≤ n → length b ≤ n
      → same (pad_to n a) (pad_to n b) ≡ same a b
  unfolding pad_to same
  pad_same zero [] [] e f l m = refl
  pad_same zero [] (y ∷ b) e f l m = absurd (omega arith)
  pad_same zero (x ∷ a) b e f l m = absurd (omega arith)
  pad_same (suc n) [] [] e f l m = same_self (pad_to n [])
  pad_same (suc n) [] (y ∷ b) e f l m =
      let h = some y (all_cons p y b f).0 in
      rw (ne_eqb 0 y (λ e. omega arith))
  pad_same (suc n) (x ∷ a) [] e f l m =
      let h = some x (all_cons p x a e).0 in
      rw (ne_eqb x 0 (λ e. omega arith))
  pad_same (suc n) (x ∷ a) (y ∷ b) e f l m =
      rw (pad_same n a b (all_cons p x a e).1 (all_cons p y b f).1 (omega arith) (omega arith))

-- two short names that are held; and none is like nothing
pub held_same : (a b : List ℕ) → is_short a ≡ true → is_short b ≡ true → same_name (pad_to short_most a)
    (pad_to short_most b) ≡ same a b
unfolding same_name pad_to
held_same [] b p q = absurd (not_both false (short_held [] p).1 refl)
held_same (x ∷ a) b p q =
    let h = (short_held (x ∷ a) p).0 in
    let k = (short_held b q).0 in
    let z = word_byte x (all_cons is_word_byte x a h.bytes).0 in
    rw (ne_eqb x 0 (λ e. omega arith)) (pad_same is_word_byte word_byte short_most (x ∷ a) b h.bytes k.bytes
    h.size k.size)

-- two labels that are held
label_byte : (b : ℕ) → is_label_byte b ≡ true → 0 < b
unfolding is_label_byte is_space
label_byte b h =
    or_true (is_word_byte b) (eqb b 32 || eqb b 45) (word_byte b)
    (λ e. or_true (eqb b 32) (eqb b 45)
    (λ f. omega (arith, eqb-true b 32 f)) (λ f. omega (arith, eqb-true b 45 f)) e) h

label_held : (w : List ℕ) → is_label w ≡ true → (all is_label_byte w ≡ true) × (length w ≤ label_most)
unfolding is_label
label_held w h =
    let e = and_true (leb (length w) label_most) (all is_label_byte w && (has_word_ends w && no_two_spaces w)) h in
    ((and_true (all is_label_byte w) (has_word_ends w && no_two_spaces w) e.1).0, leb-true _ _ e.0)

pub label_same : (a b : List ℕ) → is_label a ≡ true → is_label b ≡ true
    → same (pad_to label_most a) (pad_to label_most b) ≡ same a b
label_same a b h k =
    let p = label_held a h in
    let q = label_held b k in
    pad_same is_label_byte label_byte label_most a b p.0 q.0 p.1 q.1

pub none_first : (b : List ℕ) → same_name (pad_to short_most []) b ≡ false
unfolding same_name pad_to
none_first b = refl

pub none_second : (a : List ℕ) → is_short a ≡ true → same_name (pad_to short_most a) (pad_to short_most []) ≡ false
unfolding same_name pad_to same
none_second [] p = refl
none_second (x ∷ a) p =
    let h = (short_held (x ∷ a) p).0 in
    let z = word_byte x (all_cons is_word_byte x a h.bytes).0 in
    rw (ne_eqb x 0 (λ e. omega arith))
