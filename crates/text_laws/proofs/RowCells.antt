-- Labels, and spaces at the ends of a line.
use mathlib.Core.Path.{◌≡◌, refl, ap, sym, ◌∙◌}
use mathlib.Core.Bool.{Bool, true, false, cond, ◌&&◌, not}
use mathlib.Core.List.{List, [], ◌∷◌, ◌++◌}
use Prim.Native.Nat.{ℕ, zero, suc}
use lib.Dec.{leb, eqb}
use lib.ListN.{length, replicate}
use borrow.Author.Tests.{eqb-true, ne_eqb}
use Rattle.base.specs.Lists.{all, head_is, last_is}
use Rattle.base.proofs.Lists.{and_left, and_right, all_weaken, not_both}
use Rattle.rules.specs.Limits.{label_most}
use Rattle.rules.specs.Names.{line_feed, is_label, is_label_byte, is_word_byte, is_letter, is_digit, is_space}
use Rattle.rules.specs.Names.{has_word_ends}
use Rattle.rules.specs.Names.{no_two_spaces}
use Rattle.rules.specs.Rows.{left_trim, keep_end, right_trim}
use Rattle.text_laws.proofs.SplitLaws.{is_free}

-- ── what a label is ──

pub label_bytes_lem : (w : List ℕ) → is_label w ≡ true → all is_label_byte w ≡ true
unfolding is_label
label_bytes_lem w h =
    and_left (all is_label_byte w) (has_word_ends w && no_two_spaces w)
    (and_right (leb (length w) label_most) (all is_label_byte w && (has_word_ends w && no_two_spaces w)) h)

label_ends_lem : (w : List ℕ) → is_label w ≡ true → has_word_ends w ≡ true
unfolding is_label
label_ends_lem w h =
    and_left (has_word_ends w) (no_two_spaces w)
    (and_right (all is_label_byte w) (has_word_ends w && no_two_spaces w)
    (and_right (leb (length w) label_most) (all is_label_byte w && (has_word_ends w && no_two_spaces w)) h))

pub label_head : (w : List ℕ) → is_label w ≡ true → head_is is_word_byte w ≡ true
label_head w h = and_left (head_is is_word_byte w) (last_is is_word_byte w) (label_ends_lem w h)

pub label_last : (w : List ℕ) → is_label w ≡ true → last_is is_word_byte w ≡ true
label_last w h = and_right (head_is is_word_byte w) (last_is is_word_byte w) (label_ends_lem w h)

word_no_space : (c : ℕ) → is_word_byte c ≡ true → is_space c ≡ false
unfolding is_space is_word_byte is_letter is_digit
word_no_space c h = ne_eqb c 32 (λ e. not_both (is_word_byte 32) (ap is_word_byte (sym e) ∙ h) refl)

-- ── spaces off ──

-- the number of spaces in front
unfoldable pub lead : List ℕ → ℕ
lead [] = 0
lead (c ∷ s) = cond (is_space c) (suc (lead s)) 0

pub left_split : (s : List ℕ) → replicate (lead s) 32 ++ left_trim s ≡ s
unfolding lead left_trim is_space
left_split [] = refl
left_split (c ∷ s) = go (eqb c 32) refl (left_split s)
  where
    go : (x : Bool) → eqb c 32 ≡ x → replicate (lead s) 32 ++ left_trim s ≡ s
        → replicate (cond x (suc (lead s)) 0) 32 ++ cond x (left_trim s) (c ∷ s) ≡ c ∷ s
    go true e h = let q : c ≡ 32 = eqb-true c 32 e in cc
    go false e h = refl

pub right_some : (s : List ℕ) → (j : ℕ) × (right_trim s ++ replicate j 32 ≡ s)
unfolding right_trim keep_end is_space
right_some [] = (0, refl)
right_some (c ∷ s) = let w = right_some s in go (right_trim s) w.0 w.1
  where
    end : (x : Bool) → eqb c 32 ≡ x → (j : ℕ) → replicate j 32 ≡ s
        → (i : ℕ) × (cond x [] (c ∷ []) ++ replicate i 32 ≡ c ∷ s)
    end true p j e = (suc j, (let q : c ≡ 32 = eqb-true c 32 p in cc))
    end false p j e = (j, ap (λ (l : List ℕ). c ∷ l) e)

    go : (t : List ℕ) (j : ℕ) → t ++ replicate j 32 ≡ s → (i : ℕ) × (keep_end c t ++ replicate i 32 ≡ c ∷ s)
    go [] j e = end (eqb c 32) refl j e
    go (d ∷ t) j e = (j, ap (λ (l : List ℕ). c ∷ l) e)

-- ── the spaces around a label ──

pub left_pad : (i : ℕ) (w z : List ℕ) → head_is is_word_byte w ≡ true → left_trim (replicate i 32 ++ (w ++ z)) ≡ w ++ z
unfolding left_trim is_space
left_pad zero [] z h = absurd (not_both false h refl)
left_pad zero (c ∷ w) z h = rw (word_no_space c h)
left_pad (suc i) w z h = left_pad i w z h

right_spaces : (j : ℕ) → right_trim (replicate j 32) ≡ []
unfolding right_trim keep_end is_space
right_spaces zero = refl
right_spaces (suc j) = rw (right_spaces j)

pub right_pad : (s : List ℕ) (j : ℕ) → right_trim (s ++ replicate j 32) ≡ right_trim s
unfolding right_trim
right_pad [] j = right_spaces j
right_pad (c ∷ s) j = ap (keep_end c) (right_pad s j)

pub right_last : (s : List ℕ) → last_is is_word_byte s ≡ true → right_trim s ≡ s
unfolding right_trim keep_end last_is
right_last [] h = refl
right_last (c ∷ []) h = rw (word_no_space c h)
right_last (c ∷ d ∷ s) h = rw (right_last (d ∷ s) h)

-- ── bytes that no label holds ──

pub bar : is_label_byte 124 ≡ false
unfolding is_label_byte is_word_byte is_letter is_digit is_space
bar = refl

pub colon : is_label_byte 58 ≡ false
unfolding is_label_byte is_word_byte is_letter is_digit is_space
colon = refl

pub feed : is_label_byte line_feed ≡ false
unfolding is_label_byte is_word_byte is_letter is_digit is_space
feed = refl

spaces_free : (e : ℕ) → is_label_byte e ≡ false → (i : ℕ) → is_free e (replicate i 32) ≡ true
unfolding all is_label_byte is_word_byte is_letter is_digit is_space
spaces_free e f zero = refl
spaces_free e f (suc i) =
    rw (ne_eqb 32 e (λ q. not_both (is_label_byte e) (ap is_label_byte (sym q)) f)) (spaces_free e f i)

pub label_free : (e : ℕ) → is_label_byte e ≡ false → (w : List ℕ) → is_label w ≡ true → is_free e w ≡ true
label_free e f w h = all_weaken is_label_byte (λ b. not (eqb b e)) other w (label_bytes_lem w h)
  where
    other : (b : ℕ) → is_label_byte b ≡ true → not (eqb b e) ≡ true
    other b p = rw (ne_eqb b e (λ q. not_both (is_label_byte b) p (ap is_label_byte q ∙ f)))
