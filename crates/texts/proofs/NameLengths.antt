-- The lengths of held names: like names have one, and it is where the name's zeros begin.
use mathlib.Core.Path.{◌≡◌, refl, sym, ◌∙◌, ap}
use mathlib.Core.Bool.{Bool, true, false}
use mathlib.Core.List.{List, [], ◌∷◌}
use Prim.Native.Nat.{ℕ, zero, suc, ◌+◌, ◌-◌, ◌≤◌, ◌<◌}
use native.Mathlib.Omega.{arith}
use lib.Dec.{eqb}
use lib.ListN.{length, take, drop, get_or}
use lib.Seq.{get_or-take, get_or-drop}
use borrow.Author.Tests.{eq-eqb, ne_eqb, eqb-false}
use Rattle.base.specs.Lists.{all, head_is}
use Rattle.base.proofs.Lists.{fails, not_both}
use Rattle.base.proofs.Breaks.{all_cons}
use Rattle.rules.specs.Limits.{short_most}
use Rattle.rules.specs.Names.{is_letter, is_word_byte, is_short}
use Rattle.names.specs.Repeats.{pad_to, same_name}
use Rattle.names.proofs.KeyLaws.{same_keys}
use Rattle.names.proofs.PadLaws.{Held, word_byte, past_end, short_held}
use Rattle.texts.specs.HeldNames.{has_length, HeldLength}

-- names of other lengths differ
pub other_length : (held name : List ℕ) (len : ℕ) → HeldLength held len → has_length name len ≡ false
    → same_name held name ≡ false
other_length held name len h e =
    fails (same_name held name) (λ s.
    not_both (has_length held len) h.ends (ap (λ (v : List ℕ). has_length v len) (same_keys held name s).1 ∙ e))

-- ── a name at a place ──

-- it has len bytes, by its last byte and the one behind it
module _ (b : List ℕ) (at len : ℕ) (some : 0 < len) (most : len ≤ short_most) where
  byte_at : (i : ℕ) → i < short_most → get_or (take short_most (drop at b)) i 0 ≡ get_or b (at + i) 0
  byte_at i lt = get_or-take short_most (drop at b) i 0 lt ∙ get_or-drop at b i 0

  last_byte : get_or (take short_most (drop at b)) (len - 1) 0 ≡ get_or b (at + len - 1) 0
  last_byte =
      let k : at + (len - 1) ≡ at + len - 1 = omega arith in
      byte_at (len - 1) (omega arith) ∙ ap (λ (i : ℕ). get_or b i 0) k

  pub length_none : get_or b (at + len - 1) 0 ≡ 0 → false ≡ has_length (take short_most (drop at b)) len
  unfolding has_length
  length_none z = rw (eq-eqb _ _ (last_byte ∙ z)) refl

  pub length_full : (get_or b (at + len - 1) 0 ≡ 0 → ⊥) → len ≡ short_most
      → true ≡ has_length (take short_most (drop at b)) len
  unfolding has_length
  length_full h e = rw (ne_eqb _ _ (λ z. h (sym last_byte ∙ z)), eq-eqb _ _ e) refl

  pub length_ends : (get_or b (at + len - 1) 0 ≡ 0 → ⊥) → (len ≡ short_most → ⊥)
      → eqb (get_or b (at + len) 0) 0 ≡ has_length (take short_most (drop at b)) len
  unfolding has_length
  length_ends h ne =
      rw (ne_eqb _ _ (λ z. h (sym last_byte ∙ z)), ne_eqb _ _ ne, byte_at len (omega (arith, ne))) refl

-- ── padded names ──

pub pad_length : (n : ℕ) (w : List ℕ) → length (pad_to n w) ≡ n
unfolding pad_to
pad_length zero w = refl
pad_length (suc n) [] = ap suc (pad_length n [])
pad_length (suc n) (x ∷ w) = ap suc (pad_length n w)

pub padded_length : {v : List ℕ} (n : ℕ) (w : List ℕ) → v ≡ pad_to n w → length v ≡ n
padded_length n w e = ap length e ∙ pad_length n w

-- one that is long enough is as it was
pub pad_full : (n : ℕ) (w : List ℕ) → length w ≡ n → pad_to n w ≡ w
unfolding pad_to
pad_full zero [] e = refl
pad_full zero (x ∷ w) e = absurd (omega (arith, e))
pad_full (suc n) [] e = absurd (omega (arith, e))
pad_full (suc n) (x ∷ w) e = ap (λ (v : List ℕ). x ∷ v) (pad_full n w (omega (arith, e)))

-- ── the length of a short name ──

pad_at : (n : ℕ) (w : List ℕ) (i : ℕ) → i < n → get_or (pad_to n w) i 0 ≡ get_or w i 0
unfolding pad_to
pad_at zero w i lt = absurd (omega arith)
pad_at (suc n) [] zero lt = refl
pad_at (suc n) [] (suc i) lt = pad_at n [] i (omega arith)
pad_at (suc n) (x ∷ w) zero lt = refl
pad_at (suc n) (x ∷ w) (suc i) lt = pad_at n w i (omega arith)

word_at : (w : List ℕ) (i : ℕ) → all is_word_byte w ≡ true → i < length w → 0 < get_or w i 0
word_at [] i h lt = absurd (omega arith)
word_at (x ∷ w) zero h lt = word_byte x (all_cons is_word_byte x w h).0
word_at (x ∷ w) (suc i) h lt = word_at w i (all_cons is_word_byte x w h).1 (omega arith)

not_empty : (w : List ℕ) → head_is is_letter w ≡ true → 0 < length w
not_empty [] h = absurd (not_both false h refl)
not_empty (x ∷ w) h = omega arith

pub held_length : (w : List ℕ) → is_short w ≡ true → HeldLength (pad_to short_most w) (length w)
unfolding has_length
held_length w h = record { some = some; most = p.0.size; first = first; ends = ends (eqb (length w) short_most) refl }
  where
    p : Held w × (head_is is_letter w ≡ true)
    p = short_held w h

    some : 0 < length w
    some = not_empty w p.1

    -- a byte of the name
    byte : (i : ℕ) → i < length w → get_or (pad_to short_most w) i 0 ≡ 0 → ⊥
    byte i lt z =
        omega (arith, word_at w i p.0.bytes lt, pad_at short_most w i (omega (arith, p.0.size)), z)

    first : get_or (pad_to short_most w) 0 0 ≡ 0 → ⊥
    first = byte 0 some

    ends : (full : Bool) → eqb (length w) short_most ≡ full → has_length (pad_to short_most w) (length w) ≡ true
    ends true e = rw (ne_eqb _ _ (byte (length w - 1) (omega (arith, some))), e) refl
    ends false e =
        let lt : length w < short_most = omega (arith, p.0.size, eqb-false (length w) short_most e) in
        let z = pad_at short_most w (length w) lt ∙ past_end w (length w) (omega arith) in
        rw (ne_eqb _ _ (byte (length w - 1) (omega (arith, some))), e, eq-eqb _ _ z) refl
