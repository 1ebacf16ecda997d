-- The place of the first byte that passes a test, as the library's `position` finds it.
use Rattle.std.proofs.Common.{◌≡◌, ℕ, suc, ◌+◌, ◌-◌, ◌≤◌, Bool, true, false, cond, not, eqb, ltb}
use Rattle.std.proofs.Common.{List, [], ◌∷◌, length, get_or, take, drop, Option, Some, None, unwrap_or, refl, ap, ◌∙◌}
use Rattle.std.proofs.Common.{zero, sym, reverse, arith, one-add, sub-one, take_all}
use Rattle.std.specs.List.{position_or_len, suffix_len}
use Rattle.std.proofs.lemmas.List.Sums.{prefix_len-le-length, suffix_len-take_yes, suffix_len-take_no}
use borrow.Author.Tests.{ltb-false}
use lib.Seq.{drop-drop}
use lib.ListN.{length-drop}
use Rattle.rules.specs.Names.{is_printable, is_space, is_word_byte}
use Rattle.rules.specs.Rows.{left_trim, right_trim}
use Rattle.text_laws.specs.Reader.{behind}
use Rattle.texts.specs.FramePlaces.{up_to}
use Rattle.texts.specs.LineEnds.{printable_length}
use Rattle.texts.specs.PartPlaces.{past_open}
use Rattle.texts.proofs.FrameLeaves.{take_rest}
use Rattle.texts.proofs.TrimLaws.{right_end, right_stop, right_step}

pub within : (p : ℕ → Bool) (s : List ℕ) → position_or_len p s ≤ length s
within p s = prefix_len-le-length (λ b. not (p b)) s

-- what `position` answers, with the length where no byte passes
pub place_is : (p : ℕ → Bool) (s : List ℕ) (r : Option ℕ)
    → r ≡ cond (ltb (position_or_len p s) (length s)) (Some (position_or_len p s)) None
    → unwrap_or r (length s) ≡ position_or_len p s
place_is p s r e = ap (λ (o : Option ℕ). unwrap_or o (length s)) e ∙ go (ltb (position_or_len p s) (length s)) refl
  where
    go : (b : Bool) → ltb (position_or_len p s) (length s) ≡ b
        → unwrap_or (cond b (Some (position_or_len p s)) None) (length s) ≡ position_or_len p s
    go true h = refl
    go false h = let le = ltb-false (position_or_len p s) (length s) h in omega (arith, le, within p s)

-- the same from a place on
pub place_from : (p : ℕ → Bool) (s : List ℕ) (at : ℕ) (r : Option ℕ)
    → r ≡ cond (ltb (position_or_len p (take (length s - at) (drop at s))) (length (take (length s - at) (drop at s))))
    (Some (position_or_len p (take (length s - at) (drop at s)))) None
    → unwrap_or r (length (take (length s - at) (drop at s))) ≡ position_or_len p (drop at s)
place_from p s at r e = place_is p (take (length s - at) (drop at s)) r e ∙ ap (position_or_len p) (take_rest at s)

-- past it, where so many bytes before it are dropped
pub stops : (p : ℕ → Bool) (s : List ℕ) (at : ℕ) → at ≤ length s → (r : Option ℕ)
    → r ≡ cond (ltb (position_or_len p (take (length s - at) (drop at s))) (length (take (length s - at) (drop at s))))
    (Some (position_or_len p (take (length s - at) (drop at s)))) None
    → (n : ℕ) → n ≡ unwrap_or r (length (take (length s - at) (drop at s))) → (z : List ℕ)
    → drop (position_or_len p (drop at s)) (drop at s) ≡ z
    → (at ≤ at + n) × (at + n ≤ length s) × (drop (at + n) s ≡ z)
stops p s at le r e n is z h =
    let k : n ≡ position_or_len p (drop at s) = is ∙ place_from p s at r e in (
      omega arith,
      omega (arith, k, within p (drop at s), length-drop at s),
      sym (drop-drop n at s) ∙ ap (λ (i : ℕ). drop i (drop at s)) k ∙ h,
    )

-- the first byte e
pub up_to_place : (e : ℕ) (s : List ℕ) → position_or_len (λ b. eqb b e) s ≡ up_to e s
unfolding up_to
up_to_place e [] = refl
up_to_place e (b ∷ s) = go (eqb b e) (up_to_place e s)
  where
    go : (x : Bool) → position_or_len (λ b. eqb b e) s ≡ up_to e s
        → cond (not x) (1 + position_or_len (λ b. eqb b e) s) 0 ≡ cond x 0 (suc (up_to e s))
    go true h = refl
    go false h = omega (arith, h)

-- the first byte that is not printable
pub printable_place : (s : List ℕ) → position_or_len (λ b. not (is_printable b)) s ≡ printable_length s
unfolding printable_length
printable_place [] = refl
printable_place (b ∷ s) = go (is_printable b) (printable_place s)
  where
    go : (x : Bool) → position_or_len (λ b. not (is_printable b)) s ≡ printable_length s
        → cond (not (not x)) (1 + position_or_len (λ b. not (is_printable b)) s) 0
        ≡ cond x (suc (printable_length s)) 0
    go true h = omega (arith, h)
    go false h = refl

-- the first byte that is no space
pub left_place : (s : List ℕ) → drop (position_or_len (λ b. not (is_space b)) s) s ≡ left_trim s
unfolding left_trim
left_place [] = refl
left_place (c ∷ s) = go (is_space c) (left_place s)
  where
    go : (x : Bool) → drop (position_or_len (λ b. not (is_space b)) s) s ≡ left_trim s
        → drop (cond (not (not x)) (1 + position_or_len (λ b. not (is_space b)) s) 0) (c ∷ s)
        ≡ cond x (left_trim s) (c ∷ s)
    go true i = rw one-add i
    go false i = refl

-- the first byte that is of no word
pub word_place : (s : List ℕ) → drop (position_or_len (λ b. not (is_word_byte b)) s) s ≡ behind s
unfolding behind
word_place [] = refl
word_place (c ∷ s) = go (is_word_byte c) (word_place s)
  where
    go : (x : Bool) → drop (position_or_len (λ b. not (is_word_byte b)) s) s ≡ behind s
        → drop (cond (not (not x)) (1 + position_or_len (λ b. not (is_word_byte b)) s) 0) (c ∷ s)
        ≡ cond x (behind s) (c ∷ s)
    go true i = rw one-add i
    go false i = refl

-- the first byte that is no opening parenthesis
pub open_place : (s : List ℕ) → drop (position_or_len (λ b. not (eqb b 40)) s) s ≡ past_open s
unfolding past_open
open_place [] = refl
open_place (c ∷ s) = go (eqb c 40) (open_place s)
  where
    go : (x : Bool) → drop (position_or_len (λ b. not (eqb b 40)) s) s ≡ past_open s
        → drop (cond (not (not x)) (1 + position_or_len (λ b. not (eqb b 40)) s) 0) (c ∷ s)
        ≡ cond x (past_open s) (c ∷ s)
    go true i = rw one-add i
    go false i = refl

-- the last byte that is no space
abbrev spaced : ℕ → Bool
spaced b = not (not (is_space b))

right_part : (s : List ℕ) (n : ℕ) → n ≤ length s → take (n - suffix_len spaced (take n s)) s ≡ right_trim (take n s)
right_part s zero le =
    let k : 0 - suffix_len spaced (take zero s) ≡ 0 = omega arith in ap (λ (i : ℕ). take i s) k ∙ right_end s zero refl
right_part s (suc n) le = go (is_space (get_or s n 0)) refl (right_part s n (omega arith))
  where
    go : (b : Bool) → is_space (get_or s n 0) ≡ b
        → take (n - suffix_len spaced (take n s)) s ≡ right_trim (take n s)
        → take (suc n - suffix_len spaced (take (suc n) s)) s ≡ right_trim (take (suc n) s)
    go true e h =
        let m = suffix_len-take_yes spaced s (suc n) 0 (omega arith) le (rw (sub-one, e) refl) in
        let k : suc n - suffix_len spaced (take (suc n) s) ≡ n - suffix_len spaced (take n s) =
        omega (arith, rw sub-one at m) in
        ap (λ (i : ℕ). take i s) k ∙ h
        ∙ sym (rw sub-one at (right_step s (suc n) (omega arith) le (rw sub-one e)))
    go false e h =
        let m = suffix_len-take_no spaced s (suc n) 0 (omega arith) le (rw (sub-one, e) refl) in
        let k : suc n - suffix_len spaced (take (suc n) s) ≡ suc n = omega (arith, m) in
        ap (λ (i : ℕ). take i s) k ∙ right_stop s (suc n) (omega arith) le (rw sub-one e)

pub right_place : (s : List ℕ)
    → take (length s - position_or_len (λ b. not (is_space b)) (reverse s)) s ≡ right_trim s
right_place s =
    let e = take_all (length s) s (omega arith) in rw e at (right_part s (length s) (omega arith))
