-- The number that a word is, as the code answers it.
use Rattle.std.proofs.Common.{◌≡◌, ℕ, Bool, true, false, cond, List, Option, Some, None, unwrap_or, refl, ap}
use native.Mathlib.Omega.{arith}
use Rattle.text_laws.specs.Reader.{word_value, is_number_word}

module _ (w : List ℕ) where
  -- the word's number, if it is one
  abbrev pub Numbered : Option ℕ
  Numbered = cond (is_number_word w) (Some (word_value w)) None

  pub no_number : is_number_word w ≡ false → None ≡ Numbered
  no_number n = rw n refl

  pub a_number : (v : ℕ) → is_number_word w ≡ true → v ≡ word_value w → Some v ≡ Numbered
  a_number v y e = rw y (ap (λ (n : ℕ). Some n) e)

  pub number_told : (v : ℕ) → Some v ≡ Numbered → (is_number_word w ≡ true) × (v ≡ word_value w)
  number_told v = go (is_number_word w)
    where
      go : (b : Bool) → Some v ≡ cond b (Some (word_value w)) None → (b ≡ true) × (v ≡ word_value w)
      go true e = (refl, cc)
      go false e = let z : ◌≡◌ {A = ℕ} 0 1 = cc in absurd (omega arith)

  pub number_untold : None ≡ Numbered → is_number_word w ≡ false
  number_untold = go (is_number_word w)
    where
      go : (b : Bool) → None ≡ cond b (Some (word_value w)) None → b ≡ false
      go true e = let z : ◌≡◌ {A = ℕ} 0 1 = cc in absurd (omega arith)
      go false e = refl

  pub number_default : (r : Option ℕ) → r ≡ Numbered → is_number_word w ≡ true → unwrap_or r 0 ≡ word_value w
  number_default r e y = rw (e, y) refl
