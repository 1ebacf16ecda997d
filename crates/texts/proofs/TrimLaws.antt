-- Blanks taken off both ends of a text, byte by byte.
use mathlib.Core.Path.{◌≡◌, refl, ap, sym, ◌∙◌}
use mathlib.Core.Bool.{true, false}
use mathlib.Core.List.{List, [], ◌∷◌, ◌++◌}
use Prim.Native.Nat.{ℕ, zero, suc, ◌-◌, ◌≤◌, ◌<◌}
use native.Mathlib.Omega.{arith}
use native.Mathlib.Nat.{le_of_suc-le-suc}
use lib.ListN.{length, take, get_or}
use borrow.Author.Tests.{eqb-true}
use Rattle.rules.specs.Names.{is_space}
use Rattle.rules.specs.Rows.{keep_end, right_trim}
use Rattle.text_laws.proofs.RowCells.{right_pad}

-- ── spaces at the end ──

take_last : (n : ℕ) (s : List ℕ) → n < length s → take (suc n) s ≡ take n s ++ (get_or s n 0 ∷ [])
take_last n [] lt = absurd (omega arith)
take_last zero (c ∷ s) lt = refl
take_last (suc n) (c ∷ s) lt = ap (λ (l : List ℕ). c ∷ l) (take_last n s (le_of_suc-le-suc lt))

right_kept : (l : List ℕ) (c : ℕ) → is_space c ≡ false → right_trim (l ++ (c ∷ [])) ≡ l ++ (c ∷ [])
unfolding right_trim keep_end
right_kept [] c n = rw n refl
right_kept (d ∷ []) c n = rw n refl
right_kept (d ∷ b ∷ l) c n = ap (keep_end d) (right_kept (b ∷ l) c n)

module _ (s : List ℕ) (n : ℕ) where
  whole : 0 < n → n ≤ length s → take n s ≡ take (n - 1) s ++ (get_or s (n - 1) 0 ∷ [])
  whole lt le =
      let e : n ≡ suc (n - 1) = omega arith in
      ap (λ (m : ℕ). take m s) e ∙ take_last (n - 1) s (omega arith)

  pub right_stop : 0 < n → n ≤ length s → is_space (get_or s (n - 1) 0) ≡ false → take n s ≡ right_trim (take n s)
  right_stop lt le ne =
      let w = whole lt le in
      w ∙ sym (right_kept (take (n - 1) s) (get_or s (n - 1) 0) ne) ∙ ap right_trim (sym w)

  pub right_step : 0 < n → n ≤ length s → is_space (get_or s (n - 1) 0) ≡ true
      → right_trim (take n s) ≡ right_trim (take (n - 1) s)
  unfolding is_space
  right_step lt le e =
      ap right_trim (whole lt le ∙ ap (λ (c : ℕ). take (n - 1) s ++ (c ∷ [])) (eqb-true (get_or s
      (n - 1) 0) 32 e)) ∙ right_pad (take (n - 1) s) 1

pub right_end : (s : List ℕ) (n : ℕ) → n ≡ 0 → take n s ≡ right_trim (take n s)
unfolding right_trim
right_end s n e = rw e refl
