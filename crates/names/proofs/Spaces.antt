-- Two neighbours that pass a test, looked for in the windows of two.
use mathlib.Core.Path.{◌≡◌, refl}
use mathlib.Core.Bool.{Bool, true, ◌&&◌, not}
use mathlib.Core.List.{List, [], ◌∷◌}
use Prim.Native.Nat.{ℕ, ◌≤◌, ◌<◌}
use native.Mathlib.Omega.{arith}
use lib.ListN.{length, drop, take, get_or}
use Rattle.names.specs.LentNames.{no_two}

module _ (p : ℕ → Bool) where
  pub two_window : (l : List ℕ) → 2 ≤ length l → no_two p l
      ≡ (not (p (get_or (take 2 l) 0 0) && p (get_or (take 2 l) 1 0)) && no_two p (drop 1 l))
  unfolding no_two
  two_window [] h = absurd (omega arith)
  two_window (a ∷ []) h = absurd (omega arith)
  two_window (a ∷ b ∷ l) h = refl

  -- one byte or none
  pub two_end : (l : List ℕ) → length l < 2 → no_two p l ≡ true
  unfolding no_two
  two_end [] h = refl
  two_end (a ∷ []) h = refl
  two_end (a ∷ b ∷ l) h = absurd (omega arith)
