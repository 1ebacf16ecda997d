-- Searches over the field lines that the code holds, and the names that it holds of them.
use mathlib.Core.Path.{◌≡◌, refl, sym, ◌∙◌}
use mathlib.Core.Bool.{Bool, true, false}
use mathlib.Core.List.{List}
use Prim.Native.Nat.{ℕ, ◌+◌, ◌-◌, ◌≤◌, ◌<◌}
use native.Mathlib.Omega.{arith}
use lib.ListN.{take, drop}
use Rattle.names.specs.Repeats.{first_from}
use Rattle.names.proofs.RepeatLaws.{search_step, search_end}

-- a part of a text from a place on, by its length
pub part_text : (s : List ℕ) (a n : ℕ) → take (a + n - a) (drop a s) ≡ take n (drop a s)
part_text s a n = let e : a + n - a ≡ n = omega arith in rw e refl

-- ── one index of a search ──

module _ (f : ℕ → Bool) (n i : ℕ) (lt : i < n) (so : first_from f 0 n ≡ first_from f i (n - i)) where
  pub search_found : f i ≡ true → i ≡ first_from f 0 n
  search_found h = sym (so ∙ search_step f i n lt ∙ simp h)

  pub search_next : f i ≡ false → first_from f 0 n ≡ first_from f (i + 1) (n - (i + 1))
  search_next h = so ∙ search_step f i n lt ∙ simp h

pub search_none : (f : ℕ → Bool) (n i : ℕ) → n ≤ i → i ≤ n → first_from f 0 n ≡ first_from f i (n - i)
    → n ≡ first_from f 0 n
search_none f n i le le' so = let e : i ≡ n = omega arith in sym (so ∙ rw e (search_end f n))
