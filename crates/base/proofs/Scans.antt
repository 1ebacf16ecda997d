-- Tests over a list, taken one index after the other: what a loop needs.
use mathlib.Core.Path.{◌≡◌, refl, ap}
use mathlib.Core.Bool.{Bool, true, false, ◌&&◌}
use mathlib.Core.List.{List, [], ◌∷◌}
use Prim.Native.Nat.{ℕ, suc, ◌+◌, ◌<◌}
use native.Mathlib.Numerals.{add-one}
use lib.Dec.{eqb}
use lib.ListN.{length, drop, get_or}
use lib.Seq.{drop-cons, drop-length}
use Rattle.base.specs.Lists.{all, same}

pub all_step : (p : ℕ → Bool) (l : List ℕ) (i : ℕ) → i < length l
    → all p (drop i l) ≡ (p (get_or l i 0) && all p (drop (i + 1) l))
unfolding all
all_step p l i h = rw (add-one i, drop-cons l i 0)

pub all_end : (p : ℕ → Bool) (l : List ℕ) → all p (drop (length l) l) ≡ true
unfolding all
all_end p l = rw (drop-length l)

pub same_step : (a b : List ℕ) (i : ℕ) → i < length a → i < length b
    → same (drop i a) (drop i b) ≡ (eqb (get_or a i 0) (get_or b i 0) && same (drop (i + 1) a) (drop (i + 1) b))
unfolding same
same_step a b i h k = rw (add-one i, drop-cons a i 0, drop-cons b i 0)

pub same_end : (a b : List ℕ) (i : ℕ) → length a ≡ i → length b ≡ i → same (drop i a) (drop i b) ≡ true
unfolding same
same_end a b i h k =
    let e : drop i a ≡ [] = rw h at (drop-length a) in
    let f : drop i b ≡ [] = rw k at (drop-length b) in
    rw (e, f)

and_false : (x : Bool) → (x && false) ≡ false
and_false true = refl
and_false false = refl

-- lists of different lengths differ
pub same_length : (a b : List ℕ) → (length a ≡ length b → ⊥) → same a b ≡ false
unfolding same
same_length [] [] n = absurd (n refl)
same_length [] (y ∷ b) n = refl
same_length (x ∷ a) [] n = refl
same_length (x ∷ a) (y ∷ b) n = rw (same_length a b (λ e. n (ap suc e)), and_false)
