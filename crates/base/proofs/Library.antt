-- The library's words for tests over a list, for equal lists and for the ends of a list are the words of specs/Lists.
use mathlib.Core.Path.{◌≡◌, refl, ap, ap₂, ◌∙◌}
use mathlib.Core.Bool.{Bool, true, false, ◌&&◌, ◌||◌}
use mathlib.Core.List.{List, [], ◌∷◌}
use Prim.Native.Nat.{ℕ, suc, ◌-◌}
use native.Mathlib.Omega.{arith}
use lib.Dec.{eqb}
use lib.ListN.{length}
use denote.Param.Members.{Mut}
use denote.Ref.{Bor}
use Rattle.std.proofs.iter.Yields.{fronts}
use Rattle.std.proofs.lemmas.Iterator.{YieldsList-from_slice}
use Rattle.std.proofs.lemmas.Iterator.Search.{all_from_yields_List, any_from_yields_List}
use Rattle.std.proofs.lemmas.Option.{none-some, same_Some}
use Rattle.std.specs.Fn.{Called}
use Rattle.std.specs.Iterator.{YieldsThen}
use Rattle.std.specs.List.{FoldsTo, list_all, list_any, slice_get}
use Rattle.std.specs.Option.{MatchOption}
use Rattle.std.specs.Prelude.{Option, Some}
use Rattle.std.specs.Slice.Iter.{iter_rest}
use Rattle.std.specs.Cmp.Lexicographic.{pointwise}
use Rattle.base.specs.Lists.{all, any, same, head_is, last_is}
use Rattle.base.proofs.Lists.{same_turn}

module _ {A : Type 0} (p : A → Bool) where
  pub all-list_all : (l : List A) → list_all p l ≡ all p l
  unfolding all
  all-list_all [] = refl
  all-list_all (x ∷ l) = ap (λ b. p x && b) (all-list_all l)

  pub any-list_any : (l : List A) → list_any p l ≡ any p l
  unfolding any
  any-list_any [] = refl
  any-list_any (x ∷ l) = ap (λ b. p x || b) (any-list_any l)

pub same-pointwise : (a b : List ℕ) → pointwise eqb a b ≡ same a b
unfolding same
same-pointwise [] [] = refl
same-pointwise [] (y ∷ b) = refl
same-pointwise (x ∷ a) [] = refl
same-pointwise (x ∷ a) (y ∷ b) = ap (λ r. eqb x y && r) (same-pointwise a b)

-- what `contains` tests over lists
pub same-contains : (l : List (List ℕ)) (w : List ℕ) → list_any (λ v. pointwise eqb v w) l ≡ any (same w) l
unfolding any
same-contains [] w = refl
same-contains (v ∷ l) w = ap₂ ◌||◌ (same-pointwise v w ∙ same_turn v w) (same-contains l w)

-- what `all` and `any` answer over a slice: their clause `ran`, the clause `rest` of `iter`, and the closure's test
module _ {A F : Type 0} {g : Mut F (Bor A × Unit {0}) Bool} {f : F} {r : Bool} (test : A → Bool) (xs : List A) where
  pub all_of_slice : {s u : _} → (ys : List (Bor A)) × (o : Option (Bor A)) × (j : F) × YieldsThen fronts s ys o u
      × FoldsTo (λ p x q. Called g p (x, tt) true q) f ys j
      × MatchOption o (r ≡ true) (λ x. (r ≡ false) × ((h : F) × Called g j (x, tt) false h))
      → iter_rest s ≡ xs
      → ((x : Bor A) (b : Bool) (q : F) → Called g f (x, tt) b q → (q ≡ f) × (b ≡ test x.now))
      → r ≡ all test xs
  all_of_slice {u} ran rest tests =
      all_from_yields_List test u f r ran (YieldsList-from_slice xs rest) tests ∙ all-list_all test xs

  pub any_of_slice : {s u : _} → (ys : List (Bor A)) × (o : Option (Bor A)) × (j : F) × YieldsThen fronts s ys o u
      × FoldsTo (λ p x q. Called g p (x, tt) false q) f ys j
      × MatchOption o (r ≡ false) (λ x. (r ≡ true) × ((h : F) × Called g j (x, tt) true h))
      → iter_rest s ≡ xs
      → ((x : Bor A) (b : Bool) (q : F) → Called g f (x, tt) b q → (q ≡ f) × (b ≡ test x.now))
      → r ≡ any test xs
  any_of_slice {u} ran rest tests =
      any_from_yields_List test u f r ran (YieldsList-from_slice xs rest) tests ∙ any-list_any test xs

-- ── the ends of a list, as `first` and `last` give them ──

module _ (p : ℕ → Bool) where
  pub head_of : (l : List ℕ) (x : ℕ) → slice_get l 0 ≡ Some x → head_is p l ≡ p x
  head_of [] x h = absurd (none-some x h)
  head_of (y ∷ l) x h = ap p (same_Some y x h)

  pub last_of : (l : List ℕ) (x : ℕ) → slice_get l (length l - 1) ≡ Some x → last_is p l ≡ p x
  unfolding last_is
  last_of [] x h = absurd (none-some x h)
  last_of (y ∷ []) x h = ap p (same_Some y x h)
  last_of (y ∷ z ∷ l) x h =
      let e : length (y ∷ z ∷ l) - 1 ≡ suc (length (z ∷ l) - 1) = omega arith in
      last_of (z ∷ l) x (rw e at h)
