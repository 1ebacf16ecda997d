-- Parts joined: of two lists one after the other, of one element, and a test over all of it.
use mathlib.Core.Path.{◌≡◌, refl, ap, sym, ◌∙◌}
use mathlib.Core.Bool.{Bool, true}
use mathlib.Core.List.{List, [], ◌∷◌, ◌++◌, append_assoc, append-nil}
use Rattle.base.specs.Lists.{all, joined}
use Rattle.base.proofs.Lists.{and_left, and_right, all_append}

module _ {A B : Type 0} (f : A → List B) where
  pub joined_append : (l m : List A) → joined f (l ++ m) ≡ joined f l ++ joined f m
  unfolding joined
  joined_append [] m = refl
  joined_append (x ∷ l) m =
      ap (λ (r : List B). f x ++ r) (joined_append l m) ∙ sym (append_assoc (f x) (joined f l) (joined f m))

  pub joined_one : (x : A) → joined f (x ∷ []) ≡ f x
  unfolding joined
  joined_one x = append-nil (f x)

  pub all_joined : (p : A → Bool) (q : B → Bool) → ((x : A) → p x ≡ true → all q (f x) ≡ true)
      → (l : List A) → all p l ≡ true → all q (joined f l) ≡ true
  unfolding joined all
  all_joined p q g [] h = refl
  all_joined p q g (x ∷ l) h =
      all_append q (f x) (joined f l) (g x (and_left (p x) (all p l) h))
      (all_joined p q g l (and_right (p x) (all p l) h))
