-- What holds of the elements of a list when a test holds of all of them, or when no first element breaks a rule.
use mathlib.Core.Path.{◌≡◌, refl}
use mathlib.Core.Bool.{Bool, true, false, cond, ◌&&◌, ◌||◌}
use mathlib.Core.List.{List, [], ◌∷◌, ◌++◌}
use mathlib.Core.Option.{Option, none, some}
use Prim.Native.Nat.{ℕ}
use native.Mathlib.Omega.{arith}
use lib.ListN.{length}
use Rattle.base.specs.Lists.{all, first_break}

pub and_true : (a b : Bool) → a && b ≡ true → (a ≡ true) × (b ≡ true)
and_true true b h = (refl, h)
and_true false b h = absurd (let z : ◌≡◌ {A = ℕ} 0 1 = cc in omega arith)

pub or_true : {P : Type 0} (a b : Bool) → (a ≡ true → P) → (b ≡ true → P) → a || b ≡ true → P
or_true true b f g h = f refl
or_true false b f g h = g h

module _ {A : Type 0} (p : A → Bool) where
  pub all_cons : (x : A) (l : List A) → all p (x ∷ l) ≡ true → (p x ≡ true) × (all p l ≡ true)
  unfolding all
  all_cons x l h = and_true (p x) (all p l) h

  pub all_one : (x : A) → all p (x ∷ []) ≡ true → p x ≡ true
  all_one x h = (all_cons x [] h).0

  pub all_append : (l m : List A) → all p (l ++ m) ≡ true → (all p l ≡ true) × (all p m ≡ true)
  unfolding all
  all_append [] m h = (refl, h)
  all_append (x ∷ l) m h =
      let e = all_cons x (l ++ m) h in
      let f = all_append l m e.1 in
      (rw (e.0, f.0), f.1)

module _ {A : Type 0} (keeps : List A → A → Bool) where
  pub first_break_cons : (before : List A) (x : A) (l : List A) → first_break keeps before (x ∷ l) ≡ none
      → (keeps before x ≡ true) × (first_break keeps (before ++ (x ∷ [])) l ≡ none)
  unfolding first_break
  first_break_cons before x l h = go (keeps before x) refl h
    where
      after : Option ℕ
      after = first_break keeps (before ++ (x ∷ [])) l

      go : (b : Bool) → keeps before x ≡ b → cond b after (some (length before)) ≡ none
          → (keeps before x ≡ true) × (after ≡ none)
      go true e f = (e, f)
      go false e f = absurd (let z : ◌≡◌ {A = ℕ} 0 1 = cc in omega arith)

-- a rule that asks for less
pub keeps_weaker : {A : Type 0} (p q : List A → A → Bool)
    → ((before : List A) (x : A) → p before x ≡ true → q before x ≡ true)
    → (before l : List A) → first_break p before l ≡ none → first_break q before l ≡ none
unfolding first_break
keeps_weaker p q f before [] h = refl
keeps_weaker p q f before (x ∷ l) h =
    let k = first_break_cons p before x l h in
    rw (f before x k.0) (keeps_weaker p q f (before ++ (x ∷ [])) l k.1)
