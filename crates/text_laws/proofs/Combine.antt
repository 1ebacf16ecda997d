-- Answers of a reader: what holds of each, and what becomes of a phrase, a test and two readers in a row.
use mathlib.Core.Path.{◌≡◌, refl, ap, sym, ◌∙◌}
use mathlib.Core.Bool.{Bool, true, false, cond, not}
use mathlib.Core.List.{List, [], ◌∷◌, ◌++◌}
use mathlib.Core.Option.{Option, none, some}
use Prim.Native.Nat.{ℕ}
use lib.Dec.{eqb}
use borrow.Author.Tests.{eqb-true}
use Rattle.base.specs.Lists.{is_none}
use Rattle.base.proofs.Lists.{not_both, fails}
use Rattle.text_laws.specs.Reader.{after}
use Rattle.text_laws.proofs.ReaderSymbols.{after_self}
use Rattle.text_laws.specs.LineReader.{Got, miss, hit, bind, keep, given, passed, literal, begins}

-- P holds of the answer, if there is one
abbrev pub Holds : {A : Type 0} → (A → List ℕ → Type 0) → Got A → Type 0
Holds P miss = Unit {0}
Holds P (hit a r) = P a r

module _ {A : Type 0} (P : A → List ℕ → Type 0) where
  pub holds_keep : (b : Bool) (a : A) (r : List ℕ) → (b ≡ true → P a r) → Holds P (keep b a r)
  holds_keep true a r f = f refl
  holds_keep false a r f = tt

  pub holds_cond : (b : Bool) (g h : Got A) → (b ≡ true → Holds P g) → (b ≡ false → Holds P h) → Holds P (cond b g h)
  holds_cond true g h f k = f refl
  holds_cond false g h f k = k refl

  pub holds_given : (o : Option A) (r : List ℕ) → ((a : A) → o ≡ some a → P a r) → Holds P (given o r)
  holds_given none r f = tt
  holds_given (some a) r f = f a refl

module _ {A B : Type 0} (P : A → List ℕ → Type 0) (Q : B → List ℕ → Type 0) where
  pub holds_bind : (g : Got A) (f : A → List ℕ → Got B) → Holds P g → ((a : A) (r : List ℕ) → P a r → Holds Q (f a r))
      → Holds Q (bind g f)
  holds_bind miss f h k = tt
  holds_bind (hit a r) f h k = k a r h

-- ── phrases ──

abbrev After : List ℕ → List ℕ → Option (List ℕ) → Type 0
After w s none = Unit {0}
After w s (some r) = s ≡ w ++ r

after_sound : (w s : List ℕ) → After w s (after w s)
unfolding after
after_sound [] s = refl
after_sound (c ∷ w) [] = tt
after_sound (c ∷ w) (d ∷ s) = go (eqb c d) refl (after w s) (after_sound w s)
  where
    go : (x : Bool) → eqb c d ≡ x → (a : Option (List ℕ)) → After w s a → After (c ∷ w) (d ∷ s) (cond x a none)
    go true e none a = tt
    go true e (some r) a = let p : c ≡ d = eqb-true c d e in cc
    go false e a h = tt

pub literal_sound : (w s : List ℕ) → Holds (λ _ r. s ≡ w ++ r) (literal w s)
unfolding literal
literal_sound w s = go (after w s) (after_sound w s)
  where
    go : (a : Option (List ℕ)) → After w s a → Holds (λ _ r. s ≡ w ++ r) (passed a)
    go none h = tt
    go (some r) h = h

pub literal_finds : (w r : List ℕ) → literal w (w ++ r) ≡ hit tt r
unfolding literal
literal_finds w r = rw (after_self w r)

pub begins_split : (w s : List ℕ) → begins w s ≡ true → (z : List ℕ) × (s ≡ w ++ z)
unfolding begins
begins_split w s = go (after w s) (after_sound w s)
  where
    go : (a : Option (List ℕ)) → After w s a → not (is_none a) ≡ true → (z : List ℕ) × (s ≡ w ++ z)
    go none h e = absurd (not_both false e refl)
    go (some z) h e = (z, h)

-- a byte that passes a test is none that fails it
pub differs : (p : ℕ → Bool) (c d : ℕ) → p c ≡ true → p d ≡ false → eqb d c ≡ false
differs p c d t f = fails (eqb d c) (λ e. not_both (p c) t (ap p (sym (eqb-true d c e)) ∙ f))
