-- Laws of all, any and first_break over joined and related lists, and of the element of an index.
use mathlib.Core.Path.{◌≡◌, refl, ap, sym, ◌∙◌}
use mathlib.Core.Bool.{Bool, true, false, ◌&&◌}
use mathlib.Core.List.{List, [], ◌∷◌, ◌++◌, map, append_assoc, append-nil}
use mathlib.Core.Option.{none, some, none-ne-some, some-injective}
use Prim.Native.Nat.{ℕ, zero, suc, ◌<◌}
use native.Mathlib.Omega.{arith}
use lib.ListN.{length, get_elem?}
use Rattle.base.specs.Lists.{all, any, Each, first_break}
use Rattle.base.proofs.Lists.{or_left, or_right}
use Rattle.base.proofs.Breaks.{first_break_cons}

-- ── tests over a joined list ──

pub all_joined : {A : Type 0} (p : A → Bool) (s t : List A) → all p (s ++ t) ≡ (all p s && all p t)
unfolding all
all_joined p [] t = refl
all_joined p (x ∷ s) t = go (p x) (all_joined p s t)
  where
    go : (b : Bool) → all p (s ++ t) ≡ (all p s && all p t) → (b && all p (s ++ t)) ≡ ((b && all p s) && all p t)
    go true e = e
    go false e = refl

-- ── related lists ──

module _ {A B : Type 0} (R : A → B → Type 0) where
  pub each_any : (p : A → Bool) (q : B → Bool) → ((x : A) (y : B) → R x y → p x ≡ q y)
      → (l : List A) (m : List B) → Each R l m → any p l ≡ any q m
  unfolding any
  each_any p q f [] [] h = refl
  each_any p q f [] (y ∷ m) h = absurd h
  each_any p q f (x ∷ l) [] h = absurd h
  each_any p q f (x ∷ l) (y ∷ m) h = rw (f x y h.0, each_any p q f l m h.1)

  pub each_length : (l : List A) (m : List B) → Each R l m → length l ≡ length m
  each_length [] [] h = refl
  each_length [] (y ∷ m) h = absurd h
  each_length (x ∷ l) [] h = absurd h
  each_length (x ∷ l) (y ∷ m) h = ap suc (each_length l m h.1)

  pub each_joined : (l : List A) (m : List B) → Each R l m → (l' : List A) (m' : List B) → Each R l' m'
      → Each R (l ++ l') (m ++ m')
  each_joined [] [] h l' m' h' = h'
  each_joined [] (y ∷ m) h l' m' h' = absurd h
  each_joined (x ∷ l) [] h l' m' h' = absurd h
  each_joined (x ∷ l) (y ∷ m) h l' m' h' = (h.0, each_joined l m h.1 l' m' h')

  -- a rule that says the same of two related elements with related elements before them, where these are the parts of
  -- two given lists, breaks first at the same index
  pub each_breaks : (keeps : List A → A → Bool) (holds : List B → B → Bool) (before : List A) (earlier : List B)
      (l : List A) (m : List B) → Each R before earlier → Each R l m
      → ((b : List A) (x : A) (a : List A) (e : List B) (y : B) (c : List B)
      → before ++ l ≡ b ++ (x ∷ a) → earlier ++ m ≡ e ++ (y ∷ c) → Each R b e → R x y → keeps b x ≡ holds e y)
      → first_break keeps before l ≡ first_break holds earlier m
  unfolding first_break
  each_breaks keeps holds before earlier [] [] p h f = refl
  each_breaks keeps holds before earlier [] (y ∷ m) p h f = absurd h
  each_breaks keeps holds before earlier (x ∷ l) [] p h f = absurd h
  each_breaks keeps holds before earlier (x ∷ l) (y ∷ m) p h f =
      rw (
        f before x l earlier y m refl refl p h.0,
        each_breaks keeps holds (before ++ (x ∷ [])) (earlier ++ (y ∷ [])) l m
            (each_joined before earlier p (x ∷ []) (y ∷ []) (h.0, tt)) h.1
            (λ b x' a e y' c u v. f b x' a e y' c (sym (append_assoc before (x ∷ []) l) ∙ u)
            (sym (append_assoc earlier (y ∷ []) m) ∙ v)),
        each_length before earlier p,
      )

-- where no element breaks a rule, each keeps it
kept_from : {A : Type 0} (keeps : List A → A → Bool) (earlier before : List A) (x : A) (l : List A)
    → first_break keeps earlier (before ++ (x ∷ l)) ≡ none → keeps (earlier ++ before) x ≡ true
kept_from keeps earlier [] x l h = rw append-nil (first_break_cons keeps earlier x l h).0
kept_from keeps earlier (y ∷ before) x l h =
    rw (append_assoc earlier (y ∷ []) before) at
    (kept_from keeps (earlier ++ (y ∷ [])) before x l (first_break_cons keeps earlier y (before ++ (x ∷ l)) h).1)

pub kept_at : {A : Type 0} (keeps : List A → A → Bool) (before : List A) (x : A) (l : List A)
    → first_break keeps [] (before ++ (x ∷ l)) ≡ none → keeps before x ≡ true
kept_at keeps before x l h = kept_from keeps [] before x l h

-- a rule that looks at no other element
pub none_breaks : {A : Type 0} (keeps : List A → A → Bool) (before l : List A)
    → ((b : List A) (i : ℕ) (x : A) → get_elem? l i ≡ some x → keeps b x ≡ true) → first_break keeps before l ≡ none
unfolding first_break
none_breaks keeps before [] f = refl
none_breaks keeps before (x ∷ l) f =
    rw (f before 0 x refl) (none_breaks keeps (before ++ (x ∷ [])) l (λ b i y e. f b (suc i) y e))

-- two tests that follow from one another
pub test_eq : (a b : Bool) → (a ≡ true → b ≡ true) → (b ≡ true → a ≡ true) → a ≡ b
test_eq true b f g = sym (f refl)
test_eq false true f g = g refl
test_eq false false f g = refl

-- ── the element of an index ──

module _ {A : Type 0} where
  pub element_front : (b r : List A) (i : ℕ) (x : A) → get_elem? b i ≡ some x → get_elem? (b ++ r) i ≡ some x
  element_front [] r i x e = absurd (none-ne-some x e)
  element_front (y ∷ b) r zero x e = e
  element_front (y ∷ b) r (suc i) x e = element_front b r i x e

  pub element_below : (b r : List A) (i : ℕ) → i < length b → get_elem? (b ++ r) i ≡ get_elem? b i
  element_below [] r i lt = absurd (omega arith)
  element_below (y ∷ b) r zero lt = refl
  element_below (y ∷ b) r (suc i) lt = element_below b r i (omega arith)

  -- the list parts at it
  pub element_parts : (l : List A) (i : ℕ) (x : A) → get_elem? l i ≡ some x
      → (b : List A) × (a : List A) × (l ≡ b ++ (x ∷ a)) × (length b ≡ i)
  element_parts [] i x e = absurd (none-ne-some x e)
  element_parts (y ∷ l) zero x e = ([], l, ap (λ z. z ∷ l) (some-injective y x e), refl)
  element_parts (y ∷ l) (suc i) x e =
      let w = element_parts l i x e in
      (y ∷ w.0, w.1, ap (λ m. y ∷ m) w.2, ap suc w.3)

  pub element_any : (p : A → Bool) (l : List A) (i : ℕ) (x : A) → get_elem? l i ≡ some x → p x ≡ true → any p l ≡ true
  unfolding any
  element_any p [] i x e h = absurd (none-ne-some x e)
  element_any p (y ∷ l) zero x e h = or_left (p y) (any p l) (ap p (some-injective y x e) ∙ h)
  element_any p (y ∷ l) (suc i) x e h = or_right (p y) (any p l) (element_any p l i x e h)

pub element_map : {A B : Type 0} (f : A → B) (l : List A) (i : ℕ) (x : A) → get_elem? l i ≡ some x
    → get_elem? (map f l) i ≡ some (f x)
element_map f [] i x e = absurd (none-ne-some x e)
element_map f (y ∷ l) zero x e = rw (some-injective y x e)
element_map f (y ∷ l) (suc i) x e = element_map f l i x e

module _ {A B : Type 0} (R : A → B → Type 0) where
  pub each_left : (l : List A) (m : List B) → Each R l m → (i : ℕ) (x : A) → get_elem? l i ≡ some x
      → (y : B) × (get_elem? m i ≡ some y) × R x y
  each_left [] [] h i x e = absurd (none-ne-some x e)
  each_left [] (z ∷ m) h i x e = absurd h
  each_left (y ∷ l) [] h i x e = absurd h
  each_left (y ∷ l) (z ∷ m) h zero x e = (z, refl, rw (some-injective y x e) at h.0)
  each_left (y ∷ l) (z ∷ m) h (suc i) x e = each_left l m h.1 i x e
