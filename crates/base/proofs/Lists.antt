-- Laws of tests, of tests over lists, and of equal lists.
use mathlib.Core.Path.{◌≡◌, refl, ap, sym, ◌∙◌}
use mathlib.Core.Bool.{Bool, true, false, ◌&&◌, ◌||◌, not, false≢true}
use mathlib.Core.Logic.{◌⊎◌, inl, inr, ◌↔◌}
use mathlib.Core.List.{List, [], ◌∷◌, ◌++◌, Memᴰ}
use Prim.Native.Nat.{ℕ, ◌≤◌}
use native.Mathlib.Omega.{arith}
use lib.Dec.{leb, eqb}
use borrow.Author.Tests.{eqb-true, eq-eqb, leb-true, le-leb}
use Rattle.base.specs.Lists.{all, any, same, head_is, between, Every}

-- ── tests ──

pub and_left : (a b : Bool) → (a && b) ≡ true → a ≡ true
and_left true b e = refl
and_left false b e = e

pub and_right : (a b : Bool) → (a && b) ≡ true → b ≡ true
and_right true b e = e
and_right false b e = cc

pub and_both : (a b : Bool) → a ≡ true → b ≡ true → (a && b) ≡ true
and_both a b p q = rw (p, q)

pub or_left : (a b : Bool) → a ≡ true → (a || b) ≡ true
or_left a b p = rw p

pub or_right : (a b : Bool) → b ≡ true → (a || b) ≡ true
or_right true b p = refl
or_right false b p = p

pub or_cases : (a b : Bool) → (a || b) ≡ true → (a ≡ true) ⊎ (b ≡ true)
or_cases true b e = inl refl
or_cases false b e = inr e

-- a test does not answer both
pub not_both : (a : Bool) → a ≡ true → a ≡ false → ⊥
not_both a p q = let z : ◌≡◌ {A = ℕ} 0 1 = cc in omega arith

-- a test that can't pass fails
pub fails : (a : Bool) → (a ≡ true → ⊥) → a ≡ false
fails true f = absurd (f refl)
fails false f = refl

pub between_true : (l n h : ℕ) → between l n h ≡ true → (l ≤ n) × (n ≤ h)
between_true l n h e = (leb-true l n (and_left (leb l n) (leb n h) e), leb-true n h (and_right (leb l n) (leb n h) e))

pub true_between : (l n h : ℕ) → l ≤ n → n ≤ h → between l n h ≡ true
true_between l n h p q = rw (le-leb l n p, le-leb n h q)

pub or_false_left : (a b : Bool) → (a || b) ≡ false → a ≡ false
or_false_left true b e = cc
or_false_left false b e = refl

pub or_false_right : (a b : Bool) → (a || b) ≡ false → b ≡ false
or_false_right true b e = cc
or_false_right false b e = e

-- ── all and any ──

pub all_append : {A : Type 0} (p : A → Bool) (s t : List A) → all p s ≡ true → all p t ≡ true → all p (s ++ t) ≡ true
unfolding all
all_append p [] t x y = y
all_append p (c ∷ s) t x y =
    and_both (p c) (all p (s ++ t)) (and_left (p c) (all p s) x) (all_append p s t (and_right (p c) (all p s) x) y)

pub all_front : {A : Type 0} (p : A → Bool) (s t : List A) → all p (s ++ t) ≡ true → all p s ≡ true
unfolding all
all_front p [] t h = refl
all_front p (c ∷ s) t h = and_both (p c) (all p s) (and_left (p c) (all p (s ++ t)) h)
    (all_front p s t (and_right (p c) (all p (s ++ t)) h))

pub all_back : {A : Type 0} (p : A → Bool) (s t : List A) → all p (s ++ t) ≡ true → all p t ≡ true
unfolding all
all_back p [] t h = h
all_back p (c ∷ s) t h = all_back p s t (and_right (p c) (all p (s ++ t)) h)

-- a test over a list says the same of its members
pub all_mem : {A : Type 0} (p : A → Bool) {x : A} {l : List A} → all p l ≡ true → Memᴰ x l → p x ≡ true
unfolding all
all_mem p h (Memᴰ.head {x = y} {xs = l} e) = ap p e ∙ and_left (p y) (all p l) h
all_mem p h (Memᴰ.tail {x = y} {xs = l} m) = all_mem p (and_right (p y) (all p l) h) m

pub all_of : {A : Type 0} (p : A → Bool) (l : List A) → ((x : A) → Memᴰ x l → p x ≡ true) → all p l ≡ true
unfolding all
all_of p [] f = refl
all_of p (x ∷ l) f = and_both (p x) (all p l) (f x (Memᴰ.head refl)) (all_of p l (λ y m. f y (Memᴰ.tail m)))

pub any_mem : {A : Type 0} (p : A → Bool) {x : A} {l : List A} → p x ≡ true → Memᴰ x l → any p l ≡ true
unfolding any
any_mem p h (Memᴰ.head {x = y} {xs = l} e) = or_left (p y) (any p l) (ap p (sym e) ∙ h)
any_mem p h (Memᴰ.tail {x = y} {xs = l} m) = or_right (p y) (any p l) (any_mem p h m)

pub any_found : {A : Type 0} (p : A → Bool) (l : List A) → any p l ≡ true → (x : A) × Memᴰ x l × (p x ≡ true)
unfolding any
any_found p [] h = absurd (not_both false h refl)
any_found {A} p (x ∷ l) h = go (or_cases (p x) (any p l) h) (any_found p l)
  where
    go : (p x ≡ true) ⊎ (any p l ≡ true) → (any p l ≡ true → (y : A) × Memᴰ y l × (p y ≡ true))
        → (y : A) × Memᴰ y (x ∷ l) × (p y ≡ true)
    go (inl e) f = (x, Memᴰ.head refl, e)
    go (inr e) f = let w = f e in (w.0, Memᴰ.tail w.1, w.2)

pub any_fails : {A : Type 0} (p : A → Bool) (l : List A) → ((x : A) → p x ≡ false) → any p l ≡ false
unfolding any
any_fails p [] f = refl
any_fails p (x ∷ l) f = rw (f x) (any_fails p l f)

-- a weaker test
pub all_weaken : {A : Type 0} (p q : A → Bool) → ((x : A) → p x ≡ true → q x ≡ true)
    → (l : List A) → all p l ≡ true → all q l ≡ true
unfolding all
all_weaken p q f [] h = refl
all_weaken p q f (x ∷ l) h = and_both (q x) (all q l) (f x (and_left (p x) (all p l) h))
    (all_weaken p q f l (and_right (p x) (all p l) h))

-- each element is such as the test says
pub every_passes : {A : Type 0} {P : A → Type 0} (p : A → Bool) → ((x : A) → p x ≡ true → P x) → (l : List A)
    → all p l ≡ true → Every P l
unfolding all
every_passes p f [] h = tt
every_passes p f (x ∷ l) h = (f x (and_left (p x) (all p l) h), every_passes p f l (and_right (p x) (all p l) h))

-- a first element there is
pub head_split : (p : ℕ → Bool) (s : List ℕ) → head_is p s ≡ true → (c : ℕ) × (v : List ℕ) × (s ≡ c ∷ v) × (p c ≡ true)
head_split p [] h = absurd (not_both false h refl)
head_split p (c ∷ v) h = (c, v, refl, h)

pub any_none : {A : Type 0} (p : A → Bool) {x : A} {l : List A} → any p l ≡ false → Memᴰ x l → p x ≡ false
any_none p {x} {l} h m = fails (p x) (λ e. not_both (any p l) (any_mem p e m) h)

-- ── equal lists ──

pub same_true : (s t : List ℕ) → same s t ≡ true → s ≡ t
unfolding same
same_true [] [] e = refl
same_true [] (y ∷ t) e = cc
same_true (x ∷ s) [] e = cc
same_true (x ∷ s) (y ∷ t) e =
    let p : x ≡ y = eqb-true x y (and_left (eqb x y) (same s t) e) in
    let q : s ≡ t = same_true s t (and_right (eqb x y) (same s t) e) in
    cc

pub same_self : (s : List ℕ) → same s s ≡ true
unfolding same
same_self [] = refl
same_self (x ∷ s) = and_both (eqb x x) (same s s) (eq-eqb x x refl) (same_self s)

pub not_same : (s t : List ℕ) → not (same s t) ≡ true → s ≡ t → ⊥
not_same s t n e = false≢true (sym (ap not (ap (λ u. same u t) e ∙ same_self t)) ∙ n)

-- the order of two lists does not matter
pub same_turn : (s t : List ℕ) → same s t ≡ same t s
same_turn s t = go (same s t) refl (same t s) refl
  where
    go : (x : Bool) → same s t ≡ x → (y : Bool) → same t s ≡ y → x ≡ y
    go true e true f = refl
    go true e false f = absurd (not_both (same t s) (rw (same_true s t e) (same_self t)) f)
    go false e true f = absurd (not_both (same s t) (rw (same_true t s f) (same_self s)) e)
    go false e false f = refl

-- what has other numbers is another
pub other_numbers : {A : Type 0} (numbers : A → List ℕ) (a b : A) → not (same (numbers a) (numbers b)) ≡ true
    → a ≡ b → ⊥
other_numbers numbers a b n e = not_same (numbers a) (numbers b) n (ap numbers e)

pub same_exact : (s t : List ℕ) → (same s t ≡ true) ↔ (s ≡ t)
same_exact s t = (same_true s t, λ e. rw e (same_self t))
