-- Tests over lists, equal lists, a list made by a rule, and the first index that breaks a rule.
use Rattle.std.specs.Prelude.{Bool, true, false, cond, ◌&&◌, ◌||◌, List, [], ◌∷◌, ◌++◌, ℕ, zero, suc, ◌+◌, leb, eqb}
use Rattle.std.specs.Prelude.{length}
use Rattle.std.proofs.Math.Option.{Option, none, some}

-- the test holds of each element
unfoldable pub all : {A : Type 0} → (A → Bool) → List A → Bool
all p [] = true
all p (x ∷ l) = p x && all p l

-- the test holds of some element
unfoldable pub any : {A : Type 0} → (A → Bool) → List A → Bool
any p [] = false
any p (x ∷ l) = p x || any p l

-- those that pass the test
unfoldable pub only : {A : Type 0} → (A → Bool) → List A → List A
only p [] = []
only p (x ∷ l) = cond (p x) (x ∷ only p l) (only p l)

-- the two lists are equal
unfoldable pub same : List ℕ → List ℕ → Bool
same [] [] = true
same [] (y ∷ t) = false
same (x ∷ s) [] = false
same (x ∷ s) (y ∷ t) = eqb x y && same s t

-- no element
abbrev pub is_empty : {A : Type 0} → List A → Bool
is_empty [] = true
is_empty (x ∷ l) = false

-- the first element, and the last, pass the test: false of an empty list
abbrev pub head_is : (ℕ → Bool) → List ℕ → Bool
head_is p [] = false
head_is p (x ∷ l) = p x

unfoldable pub last_is : (ℕ → Bool) → List ℕ → Bool
last_is p [] = false
last_is p (x ∷ []) = p x
last_is p (x ∷ y ∷ l) = last_is p (y ∷ l)

-- low to high, both included
abbrev pub between : ℕ → ℕ → ℕ → Bool
between low n high = leb low n && leb n high

-- the parts one after the other
unfoldable pub joined : {A B : Type 0} → (A → List B) → List A → List B
joined f [] = []
joined f (x ∷ l) = f x ++ joined f l

unfoldable pub sum : {A : Type 0} → (A → ℕ) → List A → ℕ
sum f [] = 0
sum f (x ∷ l) = f x + sum f l

-- f i, f (i + 1) and so on, n of them
unfoldable pub tabulate : (ℕ → ℕ) → ℕ → ℕ → List ℕ
tabulate f i zero = []
tabulate f i (suc n) = f i ∷ tabulate f (suc i) n

-- the two lists are of one length, and each two elements at one index are related
abbrev pub Each : {A B : Type 0} → (A → B → Type 0) → List A → List B → Type 0
Each R [] [] = Unit {0}
Each R [] (y ∷ m) = ⊥
Each R (x ∷ l) [] = ⊥
Each R (x ∷ l) (y ∷ m) = R x y × Each R l m

-- each element is such
abbrev pub Every : {A : Type 0} → (A → Type 0) → List A → Type 0
Every P [] = Unit {0}
Every P (x ∷ l) = P x × Every P l

-- the index of the first element that does not keep a rule, which may look at the elements before it
unfoldable pub first_break : {A : Type 0} → (List A → A → Bool) → List A → List A → Option ℕ
first_break keeps before [] = none
first_break keeps before (x ∷ l) = cond (keeps before x) (first_break keeps (before ++ (x ∷ [])) l) (some
    (length before))

-- the first that there is
abbrev pub or_else : {A : Type 0} → Option A → Option A → Option A
or_else none b = b
or_else (some a) b = some a

abbrev pub is_none : {A : Type 0} → Option A → Bool
is_none none = true
is_none (some a) = false

-- a test of what may be missing
abbrev pub if_any : {A : Type 0} → (A → Bool) → Option A → Bool
if_any p none = true
if_any p (some a) = p a

-- what may be missing, as a list
abbrev pub list_of : {A : Type 0} → Option A → List A
list_of none = []
list_of (some a) = a ∷ []
