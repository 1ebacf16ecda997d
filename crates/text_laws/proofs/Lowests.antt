-- The lowest refusal so far, element by element, is the one that is found rule by rule over all elements.
use mathlib.Core.Path.{◌≡◌, refl, sym}
use mathlib.Core.Bool.{Bool, true, false, cond}
use mathlib.Core.List.{List, [], ◌∷◌, ◌++◌, append_assoc, append-nil}
use mathlib.Core.Option.{Option, none, some, map}
use Prim.Native.Nat.{ℕ, suc, ◌+◌, ◌≤◌, ◌<◌}
use native.Mathlib.Omega.{arith}
use lib.Dec.{ltb}
use lib.ListN.{length, length-append}
use borrow.Author.Tests.{lt-ltb, le-ltb}
use Rattle.base.specs.Lists.{first_break, or_else}
use Rattle.rules.specs.Answers.{Answer, refused}
use Rattle.text_laws.specs.Lowest.{lower, broken, staged}

-- ── of two refusals the lower ──

-- its number, if there is one, is n or above
abbrev pub Above : ℕ → Option Answer → Type 0
Above n none = Unit {0}
Above n (some a) = n ≤ a.number

pub above_less : (m n : ℕ) → m ≤ n → (o : Option Answer) → Above n o → Above m o
above_less m n le none h = tt
above_less m n le (some a) h = omega arith

-- what is not above a refusal stays
pub lower_stays : (n : ℕ) (a : Answer) (o : Option Answer) → Above n o → a.number ≤ n → lower (some a) o ≡ some a
lower_stays n a none h le = refl
lower_stays n a (some b) h le = rw (le-ltb b.number a.number (omega arith)) refl

-- a lower number is taken
pub lower_takes : (n : ℕ) (a : Answer) (o : Option Answer) → Above n o → a.number < n → lower o (some a) ≡ some a
lower_takes n a none h lt = refl
lower_takes n a (some b) h lt = rw (lt-ltb a.number b.number (omega arith)) refl

pub lower_none : (o : Option Answer) → lower o none ≡ o
lower_none none = refl
lower_none (some a) = refl

pub above_lower : (n : ℕ) (a b : Option Answer) → Above n a → Above n b → Above n (lower a b)
above_lower n none b h k = k
above_lower n (some a) none h k = h
above_lower n (some a) (some b) h k = go (ltb b.number a.number)
  where
    go : (x : Bool) → Above n (cond x (some b) (some a))
    go true = k
    go false = h

-- ── one more element ──

module _ {A : Type 0} where
  break_from : (keeps : List A → A → Bool) (before l : List A) (x : A)
      → first_break keeps before (l ++ (x ∷ []))
      ≡ or_else (first_break keeps before l) (cond (keeps (before ++ l) x) none (some (length before + length l)))
  unfolding first_break
  break_from keeps before [] x = rw (append-nil before, plus (length before)) refl
    where
      plus : (n : ℕ) → n + 0 ≡ n
      plus n = omega arith
  break_from keeps before (y ∷ l) x = go (keeps before y) (break_from keeps (before ++ (y ∷ [])) l x)
    where
      more : ℕ
      more = length (before ++ (y ∷ [])) + length l

      same_place : more ≡ length before + suc (length l)
      same_place = omega (arith, length-append before (y ∷ []))

      go : (b : Bool)
          → first_break keeps (before ++ (y ∷ [])) (l ++ (x ∷ []))
          ≡ or_else (first_break keeps (before ++ (y ∷ [])) l)
          (cond (keeps ((before ++ (y ∷ [])) ++ l) x) none (some more))
          → cond b (first_break keeps (before ++ (y ∷ [])) (l ++ (x ∷ []))) (some (length before))
          ≡ or_else (cond b (first_break keeps (before ++ (y ∷ [])) l) (some (length before)))
          (cond (keeps (before ++ (y ∷ l)) x) none (some (length before + suc (length l))))
      go true e = rw (append_assoc before (y ∷ []) l, same_place) at e
      go false e = refl

  pub break_more : (keeps : List A → A → Bool) (l : List A) (x : A)
      → first_break keeps [] (l ++ (x ∷ []))
      ≡ or_else (first_break keeps [] l) (cond (keeps l x) none (some (length l)))
  break_more keeps l x = let z : 0 + length l ≡ length l = omega arith in rw z at (break_from keeps [] l x)

  pub broken_above : (n p : ℕ) (rs : List (List A → A → Bool)) (before : List A) (x : A)
      → Above n (broken n p rs before x)
  unfolding broken
  broken_above n p [] before x = tt
  broken_above n p (r ∷ rs) before x = go (r before x) (broken (suc n) p rs before x) (broken_above
      (suc n) p rs before x)
    where
      go : (b : Bool) (o : Option Answer) → Above (suc n) o → Above n (cond b o (some (refused n p)))
      go true o h = above_less n (suc n) (omega arith) o h
      go false o h = omega arith

  pub staged_above : (n p : ℕ) (rs : List (List A → A → Bool)) (l : List A) → Above n (staged n p rs l)
  unfolding staged
  staged_above n p [] l = tt
  staged_above n p (r ∷ rs) l = go (first_break r [] l) (staged_above (suc n) p rs l)
    where
      go : (o : Option ℕ) → Above (suc n) (staged (suc n) p rs l)
          → Above n (or_else (map (λ i. refused n (p + i)) o) (staged (suc n) p rs l))
      go none h = above_less n (suc n) (omega arith) (staged (suc n) p rs l) h
      go (some i) h = omega arith

  pub staged_more : (n p : ℕ) (rs : List (List A → A → Bool)) (l : List A) (x : A)
      → staged n p rs (l ++ (x ∷ [])) ≡ lower (staged n p rs l) (broken n (p + length l) rs l x)
  unfolding staged broken
  staged_more n p [] l x = refl
  staged_more n p (r ∷ rs) l x =
      rw (break_more r l x) (go (r l x) (first_break r [] l) (staged_more (suc n) p rs l x))
    where
      place : ℕ → Answer
      place i = refused n (p + i)

      old : Option Answer
      old = staged (suc n) p rs l

      new : Option Answer
      new = broken (suc n) (p + length l) rs l x

      go : (b : Bool) (o : Option ℕ) → staged (suc n) p rs (l ++ (x ∷ [])) ≡ lower old new
          → or_else (map place (or_else o (cond b none (some (length l))))) (staged (suc n) p rs (l ++ (x ∷ [])))
          ≡ lower (or_else (map place o) old) (cond b new (some (place (length l))))
      go true none e = e
      go true (some i) e =
          sym (lower_stays (suc n) (place i) new (broken_above (suc n) (p + length l) rs l x) (omega arith))
      go false none e = sym (lower_takes (suc n) (place (length l)) old (staged_above (suc n) p rs l) (omega arith))
      go false (some i) e = sym (lower_stays n (place i) (some (place (length l))) (omega arith) (omega arith))

  -- by what the first rule says
  pub staged_none : (n p : ℕ) (r : List A → A → Bool) (rs : List (List A → A → Bool)) (l : List A)
      → first_break r [] l ≡ none → staged n p (r ∷ rs) l ≡ staged (suc n) p rs l
  unfolding staged
  staged_none n p r rs l e = rw e refl

  pub staged_some : (n p : ℕ) (r : List A → A → Bool) (rs : List (List A → A → Bool)) (l : List A) (i : ℕ)
      → first_break r [] l ≡ some i → staged n p (r ∷ rs) l ≡ some (refused n (p + i))
  unfolding staged
  staged_some n p r rs l i e = rw e refl
