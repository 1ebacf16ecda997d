-- Bytes put into the stored form of an expression.
use mathlib.Core.Path.{◌≡◌, refl, ◌∙◌}
use mathlib.Core.List.{List, [], ◌∷◌, ◌++◌, append-nil}
use Prim.Native.Nat.{ℕ, ◌+◌, ◌-◌, ◌≤◌, ◌<◌, min}
use native.Mathlib.Numerals.{add-one}
use native.Mathlib.Omega.{arith}
use lib.ListN.{length, take, drop, set, get_or, length-drop, drop_of_length-le}
use borrow.Rule.Slice.PartMut.{put_mid, same_len_mid}
use lib.Seq.{take_at, drop_at, length-take-le, take-suc, take-suc-set}

-- one byte more is that of the other list
pub shift_more : (out src : List ℕ) (i v : ℕ) → i < length out → i < length src → take i out ≡ take i src
    → v ≡ get_or src i 0 → take (i + 1) (set out i v) ≡ take (i + 1) src
shift_more out src i v lo hi e q = rw (add-one i, take-suc-set out i v lo, take-suc src i 0 hi, e, q) refl

-- behind the first x of the bytes `before` others were put
pub record Joined (x : ℕ) (before right after : List ℕ) : Type 0 where
  pub long : length after ≡ length before
  pub front : x ≤ length before → take x after ≡ take x before
  pub back : x ≤ length before → drop x after ≡ right

part_front : (n : ℕ) (s t : List ℕ) → n ≤ length s → take n (put_mid n (length s - n) s t) ≡ take n s
part_front n s t h = take_at (take n s) (t ++ drop (length s - n) (drop n s)) n (length-take-le n s h)

part_back : (n : ℕ) (s t : List ℕ) → n ≤ length s → drop n (put_mid n (length s - n) s t) ≡ t
part_back n s t h =
    let l = length-drop n s in
    let post : drop (length s - n) (drop n s) ≡ [] =
    drop_of_length-le (drop n s) {i = length s - n} (omega (arith, l)) in
    drop_at (take n s) (t ++ drop (length s - n) (drop n s)) n (length-take-le n s h) ∙ rw (post, append-nil t) refl

-- the bytes from a place on were lent
pub joined_part : (x from : ℕ) (before right : List ℕ) → from ≤ length before → (x ≤ length before → from ≡ x)
    → length right ≡ length (take (length before - from) (drop from before))
    → Joined x before right (put_mid from (length before - from) before right)
joined_part x from before right le is k = record {
  long = same_len_mid from (length before - from) before right k;
  front = λ h. (let e = is h in rw (← e) (part_front from before right le));
  back = λ h. (let e = is h in rw (← e) (part_back from before right le));
}

pub joined_min : (x from : ℕ) (before right : List ℕ) → from ≡ min x (length before)
    → length right ≡ length (take (length before - from) (drop from before))
    → Joined x before right (put_mid from (length before - from) before right)
joined_min x from before right e k =
    joined_part x from before right (omega (arith, e)) (λ h. omega (arith, e, h)) k

-- the first bytes were written over, one by one
pub set_two : (l : List ℕ) (a b : ℕ) → 1 < length l → take 2 (set (set l 0 a) 1 b) ≡ a ∷ b ∷ []
set_two [] a b lt = absurd (omega arith)
set_two (x ∷ []) a b lt = absurd (omega arith)
set_two (x ∷ y ∷ l) a b lt = refl

pub set_five : (l : List ℕ) (a b c d e : ℕ) → 4 < length l
    → take 5 (set (set (set (set (set l 0 a) 1 b) 2 c) 3 d) 4 e) ≡ a ∷ b ∷ c ∷ d ∷ e ∷ []
set_five [] a b c d e lt = absurd (omega arith)
set_five (x ∷ []) a b c d e lt = absurd (omega arith)
set_five (x ∷ y ∷ []) a b c d e lt = absurd (omega arith)
set_five (x ∷ y ∷ z ∷ []) a b c d e lt = absurd (omega arith)
set_five (x ∷ y ∷ z ∷ v ∷ []) a b c d e lt = absurd (omega arith)
set_five (x ∷ y ∷ z ∷ v ∷ w ∷ l) a b c d e lt = refl

-- ── the type of a whole ──
