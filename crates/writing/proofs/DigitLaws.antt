-- A number's digits, from the last to the first.
use mathlib.Core.Path.{◌≡◌, refl, sym, ◌∙◌}
use mathlib.Core.List.{List, [], ◌∷◌, ◌++◌, append_assoc}
use Prim.Native.Nat.{ℕ, zero, suc, ◌+◌, ◌-◌, ◌/◌, ◌%◌, ◌<◌, ◌≤◌}
use native.Mathlib.Omega.{arith}
use lib.ListN.{length, take, drop, set, length-drop}
use lib.Seq.{take_all}
use borrow.Author.Tests.{lt-ltb, le-ltb}
use Rattle.base.specs.Bytes.{digit, digits, decimal}

-- the text behind an element that was just set
pub drop_set_same : (text : List ℕ) (i b : ℕ) → i < length text → drop i (set text i b) ≡ b ∷ drop (suc i) text
drop_set_same [] i b h = absurd (omega arith)
drop_set_same (x ∷ text) zero b h = refl
drop_set_same (x ∷ text) (suc i) b h = drop_set_same text i b (omega arith)

-- the first digit, in the place before the others
pub digits_first : (places n : ℕ) (text : List ℕ) → 0 < places → places ≤ length text → n < 10
    → drop (places - 1) (set text (places - 1) (48 + n % 10)) ≡ digits places n ++ drop places text
unfolding digits
digits_first zero n text p h k = absurd (omega arith)
digits_first (suc p) n text q h k =
    let e : n % 10 ≡ n = omega arith in
    let o : suc p - 1 ≡ p = omega arith in
    rw (o, drop_set_same text p (48 + n % 10) (omega arith), lt-ltb n 10 k, e)

-- one digit more
pub digits_next : (places n : ℕ) (text : List ℕ) → 0 < places → places ≤ length text → 10 ≤ n
    → digits (places - 1) (n / 10) ++ drop (places - 1) (set text (places - 1) (48 + n % 10))
    ≡ digits places n ++ drop places text
unfolding digits
digits_next zero n text p h k = absurd (omega arith)
digits_next (suc p) n text q h k =
    let o : suc p - 1 ≡ p = omega arith in
    rw (o, drop_set_same text p (48 + n % 10) (omega arith), le-ltb n 10 k)
    (sym (append_assoc (digits p (n / 10)) (digit (n % 10)) (drop (suc p) text)))

-- the digits as a part of the text
pub digits_part : (text : List ℕ) (start n : ℕ) → drop start text ≡ decimal n → length text ≡ 10
    → take (10 - start) (drop start text) ≡ decimal n
digits_part text start n e l =
    take_all (10 - start) (drop start text) (rw length-drop (omega arith)) ∙ e
