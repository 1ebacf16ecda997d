-- What is copied, the lengths of digits, and how much room a line's parts take.
use mathlib.Core.Bool.{Bool, true, false, cond}
use mathlib.Core.List.{◌++◌}
use Prim.Native.Nat.{ℕ, zero, suc, ◌/◌, ◌%◌, ◌≤◌}
use native.Mathlib.Omega.{arith}
use lib.Dec.{ltb}
use lib.ListN.{length, length-append}
use Rattle.base.specs.Bytes.{bytes, digit, digits, decimal}
use Rattle.rules.specs.Reading.{Entry, is_present}
use Rattle.rules.specs.Listing.{entry_text}
use Rattle.packets.specs.LineTexts.{state_text}

-- no more digits than places
pub digits_length : (places n : ℕ) → length (digits places n) ≤ places
unfolding digits
digits_length zero n = omega arith
digits_length (suc p) n = go (ltb n 10) (digits_length p (n / 10))
  where
    go : (b : Bool) → length (digits p (n / 10)) ≤ p
        → length (cond b (digit n) (digits p (n / 10) ++ digit (n % 10))) ≤ suc p
    go true h = omega arith
    go false h = rw (length-append (digits p (n / 10)) (digit (n % 10))) (omega arith)

-- the length of an entry's text, absent or not
pub state_length : (fixed : Bool) (e : Entry) → length (state_text fixed e) ≤ 33
unfolding state_text
state_length fixed e = go (is_present e) fixed
  where
    o : length (decimal e.offset) ≤ 10
    o = digits_length 10 e.offset

    w : length (decimal e.width) ≤ 10
    w = digits_length 10 e.width

    v : length (decimal e.value) ≤ 10
    v = digits_length 10 e.value

    go : (b f : Bool) → length (cond b (entry_text f e) (bytes " absent")) ≤ 33
    go false f = omega arith
    go true true = simp length-append (omega (arith, o, w, v))
    go true false = simp length-append (omega (arith, o, w))
