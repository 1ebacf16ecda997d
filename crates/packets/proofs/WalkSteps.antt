-- One step of the walk over the fields of a table.
use mathlib.Core.Path.{◌≡◌}
use mathlib.Core.Bool.{Bool, true, false, cond, ◌||◌}
use mathlib.Core.List.{List, [], ◌∷◌, ◌++◌}
use Prim.Native.Nat.{ℕ, suc, ◌+◌, ◌-◌, ◌%◌, ◌<◌, ◌≤◌}
use native.Mathlib.Omega.{arith}
use native.Mathlib.Numerals.{add-one}
use lib.Dec.{eqb}
use lib.ListN.{length, take, set}
use lib.Seq.{take-suc-set, take-set-le}
use Rattle.rules.specs.Names.{is_short}
use Rattle.std.specs.Prelude.{Some, None}
use Rattle.packets.specs.declared.records.Parts.{Parts}
use Rattle.packets.specs.Parts.{parts_at}
use Rattle.packets.specs.FieldTest.{bytes_in, trees_test, field_test, mark_by, mark_of, bits_of}
use Rattle.packets.specs.TableTest.{walk_at}

-- what stands before an element that is set, and with it
pub take_before : {A : Type 0} (l : List A) (i : ℕ) (x : A) → take i (set l i x) ≡ take i l
take_before l i x = take-set-le i l i x (omega arith)

pub take_own : {A : Type 0} (l : List A) (i : ℕ) (x : A) → i < length l
    → take (i + 1) (set l i x) ≡ take i l ++ (x ∷ [])
take_own l i x lt = rw (add-one i) (take-suc-set l i x lt)

module _ (w n i : ℕ) (marks : List ℕ) (place : ℕ) (ended : Bool) (s : List ℕ) (at : ℕ) where
  abbrev own : List ℕ
  own = marks ++ (mark_of s (parts_at s at) ∷ [])

  pub walk_field : i < n → field_test w place ended s at (parts_at s at) ≡ false
      → walk_at w (n - i) marks place ended s at ≡ None
  unfolding walk_at
  walk_field lt e = let m : n - i ≡ suc (n - (i + 1)) = omega arith in rw (m, e)

  pub walk_trees : i < n → field_test w place ended s at (parts_at s at) ≡ true
      → trees_test s marks own (parts_at s at) ≡ false → walk_at w (n - i) marks place ended s at ≡ None
  unfolding walk_at
  walk_trees lt e f = let m : n - i ≡ suc (n - (i + 1)) = omega arith in rw (m, e, f)

  pub walk_on : i < n → field_test w place ended s at (parts_at s at) ≡ true
      → trees_test s marks own (parts_at s at) ≡ true
      → walk_at w (n - i) marks place ended s at
      ≡ walk_at w (n - (i + 1)) own (place + bits_of (parts_at s at)) (ended || eqb (parts_at s at).kind 14) s
      (parts_at s at).next
  unfolding walk_at
  walk_on lt e f = let m : n - i ≡ suc (n - (i + 1)) = omega arith in rw (m, e, f)

  pub walk_end : n ≤ i → walk_at w (n - i) marks place ended s at ≡ cond (eqb (place % w) 0) (Some at) None
  unfolding walk_at
  walk_end le = let m : n - i ≡ 0 = omega arith in rw m

-- the code's mark, by its test of the label
pub mark_word : (s : List ℕ) (p : Parts) {word : Bool} {x : ℕ} → word ≡ is_short (bytes_in s p.label)
    → x ≡ mark_by word p → x ≡ mark_of s p
mark_word s p e h = rw (← e) h

-- the code's test of the trees: the parts r that it holds are p, and the mark x is set
pub own_trees : (marks : List ℕ) (i x : ℕ) (s : List ℕ) (r p : Parts) → r ≡ p → x ≡ mark_of s r → i < length marks
    → {b : Bool} → trees_test s (take i (set marks i x)) (take (i + 1) (set marks i x)) r ≡ b
    → trees_test s (take i marks) (take i marks ++ (mark_of s p ∷ [])) p ≡ b
own_trees marks i x s r p e f lt h =
    rw (← e, ← f) (rw (take_before marks i x, take_own marks i x lt) at h)
