-- No promise allows an answer of specs/Wrong: each has other numbers, by one computation.
use mathlib.Core.Path.{◌≡◌, refl}
use mathlib.Core.Bool.{Bool, true, not}
use mathlib.Core.List.{List, ◌∷◌}
use Prim.Native.Nat.{ℕ}
use Rattle.base.specs.Bytes.{digits, decimal}
use Rattle.base.specs.Lists.{all, same}
use Rattle.base.proofs.Lists.{every_passes, other_numbers}
use Rattle.rules.specs.Trees.{le2}
use Rattle.rules.specs.Stored.{counted}
use Rattle.rules.specs.Promises.{Outcome, leaves, delivered}
use Rattle.writing.specs.Puts.{Placed, put}
use Rattle.writing.specs.Delivery.{delivery_answer}
use Rattle.writing.specs.Wrong.{
  Claim,
  puts,
  puts_two,
  puts_counted,
  puts_decimal,
  delivers,
  lent,
  Claimed,
  AllFalse,
  wrong,
}

-- ── answers as numbers ──

abbrev placed_numbers : Placed → List ℕ
placed_numbers p = p.next ∷ p.buffer

abbrev outcome_numbers : Outcome → List ℕ
outcome_numbers o = o.answer.number ∷ o.answer.place ∷ o.answer.amount ∷ o.buffer

-- ── other numbers ──

abbrev placed_else : Placed → Placed → Bool
placed_else a b = not (same (placed_numbers a) (placed_numbers b))

abbrev differs : Claim → Bool
differs (puts at w r) = placed_else r (put lent at w)
differs (puts_two at n r) = placed_else r (put lent at (le2 n))
differs (puts_counted at w r) = placed_else r (put lent at (counted w))
differs (puts_decimal at n r) = placed_else r (put lent at (decimal n))
differs (delivers w room after) =
    not (same (outcome_numbers (leaves (delivery_answer room w) after)) (outcome_numbers (delivered w lent)))

one_false : (c : Claim) → differs c ≡ true → Claimed c → ⊥
one_false (puts at w r) d = other_numbers placed_numbers r (put lent at w) d
one_false (puts_two at n r) d = other_numbers placed_numbers r (put lent at (le2 n)) d
one_false (puts_counted at w r) d = other_numbers placed_numbers r (put lent at (counted w)) d
one_false (puts_decimal at n r) d = other_numbers placed_numbers r (put lent at (decimal n)) d
one_false (delivers w room after) d =
    other_numbers outcome_numbers (leaves (delivery_answer room w) after) (delivered w lent) d

pub ruled_out : AllFalse wrong
unfolding all same put le2 digits delivered
ruled_out = every_passes differs one_false wrong refl
