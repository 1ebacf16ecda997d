-- The columns of an operator's row, and a byte of which no operator's symbol is made.
use mathlib.Core.Path.{◌≡◌, refl, ap, sym, ◌∙◌}
use mathlib.Core.Bool.{Bool, true, false, cond, ◌||◌}
use mathlib.Core.List.{List, [], ◌∷◌}
use mathlib.Core.Option.{none}
use Prim.Native.Nat.{ℕ, ◌<◌}
use native.Mathlib.Omega.{arith}
use lib.Dec.{eqb, ltb}
use lib.ListN.{length}
use borrow.Author.Tests.{ne_eqb, eqb-false, ltb-true}
use Rattle.base.specs.Lists.{all, any}
use Rattle.base.proofs.Lists.{or_false_left, or_false_right}
use Rattle.base.proofs.Breaks.{and_true}
use Rattle.rules.specs.declared.Op.{Op}
use Rattle.rules.specs.Operators.{operator, operators, symbol, level, left_level, right_level, code}
use Rattle.rules.specs.Names.{is_operator}
use Rattle.text_laws.specs.Reader.{missing, after, first_of, insert, longest_first, order}
use Rattle.operators.specs.declared.rows.Row.{Row}
use Rattle.operators.specs.Rows.{row_of}

-- ── columns ──

module _ (r : Row) (o : Op) (is : r ≡ row_of o) where
  pub row_level : level o ≡ r.level
  unfolding row_of
  row_level = ap (λ (x : Row). x.level) (sym is)

  pub row_left : left_level o ≡ r.left
  unfolding row_of
  row_left = ap (λ (x : Row). x.left) (sym is)

  pub row_right : right_level o ≡ r.right
  unfolding row_of
  row_right = ap (λ (x : Row). x.right) (sym is)

  pub row_code : r.code ≡ code o
  unfolding row_of
  row_code = ap (λ (x : Row). x.code) is

-- ── a byte that is of no operator ──

word_other : (w s : List ℕ) (c : ℕ) → 0 < length w → any (eqb c) w ≡ false → after w (c ∷ s) ≡ none
unfolding any after
word_other [] s c l h = absurd (omega arith)
word_other (k ∷ w) s c l h =
    let n = eqb-false c k (or_false_left (eqb c k) (any (eqb c) w) h) in
    rw (ne_eqb k c (λ e. n (sym e)))

abbrev is_in : ℕ → Op → Bool
is_in c o = any (eqb c) (symbol o)

abbrev are_some : List Op → Bool
are_some os = all (λ o. ltb 0 (length (symbol o))) os

none_first : (os : List Op) (c : ℕ) (s : List ℕ) → are_some os ≡ true → any (is_in c) os ≡ false
    → first_of os (c ∷ s) ≡ missing
unfolding all any first_of
none_first [] c s a h = refl
none_first (o ∷ os) c s a h =
    let k = and_true (ltb 0 (length (symbol o))) (are_some os) a in
    let e = word_other (symbol o) s c (ltb-true 0 (length (symbol o)) k.0)
    (or_false_left (is_in c o) (any (is_in c) os) h) in
    rw (e, none_first os c s k.1 (or_false_right (is_in c o) (any (is_in c) os) h))

-- sorting keeps what some operator has
or_swap : (a b c : Bool) → (a || (b || c)) ≡ (b || (a || c))
or_swap true true c = refl
or_swap true false c = refl
or_swap false true c = refl
or_swap false false c = refl

any_insert : (p : Op → Bool) (o : Op) (l : List Op) → any p (insert o l) ≡ (p o || any p l)
unfolding any insert
any_insert p o [] = refl
any_insert p o (q ∷ l) = go (ltb (length (symbol o)) (length (symbol q))) (any_insert p o l)
  where
    go : (b : Bool) → any p (insert o l) ≡ (p o || any p l)
        → any p (cond b (q ∷ insert o l) (o ∷ q ∷ l)) ≡ (p o || (p q || any p l))
    go true ih = rw ih (or_swap (p q) (p o) (any p l))
    go false ih = refl

any_longest : (p : Op → Bool) (l : List Op) → any p (longest_first l) ≡ any p l
unfolding any longest_first
any_longest p [] = refl
any_longest p (o ∷ l) = any_insert p o (longest_first l) ∙ rw (any_longest p l) refl

order_some : are_some order ≡ true
unfolding all order longest_first insert operators operator
order_some = refl

pub no_operator : (c : ℕ) (s : List ℕ) → is_operator c ≡ false → first_of order (c ∷ s) ≡ missing
unfolding is_operator order
no_operator c s h =
    none_first order c s order_some
    (any_longest (is_in c) operators ∙ or_false_right (eqb c 33) (any (is_in c) operators) h)
