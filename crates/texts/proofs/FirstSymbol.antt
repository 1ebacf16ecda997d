-- The first of the operators in the reader's order with whose symbol a text begins: by the text's first two bytes.
use mathlib.Core.Path.{◌≡◌, refl, ap, sym}
use mathlib.Core.Bool.{Bool, true, false, cond, ◌&&◌}
use mathlib.Core.List.{List, [], ◌∷◌, ◌++◌}
use mathlib.Core.Option.{none, some}
use Prim.Native.Nat.{ℕ, ◌≤◌, ◌<◌}
use native.Mathlib.Omega.{arith}
use lib.Dec.{eqb}
use lib.ListN.{length, take, drop, get_or}
use borrow.Author.Tests.{eqb-true, eq-eqb}
use Rattle.base.specs.Lists.{all, same}
use Rattle.base.proofs.Lists.{and_left, and_right, same_true, fails, not_both}
use Rattle.rules.specs.declared.Op.{Op}
use Rattle.rules.specs.Operators.{operator, operators, symbol}
use Rattle.text_laws.specs.Reader.{Found, missing, found, found_or, after, first_of, insert, longest_first, order}
use Rattle.std.specs.Prelude.{Option, Some, None}
use Rattle.operators.specs.Symbols.{symbol_in, symbol_of}
use Rattle.operators.proofs.SymbolLaws.{of_length, symbol_of_length}

-- the operator, and the text behind its symbol
abbrev pub found_by : Option (Op × ℕ) → List ℕ → Found
found_by None s = missing
found_by (Some (o, n)) s = found o (drop n s)

-- ── one symbol ──

eqb_sym : (c d : ℕ) → eqb c d ≡ eqb d c
eqb_sym c d = go (eqb c d) refl
  where
    go : (b : Bool) → eqb c d ≡ b → b ≡ eqb d c
    go true e = sym (eq-eqb d c (sym (eqb-true c d e)))
    go false e = sym (fails (eqb d c) (λ t. not_both (eqb c d) (eq-eqb c d (sym (eqb-true d c t))) e))

-- a text begins with a word where its first bytes are the word
after_same : (v s : List ℕ) → after v s ≡ cond (same (take (length v) s) v) (some (drop (length v) s)) none
unfolding after same
after_same [] s = refl
after_same (c ∷ v) [] = refl
after_same (c ∷ v) (d ∷ s) = rw (eqb_sym c d) (go (eqb d c) (after_same v s))
  where
    go : (b : Bool) → after v s ≡ cond (same (take (length v) s) v) (some (drop (length v) s)) none
        → cond b (after v s) none ≡ cond (b && same (take (length v) s) v) (some (drop (length v) s)) none
    go true ih = ih
    go false ih = refl

-- ── symbols of one length ──

abbrev AreOf : ℕ → List Op → Bool
AreOf n os = all (λ o. eqb (length (symbol o)) n) os

first_of_length : (os rest : List Op) (n : ℕ) (s : List ℕ) (m : Option (Op × ℕ)) → AreOf n os ≡ true
    → length (take n s) ≡ n → first_of rest s ≡ found_by m s → first_of (os ++ rest) s ≡ found_by
    (symbol_in os (take n s)
    m) s
unfolding all first_of symbol_in
first_of_length [] rest n s m a l e = e
first_of_length (o ∷ os) rest n s m a l e =
    let k : length (symbol o) ≡ n =
    eqb-true (length (symbol o)) n (and_left (eqb (length (symbol o)) n) (AreOf n os) a) in
    let ih = first_of_length os rest n s m (and_right (eqb (length (symbol o)) n) (AreOf n os) a) l e in
    rw (after_same (symbol o) s, k, l, ih) (go (same (take n s) (symbol o)))
  where
    go : (b : Bool)
        → found_or o (found_by (symbol_in os (take n s) m) s) (cond b (some (drop n s)) none)
        ≡ found_by (cond b (Some (o, n)) (symbol_in os (take n s) m)) s
    go true = refl
    go false = refl

-- a text that is shorter than the symbols begins with none of them
first_shorter : (os rest : List Op) (n : ℕ) (s : List ℕ) → AreOf n os ≡ true → length (take n s) < n
    → first_of (os ++ rest) s ≡ first_of rest s
unfolding all first_of
first_shorter [] rest n s a l = refl
first_shorter (o ∷ os) rest n s a l =
    let k : length (symbol o) ≡ n =
    eqb-true (length (symbol o)) n (and_left (eqb (length (symbol o)) n) (AreOf n os) a) in
    let other : same (take n s) (symbol o) ≡ false =
    fails (same (take n s) (symbol o)) (λ t. omega (arith, ap length (same_true (take n s) (symbol o) t))) in
    rw (after_same (symbol o) s, k, other)
    (first_shorter os rest n s (and_right (eqb (length (symbol o)) n) (AreOf n os) a) l)

-- ── the whole table ──

abbrev longs : List Op
longs = of_length 2 operators

abbrev shorts : List Op
shorts = of_length 1 operators

in_order : order ≡ longs ++ (shorts ++ [])
unfolding of_length order longest_first insert operators operator
in_order = refl

longs_two : AreOf 2 longs ≡ true
unfolding all of_length operators operator
longs_two = refl

shorts_one : AreOf 1 shorts ≡ true
unfolding all of_length operators operator
shorts_one = refl

by_length : (a b : ℕ) → symbol_of a b ≡ symbol_in longs (a ∷ b ∷ []) (symbol_in shorts (a ∷ []) None)
unfolding symbol_of
by_length a b =
    rw (symbol_of_length operators (a ∷ b ∷ []), symbol_of_length operators (a ∷ []))

and_none : (b : Bool) → (b && false) ≡ false
and_none true = refl
and_none false = refl

-- no symbol has the byte 0
zero_behind : (a : ℕ) (m : Option (Op × ℕ)) → symbol_in longs (a ∷ 0 ∷ []) m ≡ m
unfolding symbol_in of_length operators operator same
zero_behind a m = simp and_none

first_short : (c : ℕ) (s : List ℕ)
    → first_of (shorts ++ []) (c ∷ s) ≡ found_by (symbol_in shorts (c ∷ []) None) (c ∷ s)
unfolding first_of
first_short c s = first_of_length shorts [] 1 (c ∷ s) None shorts_one refl refl

-- the operator in front of a text
pub first_symbol : (c : ℕ) (s : List ℕ) → first_of order (c ∷ s) ≡ found_by (symbol_of c (get_or s 0 0)) (c ∷ s)
first_symbol c [] =
    rw (in_order, first_shorter longs (shorts ++ []) 2 (c ∷ []) longs_two (omega arith), by_length, zero_behind)
    (first_short c [])
first_symbol c (d ∷ s) =
    rw (in_order, by_length)
    (first_of_length longs (shorts ++ []) 2 (c ∷ d ∷ s) (symbol_in shorts (c ∷ []) None) longs_two refl
    (first_short c (d ∷ s)))

pub first_none : first_of order [] ≡ missing
unfolding first_of order longest_first insert operators operator after
first_none = refl

-- ── how long a symbol is ──

-- an operator that is found has a symbol of 1 to n bytes
abbrev pub Sized : ℕ → Option (Op × ℕ) → Type 0
Sized n None = Unit {0}
Sized n (Some (o, k)) = (1 ≤ k) × (k ≤ n)

sized_in : (os : List Op) (w : List ℕ) (m : Option (Op × ℕ)) (n : ℕ) → (1 ≤ length w) × (length w ≤ n) → Sized n m
    → Sized n (symbol_in os w m)
unfolding symbol_in
sized_in [] w m n p q = q
sized_in (o ∷ os) w m n p q = go (same w (symbol o)) (sized_in os w m n p q)
  where
    go : (b : Bool) → Sized n (symbol_in os w m) → Sized n (cond b (Some (o, length w)) (symbol_in os w m))
    go true ih = p
    go false ih = ih

short_sized : (c n : ℕ) → 1 ≤ n → Sized n (symbol_in shorts (c ∷ []) None)
short_sized c n le = sized_in shorts (c ∷ []) None n (omega arith, le) tt

-- a symbol in front of a text lies in it
pub symbol_sized : (c : ℕ) (s : List ℕ) → Sized (length (c ∷ s)) (symbol_of c (get_or s 0 0))
symbol_sized c [] = rw (by_length, zero_behind) (short_sized c 1 (omega arith))
symbol_sized c (d ∷ s) =
    rw by_length
    (sized_in longs (c ∷ d ∷ []) (symbol_in shorts (c ∷ []) None) (length (c ∷ d ∷ s)) (
      omega arith,
      omega
          arith,
    )
    (short_sized c (length (c ∷ d ∷ s)) (omega arith)))
