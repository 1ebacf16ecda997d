-- A byte looked for, and numbers, one digit after the other: what the code needs.
use mathlib.Core.Path.{◌≡◌, sym, ◌∙◌}
use mathlib.Core.Bool.{cond}
use mathlib.Core.List.{List}
use Prim.Native.Nat.{ℕ, suc, ◌+◌, ◌*◌, ◌≤◌, ◌<◌}
use native.Mathlib.Numerals.{add-one}
use native.Mathlib.Omega.{arith}
use lib.Dec.{eqb, ltb}
use lib.ListN.{length, drop, get_or, drop_of_length-le}
use lib.Seq.{drop-cons}
use borrow.Author.Tests.{lt-ltb, le-ltb}
use Rattle.std.specs.Prelude.{Bool, true, false, not, Option, Some, None, unwrap_or, refl}
use Rattle.std.specs.List.{position_or_len}
use Rattle.std.proofs.lemmas.List.Recursion.{is_position_or_len}
use Rattle.std.proofs.lemmas.List.Sums.{prefix_len-le-length}
use borrow.Author.Tests.{ltb-false}
use Rattle.requests.specs.Words.{before, digit_of, number_from}

-- ── the first such byte ──

before_position : (b : ℕ) (s : List ℕ) → before b s ≡ position_or_len (λ c. eqb c b) s
unfolding before
before_position b = is_position_or_len (before b) (λ c. eqb c b) refl
    (λ c s. let one : 1 + before b s ≡ suc (before b s) = omega arith in rw one refl)

-- a place that was found, or the end
pub found_or_all : (b : ℕ) (s : List ℕ) (r : Option ℕ)
    → r ≡ cond (ltb (position_or_len (λ c. eqb c b) s) (length s)) (Some (position_or_len (λ c. eqb c b) s)) None
    → unwrap_or r (length s) ≡ before b s
found_or_all b s r e = rw (e, before_position b s) (go (ltb n (length s)) refl)
  where
    n : ℕ
    n = position_or_len (λ c. eqb c b) s

    go : (t : Bool) → ltb n (length s) ≡ t → unwrap_or (cond t (Some n) None) (length s) ≡ n
    go true f = refl
    go false f = omega (arith, ltb-false n (length s) f, prefix_len-le-length (λ c. not (eqb c b)) s)

-- ── numbers ──

number_step : (n d : ℕ) (s : List ℕ) (i : ℕ) → i < length s → d ≡ digit_of (get_or s i 0)
    → number_from n (drop i s) ≡ cond (ltb 9 d) n (cond (ltb 999999 n) n (number_from (10 * n + d) (drop (i + 1) s)))
unfolding number_from
number_step n d s i h e = rw (e, add-one i, drop-cons s i 0)

pub number_stop : (n d : ℕ) (s : List ℕ) (i : ℕ) → i < length s → d ≡ digit_of (get_or s i 0) → 9 < d
    → number_from 0 s ≡ number_from n (drop i s) → n ≡ number_from 0 s
number_stop n d s i h e k p = sym (p ∙ number_step n d s i h e ∙ rw (lt-ltb 9 d k))

pub number_full : (n d : ℕ) (s : List ℕ) (i : ℕ) → i < length s → d ≡ digit_of (get_or s i 0) → d ≤ 9 → 999999 < n
    → number_from 0 s ≡ number_from n (drop i s) → n ≡ number_from 0 s
number_full n d s i h e k m p = sym (p ∙ number_step n d s i h e ∙ rw (le-ltb 9 d k, lt-ltb 999999 n m))

pub number_on : (n d : ℕ) (s : List ℕ) (i : ℕ) → i < length s → d ≡ digit_of (get_or s i 0) → d ≤ 9 → n ≤ 999999
    → number_from 0 s ≡ number_from n (drop i s) → number_from 0 s ≡ number_from (10 * n + d) (drop (i + 1) s)
number_on n d s i h e k m p = p ∙ number_step n d s i h e ∙ rw (le-ltb 9 d k, le-ltb 999999 n m)

pub number_end : (n : ℕ) (s : List ℕ) (i : ℕ) → length s ≤ i → number_from 0 s ≡ number_from n (drop i s)
    → n ≡ number_from 0 s
unfolding number_from
number_end n s i h p = sym (p ∙ rw (drop_of_length-le s {i = i} h))
