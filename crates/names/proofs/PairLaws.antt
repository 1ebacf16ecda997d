-- Nested loops over pairs, that stop at the first thing which is like an earlier one: what is left of each loop
-- decides.
use mathlib.Core.Path.{◌≡◌, refl, sym, ◌∙◌, ap}
use mathlib.Core.Bool.{Bool, true, false, cond}
use mathlib.Core.List.{List}
use Prim.Native.Nat.{ℕ, ◌+◌, ◌-◌, ◌%◌, ◌≤◌, ◌<◌}
use native.Mathlib.Nat.{sub-zero}
use native.Mathlib.Omega.{arith}
use lib.Dec.{ltb, eqb}
use lib.ListN.{length, get_or, set}
use lib.Seq.{get_or-set_same, get_or-set_other}
use borrow.Author.Tests.{le-ltb, lt-ltb, ltb-true, ltb-false, eqb-true, eqb-false, eq-eqb, ne_eqb}
use Rattle.names.specs.Repeats.{first_from, repeats, first_repeat, remainders, start_of}
use Rattle.names.proofs.RepeatLaws.{search_step, search_end, none_passes}

-- the things before i are not like j; nothing before j repeats an earlier one
abbrev pub Inner : (ℕ → ℕ → Bool) → ℕ → ℕ → Type 0
Inner alike j i = (i ≤ j) × (first_from (λ k. alike k j) 0 j ≡ first_from (λ k. alike k j) i (j - i))

abbrev pub Later : (ℕ → ℕ → Bool) → ℕ → ℕ → Type 0
Later alike n j = (j ≤ n) × (first_repeat alike n ≡ first_from (repeats alike) j (n - j))

-- a search begins at j where its remainder is not marked, else at the first
pub start_fresh : (seen : List ℕ) (key j : ℕ) → get_or seen (key % remainders) 0 ≡ 0 → j ≡ start_of seen key j
unfolding start_of
start_fresh seen key j e = rw (eq-eqb _ _ e)

pub start_marked : (seen : List ℕ) (key j : ℕ) → (get_or seen (key % remainders) 0 ≡ 0 → ⊥) → 0 ≡ start_of seen key j
unfolding start_of
start_marked seen key j n = rw (ne_eqb _ _ n)

-- the remainders of the keys before j are marked
abbrev pub Seen : (ℕ → ℕ) → ℕ → List ℕ → Type 0
Seen key j seen = (k : ℕ) → k < j → get_or seen (key k % remainders) 0 ≡ 1

pub seen_on : (key : ℕ → ℕ) (j : ℕ) (seen : List ℕ) → length seen ≡ remainders → Seen key j seen
    → Seen key (j + 1) (set seen (key j % remainders) 1)
seen_on key j seen size h k lt = go (eqb (key k % remainders) (key j % remainders)) refl
  where
    go : (b : Bool) → eqb (key k % remainders) (key j % remainders) ≡ b
        → get_or (set seen (key j % remainders) 1) (key k % remainders) 0 ≡ 1
    go true t =
        let e : key k % remainders ≡ key j % remainders = eqb-true _ _ t in
        let fits : key j % remainders < length seen = omega arith in
        rw (e, get_or-set_same seen (key j % remainders) 1 0 fits)
    go false t =
        let other : key k % remainders ≡ key j % remainders → ⊥ = eqb-false _ _ t in
        let before : k < j = last (ltb k j) refl other in
        get_or-set_other seen (key j % remainders) (key k % remainders) 1 0 other ∙ h k before
      where
        last : (b : Bool) → ltb k j ≡ b → (key k % remainders ≡ key j % remainders → ⊥) → k < j
        last true u other = ltb-true k j u
        last false u other =
            let e : k ≡ j = omega (arith, ltb-false k j u) in
            absurd (other (ap (λ (x : ℕ). key x % remainders) e))

-- marking one more leaves what is marked
pub seen_kept : (key : ℕ → ℕ) (j : ℕ) (seen : List ℕ) (m : ℕ) → m < length seen → Seen key j seen
    → Seen key j (set seen m 1)
seen_kept key j seen m fits h k lt = go (eqb (key k % remainders) m) refl
  where
    go : (b : Bool) → eqb (key k % remainders) m ≡ b → get_or (set seen m 1) (key k % remainders) 0 ≡ 1
    go true t = rw (eqb-true (key k % remainders) m t, get_or-set_same seen m 1 0 fits) refl
    go false t = get_or-set_other seen m (key k % remainders) 1 0 (eqb-false _ _ t) ∙ h k lt

module _ (alike : ℕ → ℕ → Bool) where
  pub inner_starts : (j : ℕ) → Inner alike j 0
  inner_starts j = (omega arith, rw sub-zero)

  pub later_starts : (n : ℕ) → Later alike n 0
  later_starts n = (omega arith, rw sub-zero)

  module _ (n j i : ℕ) (inner : Inner alike j i) where
    pub inner_on : i < j → alike i j ≡ false → Inner alike j (i + 1)
    inner_on lt other = (omega arith, inner.1 ∙ search_step (λ k. alike k j) i j lt ∙ simp other)

    repeats_none : j ≤ i → repeats alike j ≡ false
    repeats_none le =
        let s : i ≡ j = omega arith in
        let f : first_from (λ k. alike k j) 0 j ≡ j = inner.1 ∙ rw s (search_end (λ k. alike k j) j) in
        le-ltb (first_from (λ k. alike k j) 0 j) j (omega (arith, f))

    repeats_found : i < j → alike i j ≡ true → repeats alike j ≡ true
    repeats_found lt like =
        let f : first_from (λ k. alike k j) 0 j ≡ i = inner.1 ∙ search_step (λ k. alike k j) i j lt ∙ simp like in
        lt-ltb (first_from (λ k. alike k j) 0 j) j (omega (arith, f))

    pub later_on : j < n → j ≤ i → Later alike n j → Later alike n (j + 1)
    later_on lt le later =
        let none = repeats_none le in
        (omega arith, later.1 ∙ search_step (repeats alike) j n lt ∙ simp none)

    pub later_found : i < j → j < n → alike i j ≡ true → Later alike n j → j ≡ first_repeat alike n
    later_found lt le like later =
        let found = repeats_found lt like in
        sym (later.1 ∙ search_step (repeats alike) j n le ∙ simp found)

  -- a search from j on, where nothing is like it
  pub inner_none : (j : ℕ) → ((k : ℕ) → k < j → alike k j ≡ false) → Inner alike j j
  inner_none j none =
      let f : ℕ → Bool = λ k. alike k j in
      let e : first_from f 0 j ≡ 0 + j = none_passes f 0 j (λ k p q. none k (omega arith)) in
      let same : first_from f 0 j ≡ j = omega (arith, e) in
      (omega arith, same ∙ sym (search_end f j))

  -- where no key that j's is like was seen, nothing is like it
  pub inner_from : (key : ℕ → ℕ) (seen : List ℕ) (j : ℕ)
      → ((k : ℕ) → k < j → (key k ≡ key j → ⊥) → alike k j ≡ false) → Seen key j seen
      → Inner alike j (start_of seen (key j) j)
  unfolding start_of
  inner_from key seen j apart h = go (eqb (get_or seen (key j % remainders) 0) 0) refl
    where
      none : get_or seen (key j % remainders) 0 ≡ 0 → (k : ℕ) → k < j → alike k j ≡ false
      none z k lt = apart k lt (λ e.
          let one : get_or seen (key j % remainders) 0 ≡ 1 = rw e at (h k lt) in
          omega arith)

      go : (b : Bool) → eqb (get_or seen (key j % remainders) 0) 0 ≡ b → Inner alike j (cond b j 0)
      go true t = inner_none j (none (eqb-true _ _ t))
      go false t = inner_starts j

  pub later_ends : (n j : ℕ) → n ≤ j → Later alike n j → n ≡ first_repeat alike n
  later_ends n j le later =
      let end : j ≡ n = omega arith in
      sym (later.1 ∙ rw end (search_end (repeats alike) n))
