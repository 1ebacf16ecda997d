-- Where a walk over the held names begins: it passes no field that bears the name.
use Rattle.std.proofs.Common as std
use Rattle.std.specs.Option.{MatchOption}
use mathlib.Core.Path.{◌≡◌, refl, sym, ◌∙◌, ap, subst}
use mathlib.Core.Bool.{Bool, true, false, cond}
use mathlib.Core.List.{List, []}
use Prim.Native.Nat.{ℕ, zero, suc, ◌+◌, ◌-◌, ◌≤◌, ◌<◌, min}
use native.Mathlib.Nat.{sub-zero}
use native.Mathlib.Numerals.{add-one}
use native.Mathlib.Omega.{arith}
use lib.Dec.{eqb, ltb}
use lib.ListN.{length, get_or, set, length-set}
use lib.Seq.{get_or-set_same, get_or-set_other, drop-set-lt}
use borrow.Author.Tests.{eqb-true, eqb-false, ltb-true, ltb-false, le-ltb}
use Rattle.base.proofs.Lists.{and_right, fails}
use Rattle.base.proofs.Breaks.{or_true}
use Rattle.rules.specs.Limits.{short_most}
use Rattle.names.specs.Repeats.{first_from, pad_to, same_name, at_most}
use Rattle.names.proofs.KeyLaws.{same_keys}
use Rattle.names.proofs.RepeatLaws.{search_end, none_passes}
use Rattle.texts.specs.HeldNames.{Names, Started}
use Rattle.texts.specs.StoredTrees.{reads_as, is_held, look_up}
use Rattle.texts.specs.NameStarts.{buckets, bucket_of, start_in, StartsBy, Lowered, StartPut}
use Rattle.texts.proofs.LineSearches.{search_next}

-- ── the lower of two ──

pub most_below : (most n : ℕ) → n ≤ most → at_most most n ≡ n
most_below most n le = rw (le-ltb most n le) refl

pub most_above : (most n : ℕ) → most ≤ n → at_most most n ≡ most
most_above most n le = go (ltb most n) refl
  where
    go : (b : Bool) → ltb most n ≡ b → cond b most n ≡ most
    go true e = refl
    go false e = omega (arith, ltb-false most n e)

pub least_is : (most n : ℕ) → min n most ≡ at_most most n
least_is most n = go (ltb most n) refl
  where
    go : (b : Bool) → ltb most n ≡ b → min n most ≡ cond b most n
    go true e = omega (arith, ltb-true most n e)
    go false e = omega (arith, ltb-false most n e)

pub most_least : (most n : ℕ) → (at_most most n ≤ most) × (at_most most n ≤ n)
most_least most n = go (ltb most n) refl
  where
    go : (b : Bool) → ltb most n ≡ b → (cond b most n ≤ most) × (cond b most n ≤ n)
    go true e = (omega arith, omega (arith, ltb-true most n e))
    go false e = (omega (arith, ltb-false most n e), omega arith)

-- ── a walk that begins later ──

pub search_from : (f : ℕ → Bool) (n k : ℕ) → k ≤ n → ((i : ℕ) → i < k → f i ≡ false)
    → first_from f 0 n ≡ first_from f k (n - k)
search_from f n zero le none = rw (sub-zero n) refl
search_from f n (suc k) le none =
    let e = search_next f n k (omega arith) (search_from f n k (omega arith) (λ i lt. none i (omega arith)))
    (none k (omega arith)) in
    rw (sym (add-one k)) e

-- where no field before the name's start is read by it, the walk might begin at the first
pub look_from_zero : (names : Names) (k : ℕ) (w : List ℕ)
    → ((i : ℕ) → i < k → i < at_most k (start_in names.starts (pad_to short_most w)) → is_held names w i ≡ false)
    → look_up names k w ≡ first_from (is_held names w) 0 k
unfolding look_up
look_from_zero names k w none =
    let le = (most_least k (start_in names.starts (pad_to short_most w))).0 in
    sym (search_from (is_held names w) k (at_most k (start_in names.starts (pad_to short_most w))) le
    (λ i lt. none i (omega (arith, lt, le)) lt))

-- the first of m indexes from s that passes is i
first_is : (f : ℕ → Bool) (i s m : ℕ) → s ≤ i → i < s + m → f i ≡ true
    → ((k : ℕ) → s ≤ k → k < i → f k ≡ false) → first_from f s m ≡ i
unfolding first_from
first_is f i s zero le lt hit none = absurd (omega (arith, le, lt))
first_is f i s (suc m) le lt hit none = go (ltb s i) refl (first_is f i (suc s) m)
  where
    go : (b : Bool) → ltb s i ≡ b
        → (suc s ≤ i → i < suc s + m → f i ≡ true → ((k : ℕ) → suc s ≤ k → k < i → f k ≡ false)
        → first_from f (suc s) m ≡ i)
        → cond (f s) s (first_from f (suc s) m) ≡ i
    go true e rest =
        let less = ltb-true s i e in
        rw (none s (omega arith) less) (rest (omega (arith, less)) (omega (arith, lt)) hit
        (λ k p q. none k (omega (arith, p)) q))
    go false e rest =
        let same : s ≡ i = omega (arith, ltb-false s i e, le) in rw (ap f same ∙ hit) same

-- what `find` answers over the indexes from s below n, with n where none passes
pub find_is : (f : ℕ → Bool) (n s : ℕ) (r : std.Option ℕ)
    → MatchOption r ((k : ℕ) → s ≤ k → k < n → f k ≡ false)
    (λ i. (s ≤ i) × (i < n) × (f i ≡ true) × ((k : ℕ) → s ≤ k → k < i → f k ≡ false))
    → (std.unwrap_or r n ≤ n) × (std.unwrap_or r n ≡ first_from f (at_most n s) (n - at_most n s))
find_is f n s std.None none = (omega arith, go (ltb n s) refl)
  where
    go : (b : Bool) → ltb n s ≡ b → n ≡ first_from f (cond b n s) (n - cond b n s)
    go true e = sym (search_end f n)
    go false e =
        let le = ltb-false n s e in
        let none = none_passes f s (n - s) (λ k p q. none k p (omega (arith, q, le))) in
        omega (arith, none, le)
find_is f n s (std.Some i) h =
    let k = most_below n s (omega (arith, h.0, h.1)) in (
      omega (arith, h.1),
      sym (ap (λ (j : ℕ). first_from f j (n - j)) k
          ∙ first_is f i s (n - s) h.0 (omega (arith, h.0, h.1)) h.2 h.3),
    )

-- ── a field before a name's start does not bear the name ──

before_start : (starts name v : List ℕ) (i : ℕ) → i < start_in starts name → StartsBy starts v i
    → same_name name v ≡ true → ⊥
before_start starts name v i lt by h =
    let e = same_keys name v h in
    let p : start_in starts name ≤ i = subst (λ (u : List ℕ). StartsBy starts u i) (sym e.1) by e.0 in
    omega (arith, p)

pub before_unread : (names : Names) (v : List ℕ) (i : ℕ) → Started names i → i < start_in names.starts v
    → reads_as names v i ≡ false
unfolding reads_as
before_unread names v i by lt =
    fails _ (λ h.
    or_true (same_name v (get_or names.shorts i [])) (same_name v (get_or names.words i []))
    (before_start names.starts v (get_or names.shorts i []) i lt by.0)
    (before_start names.starts v (get_or names.words i []) i lt by.1)
    (and_right (eqb (get_or names.marks i 0) 1) _ h))

-- ── names put in ──

pub put_none : (starts name : List ℕ) (i : ℕ) → get_or name 0 0 ≡ 0 → StartPut starts name i starts
put_none starts name i z = record {
  long = refl;
  own = λ some. absurd (some z);
  lowered = λ v. (omega arith, refl);
  beyond = refl;
}

pub put_some : (starts name : List ℕ) (i r v : ℕ) → buckets ≤ length starts → r ≡ bucket_of name
    → v ≡ at_most i (get_or starts r 0) → StartPut starts name i (set starts r v)
put_some starts name i r v room is least = record {
  long = length-set starts r v;
  own = λ some.
      let e = ap (λ (q : ℕ). get_or after q 0) (sym is) ∙ here in
      omega (arith, e, least, low.0);
  lowered = lowered;
  beyond = drop-set-lt buckets starts r v (omega (arith, is));
}
  where
    after : List ℕ
    after = set starts r v

    here : get_or after r 0 ≡ v
    here = get_or-set_same starts r v 0 (omega (arith, is, room))

    low : (at_most i (get_or starts r 0) ≤ i) × (at_most i (get_or starts r 0) ≤ get_or starts r 0)
    low = most_least i (get_or starts r 0)

    lowered : Lowered starts i after
    lowered u = go (eqb (bucket_of u) r) refl
      where
        go : (b : Bool) → eqb (bucket_of u) r ≡ b
            → (start_in after u ≤ start_in starts u) × (at_most i (start_in after u) ≡ at_most i (start_in starts u))
        go true t =
            let same : bucket_of u ≡ r = eqb-true _ _ t in
            let e : start_in after u ≡ v = ap (λ (q : ℕ). get_or after q 0) same ∙ here in
            let s : start_in starts u ≡ get_or starts r 0 = ap (λ (q : ℕ). get_or starts q 0) same in (
              omega (arith, e, s, least, low.1),
              ap (at_most i) e ∙ most_below i v (omega (arith, least, low.0)) ∙ least ∙ ap (at_most i) (sym s),
            )
        go false t =
            let e : start_in after u ≡ start_in starts u =
            get_or-set_other starts r (bucket_of u) v 0 (eqb-false _ _ t) in
            (omega (arith, e), ap (at_most i) e)
