-- Numbers of two bytes each in a state: how often each field is read.
use mathlib.Core.Path.{◌≡◌, refl, ap, sym, ◌∙◌}
use mathlib.Core.List.{List, [], ◌∷◌, ◌++◌}
use Prim.Native.Nat.{ℕ, zero, suc, ◌+◌, ◌*◌, ◌<◌}
use native.Mathlib.Numerals.{add-one}
use native.Mathlib.Omega.{arith}
use lib.ListN.{length, take, drop, get_or, set, length-set, replicate}
use lib.Seq.{get_or-take, get_or-drop, take_all, take-suc, take-suc-set, take-set-le, drop-set-lt}
use lib.Seq.{get_or-set_same, get_or-set_other}
use Rattle.rules.specs.Limits.{fields_most}
use Rattle.laws.specs.Places.{two_at}
use Rattle.texts.specs.StateNumbers.{twos_in}
use Rattle.texts.proofs.NameAreas.{drop_take}

two_drop : (k : ℕ) (b : List ℕ) (i : ℕ) → two_at (drop k b) i ≡ two_at b (k + i)
unfolding two_at
two_drop k b i =
    let e : k + (i + 1) ≡ k + i + 1 = omega arith in rw (get_or-drop k b i 0, get_or-drop k b (i + 1) 0, e) refl

two_take : (n : ℕ) (b : List ℕ) (i : ℕ) → i + 1 < n → two_at (take n b) i ≡ two_at b i
unfolding two_at
two_take n b i h = rw (get_or-take n b i 0 (omega arith), get_or-take n b (i + 1) 0 h) refl

pub twos_length : (n : ℕ) (b : List ℕ) → length (twos_in n b) ≡ n
unfolding twos_in
twos_length zero b = refl
twos_length (suc n) b = ap suc (twos_length n (drop 2 b))

pub twos_take : (n : ℕ) (b : List ℕ) → twos_in n (take (2 * n) b) ≡ twos_in n b
unfolding twos_in
twos_take zero b = refl
twos_take (suc n) b =
    let e : 2 * suc n ≡ 2 + 2 * n = omega arith in
    let first : two_at (take (2 + 2 * n) b) 0 ≡ two_at b 0 = two_take (2 + 2 * n) b 0 (omega arith) in
    let rest : twos_in n (drop 2 (take (2 + 2 * n) b)) ≡ twos_in n (drop 2 b) =
    ap (λ (t : List ℕ). twos_in n t) (drop_take 2 (2 * n) b) ∙ twos_take n (drop 2 b) in
    ap (λ (m : ℕ). twos_in (suc n) (take m b)) e ∙ rw (first, rest) refl

-- n numbers depend on the first 2 * n bytes
pub twos_front : (n : ℕ) (a b : List ℕ) → take (2 * n) a ≡ take (2 * n) b → twos_in n a ≡ twos_in n b
twos_front n a b e = sym (twos_take n a) ∙ ap (λ (t : List ℕ). twos_in n t) e ∙ twos_take n b

pub twos_at : (n : ℕ) (b : List ℕ) (i : ℕ) → i < n → get_or (twos_in n b) i 0 ≡ two_at b (2 * i)
unfolding twos_in
twos_at zero b i h = absurd (omega arith)
twos_at (suc n) b zero h = refl
twos_at (suc n) b (suc i) h =
    let e : 2 * suc i ≡ 2 + 2 * i = omega arith in
    rw e (twos_at n (drop 2 b) i (omega arith) ∙ two_drop 2 b (2 * i))

twos_snoc : (n : ℕ) (b : List ℕ) → twos_in (suc n) b ≡ twos_in n b ++ (two_at b (2 * n) ∷ [])
unfolding twos_in
twos_snoc zero b = refl
twos_snoc (suc n) b =
    let e : 2 * suc n ≡ 2 + 2 * n = omega arith in
    let rest = twos_snoc n (drop 2 b) in
    ap (λ (t : List ℕ). two_at b 0 ∷ t)
    (rest
    ∙ ap (λ (m : ℕ). twos_in n (drop 2 b) ++ (m ∷ []))
    (two_drop 2 b (2 * n) ∙ ap (λ (m : ℕ). two_at b m) (sym e)))

pub twos_more : (n : ℕ) (b : List ℕ) → twos_in (n + 1) b ≡ twos_in n b ++ (two_at b (2 * n) ∷ [])
twos_more n b = ap (λ (m : ℕ). twos_in m b) (add-one n) ∙ twos_snoc n b

pub twos_none : (s counts : List ℕ) → take 0 counts ≡ twos_in 0 s
unfolding twos_in
twos_none s counts = refl

-- one more number is loaded
pub twos_loaded : (s counts : List ℕ) (i v : ℕ) → i < length counts → v ≡ two_at s (2 * i)
    → take i counts ≡ twos_in i s → take (i + 1) (set counts i v) ≡ twos_in (i + 1) s
twos_loaded s counts i v h e so_far =
    ap (λ (m : ℕ). take m (set counts i v)) (add-one i) ∙ take-suc-set counts i v h
    ∙ ap (λ (t : List ℕ). t ++ (v ∷ [])) so_far ∙ ap (λ (m : ℕ). twos_in i s ++ (m ∷ [])) e ∙ sym (twos_more i s)

pub all_loaded : (s counts : List ℕ) (i : ℕ) → i ≡ fields_most → length counts ≡ fields_most
    → take i counts ≡ twos_in i s → counts ≡ twos_in fields_most s
all_loaded s counts i e long h =
    sym (take_all fields_most counts (omega arith)) ∙ ap (λ (n : ℕ). take n counts) (sym e) ∙ h
    ∙ ap (λ (n : ℕ). twos_in n s) e

pub all_saved : (s counts : List ℕ) (i : ℕ) → i ≡ fields_most → twos_in i s ≡ take i counts
    → twos_in fields_most s ≡ take fields_most counts
all_saved s counts i e h =
    ap (λ (n : ℕ). twos_in n s) (sym e) ∙ h ∙ ap (λ (n : ℕ). take n counts) e

-- one more number is saved, by its bytes
module _ (s counts : List ℕ) (i x y : ℕ) (room : 2 * i + 1 < length s) where
  wrote : List ℕ
  wrote = set (set s (2 * i) x) (2 * i + 1) y

  two_wrote : two_at wrote (2 * i) ≡ x + 256 * y
  unfolding two_at wrote
  two_wrote =
      let long : 2 * i + 1 < length (set s (2 * i) x) = simp length-set room in
      let less : 2 * i < length s = omega arith in
      let first : get_or wrote (2 * i) 0 ≡ x =
      get_or-set_other (set s (2 * i) x) (2 * i + 1) (2 * i) y 0 (λ e. omega arith)
      ∙ get_or-set_same s (2 * i) x 0 less in
      let second : get_or wrote (2 * i + 1) 0 ≡ y = get_or-set_same (set s (2 * i) x) (2 * i + 1) y 0 long in
      rw (first, second) refl

  pub twos_saved : i < length counts → x + 256 * y ≡ get_or counts i 0 → twos_in i s ≡ take i counts
      → twos_in (i + 1) (set (set s (2 * i) x) (2 * i + 1) y) ≡ take (i + 1) counts
  unfolding wrote
  twos_saved less e so_far =
      let front : take (2 * i) wrote ≡ take (2 * i) s =
      take-set-le (2 * i) (set s (2 * i) x) (2 * i + 1) y (omega arith)
      ∙ take-set-le (2 * i) s (2 * i) x (omega arith) in
      twos_more i wrote ∙ ap (λ (t : List ℕ). t ++ (two_at wrote (2 * i) ∷ [])) (twos_front i wrote s front ∙ so_far)
      ∙ ap (λ (m : ℕ). take i counts ++ (m ∷ [])) (two_wrote ∙ e)
      ∙ sym (take-suc counts i 0 less) ∙ ap (λ (m : ℕ). take m counts) (sym (add-one i))

  pub twos_beyond : (k : ℕ) → 2 * i + 1 < k → drop k (set (set s (2 * i) x) (2 * i + 1) y) ≡ drop k s
  twos_beyond k h = drop-set-lt k (set s (2 * i) x) (2 * i + 1) y h ∙ drop-set-lt k s (2 * i) x (omega arith)

-- where no field is read
pub twos_zeros : (n : ℕ) → twos_in n (replicate (2 * n) 0) ≡ replicate n 0
unfolding twos_in two_at
twos_zeros zero = refl
twos_zeros (suc n) =
    let e : 2 * suc n ≡ suc (suc (2 * n)) = omega arith in
    ap (λ (m : ℕ). twos_in (suc n) (replicate m 0)) e ∙ ap (λ (t : List ℕ). 0 ∷ t) (twos_zeros n)
