-- Numbers in two bytes, and numbers put into records.
use mathlib.Core.Path.{◌≡◌, refl, ap, sym, ◌∙◌}
use mathlib.Core.Bool.{Bool, true, false}
use mathlib.Core.List.{List, [], ◌∷◌, ◌++◌, append_assoc}
use Prim.Native.Nat.{ℕ, zero, suc, ◌+◌, ◌*◌, ◌-◌, ◌/◌, ◌%◌, ◌≤◌, ◌<◌}
use native.Mathlib.Omega.{arith}
use lib.Dec.{leb, ltb}
use lib.ListN.{length, get_or, set, take, drop, length-append, length-drop, take-append-drop}
use lib.Seq.{
  length-take-le,
  take-append_seam,
  drop-append_seam,
  take-set-le,
  take-set-lt,
  drop-set-lt,
  drop-set-add,
  get_or-drop,
  take-take,
  take-add,
  drop-drop,
  sets-eq,
}
use borrow.Author.Tests.{le-leb, leb-true, ltb-true}
use Rattle.base.specs.Lists.{all}
use Rattle.base.proofs.Lists.{and_left, and_right, fails}
use Rattle.rules.specs.Trees.{le2}
use Rattle.rules.specs.Fields.{Field}
use Rattle.rules.specs.Stored.{record_of, kind_number, field_body, stored_field_in, records_in, records}
use Rattle.laws.specs.Places.{two_at}
use Rattle.references.specs.Numbers.{is_record, numbered}

-- ── numbers in two bytes ──

pub two_mod : (n : ℕ) (r : List ℕ) → two_at (le2 n ++ r) 0 ≡ n % 65536
unfolding two_at le2
two_mod n r =
    let e : n / 256 ≡ 256 * (n / 65536) + n % 65536 / 256 = omega arith in
    rw e (omega arith)

-- ── records ──

-- the record in front of the others
numbered_one : (n : ℕ) (numbers : List ℕ) (kind x : ℕ) (body s : List ℕ) → 6 + length body < 65536
    → numbered (suc n) numbers (record_of kind (le2 x ++ body) ++ s)
    ≡ record_of kind (le2 (get_or numbers 0 0) ++ body) ++ numbered n (drop 1 numbers) s
unfolding numbered le2
numbered_one n numbers kind x body s h =
    let six : ℕ = suc (suc (suc (suc (suc (suc (length body)))))) in
    let m : two_at (record_of kind (le2 x ++ body) ++ s) 0 ≡ six =
    two_mod (4 + length (le2 x ++ body)) ((le2 kind ++ (le2 x ++ body)) ++ s) ∙ omega arith in
    let size = length-append body s in
    let low : leb 6 six ≡ true = le-leb 6 six (omega arith) in
    let high : leb six (length (record_of kind (le2 x ++ body) ++ s)) ≡ true = le-leb six
    (length (record_of kind (le2 x ++ body) ++ s)) (omega (arith, size)) in
    rw (m, low, high, take-append_seam body s, drop-append_seam body s)

-- the record's length fits into two bytes
abbrev fits : Field ℕ → Bool
fits f = ltb (6 + length (field_body f)) 65536

pub numbered_records : (numbers : List ℕ) (old new : ℕ → ℕ) (k : ℕ) (fs : List (Field ℕ)) (r : List ℕ)
    → all (λ f. ltb (6 + length (field_body f)) 65536) fs ≡ true
    → ((j : ℕ) → j < length fs → le2 (get_or numbers j 0) ≡ le2 (new (k + j)))
    → numbered (length fs) numbers (records old k fs ++ r) ≡ records new k fs ++ r
unfolding records_in stored_field_in numbered all
numbered_records numbers old new k [] r h e = refl
numbered_records numbers old new k (f ∷ fs) r h e =
    let body = field_body f in
    let kind = kind_number f.width in
    let small = ltb-true (6 + length body) 65536 (and_left (fits f) (all fits fs) h) in
    let z : k + 0 ≡ k = omega arith in
    let first : le2 (get_or numbers 0 0) ≡ le2 (new k) = e 0 (omega arith) ∙ ap (λ n. le2 (new n)) z in
    let more : (j : ℕ) → j < length fs → le2 (get_or (drop 1 numbers) j 0) ≡ le2 (new (suc k + j)) = λ j lt.
    let n : k + suc j ≡ suc k + j = omega arith in
    let one : 1 + j ≡ suc j = omega arith in
    ap le2 (get_or-drop 1 numbers j 0 ∙ ap (λ n. get_or numbers n 0) one)
    ∙ e (suc j) (omega arith)
    ∙ ap (λ n. le2 (new n)) n in
    let others = records old (suc k) fs in
    ap (numbered (suc (length fs)) numbers) (append_assoc (record_of kind (le2 (old k) ++ body)) others r)
    ∙ numbered_one (length fs) numbers kind (old k) body (others ++ r) small
    ∙ (λ i. record_of kind (first i ++ body)
    ++ numbered_records (drop 1 numbers) old new (suc k) fs r (and_right (fits f) (all fits fs) h) more i)
    ∙ sym (append_assoc (record_of kind (le2 (new k) ++ body)) (records new (suc k) fs) r)

-- ── at a place ──

stays : (n : ℕ) (numbers s : List ℕ) → (6 ≤ two_at s 0 → two_at s 0 ≤ length s → ⊥) → numbered n numbers s ≡ s
unfolding numbered
stays zero numbers s no_record = refl
stays (suc n) numbers s no_record = rw no
  where
    no : is_record s ≡ false
    no =
        fails (is_record s)
        (λ e. no_record (leb-true 6 (two_at s 0) (and_left (leb 6 (two_at s 0)) (leb (two_at s 0) (length s)) e))
        (leb-true (two_at s 0) (length s) (and_right (leb 6 (two_at s 0)) (leb (two_at s 0) (length s)) e)))

two_drop : (s : List ℕ) (at : ℕ) → two_at (drop at s) 0 ≡ get_or s at 0 + 256 * get_or s (at + 1) 0
unfolding two_at
two_drop s at =
    let z : at + 0 ≡ at = omega arith in
    rw (get_or-drop at s 0 0, get_or-drop at s 1 0, z)

-- no record stands at a place
pub numbered_ends : (n : ℕ) (numbers s : List ℕ) (at : ℕ)
    → (6 ≤ get_or s at 0 + 256 * get_or s (at + 1) 0 → get_or s at 0 + 256 * get_or s (at + 1) 0 ≤ length s - at → ⊥)
    → take at s ++ numbered n numbers (drop at s) ≡ s
numbered_ends n numbers s at no_record =
    let t = two_drop s at in
    let l = length-drop at s in
    rw (stays n numbers (drop at s) (λ a b. no_record (omega (arith, a, t)) (omega (arith, b, t, l))))
    (take-append-drop at s)

-- no more records are asked for
pub numbered_done : (numbers s : List ℕ) (at : ℕ) → take at s ++ numbered 0 numbers (drop at s) ≡ s
unfolding numbered
numbered_done numbers s at = take-append-drop at s

-- two bytes put behind the first four of m
put_in : (d : List ℕ) (x y m : ℕ) → 6 ≤ m → m ≤ length d
    → take m (set (set d 4 x) 5 y) ≡ take 4 d ++ (x ∷ y ∷ drop 6 (take m d))
put_in d x y m low high =
    let size = length-take-le m d high in
    rw (take-set-lt m (set d 4 x) 5 y (omega arith), take-set-lt m d 4 x (omega arith))
    (sets-eq (x ∷ y ∷ []) (take m d) 4 (omega (arith, size))
    ∙ append_assoc (take 4 (take m d)) (x ∷ y ∷ []) (drop 6 (take m d))
    ∙ rw (take-take 4 m d (omega arith)))

regroup : (p a b r : List ℕ) → p ++ (a ++ (b ++ r)) ≡ (p ++ (a ++ b)) ++ r
regroup p a b r = sym (append_assoc p (a ++ b) r ∙ ap (λ (l : List ℕ). p ++ l) (append_assoc a b r))

-- a record at a place, with its number put in
pub numbered_next : (n k : ℕ) (numbers s : List ℕ) (at size x y : ℕ) → k < n → 6 ≤ size → at + size ≤ length s
    → size ≡ get_or s at 0 + 256 * get_or s (at + 1) 0 → x ∷ y ∷ [] ≡ le2 (get_or numbers k 0)
    → take at s ++ numbered (n - k) (drop k numbers) (drop at s)
    ≡ take (at + size) (set (set s (at + 4) x) (at + 5) y)
    ++ numbered (n - (k + 1)) (drop (k + 1) numbers) (drop (at + size) (set (set s (at + 4) x) (at + 5) y))
unfolding numbered
numbered_next n k numbers s at size x y lt low high e w =
    let d = drop at s in
    let m = n - (k + 1) in
    let nk : n - k ≡ suc m = omega arith in
    let t : two_at d 0 ≡ size = two_drop s at ∙ sym e in
    let fit : size ≤ length d = omega (arith, length-drop at s) in
    let z : k + 0 ≡ k = omega arith in
    let put = set (set s (at + 4) x) (at + 5) y in
    let front : take (at + size) put ≡ take at s ++ take size (set (set d 4 x) 5 y) =
    take-add at size put
    ∙ rw (
      drop-set-add at (set s (at + 4) x) 5 y,
      drop-set-add at s 4 x,
      take-set-le at (set s (at + 4) x) (at + 5) y (omega arith),
      take-set-le at s (at + 4) x (omega arith),
    ) in
    let back : drop (at + size) put ≡ drop (at + size) s =
    drop-set-lt (at + size) (set s (at + 4) x) (at + 5) y (omega arith)
    ∙ drop-set-lt (at + size) s (at + 4) x (omega arith) in
    rw (
      nk,
      t,
      le-leb 6 size low,
      le-leb size (length d) fit,
      get_or-drop k numbers 0 0,
      z,
      ← w,
      drop-drop 1 k numbers,
      drop-drop size at s,
      front,
      back,
      put_in d x y size low fit,
    )
    (regroup (take at s) (take 4 d) (x ∷ y ∷ drop 6 (take size d))
    (numbered m (drop (k + 1) numbers) (drop (at + size) s)))
