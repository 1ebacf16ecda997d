-- Old tables with the number 0 put into each record, and back.
use mathlib.Core.Path.{◌≡◌, refl, sym, ap, ap₂, ◌∙◌}
use mathlib.Core.Bool.{Bool, true, false, cond}
use mathlib.Core.List.{List, [], ◌∷◌, ◌++◌, append_assoc, append-nil}
use mathlib.Core.Option.{Option, none, some, map, none-ne-some, some-injective}
use Prim.Native.Nat.{ℕ, suc, ◌+◌, ◌*◌, ◌/◌, ◌%◌, ◌≤◌}
use native.Mathlib.Omega.{arith}
use lib.Dec.{leb}
use lib.ListN.{length, take, drop, length-append, length-drop, take-append-drop}
use lib.Seq.{length-take-le, take-append_seam, drop-append_seam, drop-append-le, get_or-take, get_or-drop}
use borrow.Author.Tests.{le-leb, leb-true}
use Rattle.base.specs.Lists.{first_break}
use Rattle.base.proofs.Lists.{and_left, and_right, and_both, between_true, true_between}
use Rattle.base.proofs.Breaks.{first_break_cons}
use Rattle.laws.specs.Places.{IsBytes, two_at}
use Rattle.laws.proofs.PlacesOfNumbers.{length_le2, two_stands}
use Rattle.laws.proofs.Numbers.{le2_same, front_same}
use Rattle.rules.specs.Trees.{le2}
use Rattle.rules.specs.Editions.{current, uncounted}
use Rattle.rules.specs.Fields.{Width, fixed, measured, rest, Field}
use Rattle.rules.specs.Within.{keeps_form, keeps_size}
use Rattle.rules.specs.Stored.{kind_in, field_body, stored_field_in, records_in, records}
use Rattle.references.proofs.NumberLaws.{two_mod}
use Rattle.packets.specs.Conversions.{old_most, widened, is_old, widen_from}
use Rattle.laws.proofs.FieldSizes.{field_sizes, body_size}

-- ── an old record ──

abbrev old : ℕ → Field ℕ → List ℕ
old n f = stored_field_in uncounted n f

abbrev old_records : (ℕ → ℕ) → ℕ → List (Field ℕ) → List ℕ
old_records numbers k fs = records_in uncounted numbers k fs

old_kind : (w : Width ℕ) → (2 ≤ kind_in uncounted w) × (kind_in uncounted w ≤ 4)
    × (kind_in current w ≡ kind_in uncounted w + 10)
old_kind (fixed n) = (omega arith, omega arith, refl)
old_kind (measured u t) = (omega arith, omega arith, refl)
old_kind rest = (omega arith, omega arith, refl)

-- a record's body is not too long
body_short : (f : Field ℕ) → keeps_form [] f ≡ true → keeps_size [] f ≡ true → 6 + length (field_body f) ≤ 426
body_short f form size = body_size f (field_sizes f form size)

module _ (n : ℕ) (f : Field ℕ) (short : 6 + length (field_body f) ≤ 426) (r : List ℕ) where
  old_size : two_at (old n f ++ r) 0 ≡ 4 + length (field_body f)
  unfolding stored_field_in
  old_size =
      let b = field_body f in
      ap (λ (l : List ℕ). two_at l 0) (append_assoc (le2 (4 + length b)) (le2 (kind_in uncounted f.width) ++ b) r)
      ∙ two_mod (4 + length b) ((le2 (kind_in uncounted f.width) ++ b) ++ r) ∙ omega (arith, short)

  old_kind_at : two_at (old n f ++ r) 2 ≡ kind_in uncounted f.width
  unfolding stored_field_in le2 two_at
  old_kind_at =
      let k = old_kind f.width in
      let m = kind_in uncounted f.width in
      two_digits m k.1
    where
      two_digits : (m : ℕ) → m ≤ 4 → m % 256 + 256 * (m / 256 % 256) ≡ m
      two_digits m le = omega arith

  old_length : length (old n f) ≡ 4 + length (field_body f)
  unfolding stored_field_in
  old_length =
      let b = field_body f in
      let k = kind_in uncounted f.width in
      omega (
        arith,
        length-append (le2 (4 + length b)) (le2 k ++ b),
        length-append (le2 k) b,
        length_le2 (4 + length b),
        length_le2 k,
      )

-- ── forth ──

-- an old record with the number 0 is the record of the same field
widened_old : (n : ℕ) (f : Field ℕ) → 6 + length (field_body f) ≤ 426 → widened (old n f) ≡ stored_field_in current 0 f
unfolding stored_field_in le2
widened_old n f short =
    let a : length (old n f) + 2 ≡ 4 + length (le2 0 ++ field_body f) = omega (arith, old_length n f short []) in
    let k = old_kind f.width in
    let b : two_at (old n f) 2 + 10 ≡ kind_in current f.width =
    ap (λ (m : ℕ). m + 10) (ap (λ (l : List ℕ). two_at l 2) (sym (append-nil (old n f))) ∙ old_kind_at n f short [])
    ∙ sym k.2 in
    ap₂ {C = List ℕ} (λ (x y : ℕ). le2 x ++ (le2 y ++ (le2 0 ++ field_body f))) a b

is_old_lem : (n : ℕ) (f : Field ℕ) → 6 + length (field_body f) ≤ 426 → (r : List ℕ) → is_old (old n f ++ r) ≡ true
is_old_lem n f short r =
    let s = old n f ++ r in
    let k = old_kind f.width in
    let z = old_size n f short r in
    let e = old_kind_at n f short r in
    and_both (leb 4 (two_at s 0)) _ (le-leb 4 (two_at s 0) (omega (arith, z)))
    (and_both (leb (two_at s 0) (length s)) _
    (le-leb (two_at s 0) (length s) (omega (arith, z, length-append (old n f) r, old_length n f short r)))
    (rw e (true_between 2 (kind_in uncounted f.width) 4 k.0 k.1)))

pub widen_records : (numbers : ℕ → ℕ) (k : ℕ) (before fs : List (Field ℕ)) (r : List ℕ)
    → first_break keeps_form before fs ≡ none → first_break keeps_size before fs ≡ none
    → widen_from (length fs) (old_records numbers k fs ++ r) ≡ some (records (λ i. 0) k fs ++ r)
unfolding widen_from records_in
widen_records numbers k before [] r hf hs = refl
widen_records numbers k before (f ∷ fs) r hf hs =
    let kf = first_break_cons keeps_form before f fs hf in
    let ks = first_break_cons keeps_size before f fs hs in
    let n = numbers k in
    let short = body_short f kf.0 ks.0 in
    let more = old_records numbers (suc k) fs ++ r in
    let size : two_at (old n f ++ more) 0 ≡ length (old n f) =
    old_size n f short more ∙ sym (old_length n f short more) in
    rw (
      append_assoc (old n f) (old_records numbers (suc k) fs) r,
      is_old_lem n f short more,
      size,
      take-append_seam (old n f) more,
      drop-append_seam (old n f) more,
      widened_old n f short,
      widen_records numbers (suc k) (before ++ (f ∷ [])) fs r kf.1 ks.1,
      append_assoc (stored_field_in current 0 f) (records (λ i. 0) (suc k) fs) r,
    ) refl

-- ── back ──

module _ (s : List ℕ) (b : IsBytes s) (ok : is_old s ≡ true) (low : length s ≤ old_most) where
  abbrev size : ℕ
  size = two_at s 0

  abbrev front : List ℕ
  front = take size s

  least : 4 ≤ size
  least = leb-true _ _ (and_left (leb 4 size) _ ok)

  inside : size ≤ length s
  inside = leb-true _ _ (and_left (leb size (length s)) _ (and_right (leb 4 size) _ ok))

  kind_old : (2 ≤ two_at s 2) × (two_at s 2 ≤ 4)
  kind_old = between_true 2 (two_at s 2) 4 (and_right (leb size (length s)) _ (and_right (leb 4 size) _ ok))

  front_length : length front ≡ size
  front_length = length-take-le size s inside

  kind_same : two_at front 2 ≡ two_at s 2
  unfolding two_at
  kind_same =
      ap₂ {C = ℕ} (λ (x y : ℕ). x + 256 * y) (get_or-take size s 2 0 (omega (arith, least)))
      (get_or-take size s 3 0 (omega (arith, least)))

  -- length, kind, and the rest of the record
  in_parts : s ≡ le2 size ++ (le2 (two_at s 2) ++ (drop 4 front ++ drop size s))
  in_parts =
      let p = (two_stands s 0 b (omega (arith, least, inside))).text in
      let q = (two_stands s 2 b (omega (arith, least, inside))).text in
      let whole : drop 4 s ≡ drop 4 front ++ drop size s =
      ap (λ (l : List ℕ). drop 4 l) (sym (take-append-drop size s))
      ∙ drop-append-le 4 front (drop size s) (omega (arith, front_length, least)) in
      p ∙ ap (λ (l : List ℕ). le2 size ++ l) (q ∙ ap (λ (l : List ℕ). le2 (two_at s 2) ++ l) whole)

  widened_length : length (widened front) ≡ size + 2
  unfolding le2
  widened_length =
      let d = length-drop 4 front in
      omega (arith, d, front_length, least)

  -- what became a field's record was its old one
  front_old : (n : ℕ) (f : Field ℕ) → 6 + length (field_body f) ≤ 426 → (x y : List ℕ)
      → widened front ++ x ≡ stored_field_in current n f ++ y
      → (s ≡ old n f ++ drop size s) × (x ≡ y)
  unfolding stored_field_in le2
  front_old n f short x y e =
      let k = old_kind f.width in
      let a : le2 (length front + 2) ≡ le2 (4 + length (le2 n ++ field_body f)) = ap (λ (l : List ℕ). take 2 l) e in
      let a' = le2_same (length front + 2) (4 + length (le2 n ++ field_body f)) a in
      let z : size ≡ 4 + length (field_body f) = omega (arith, a', front_length, inside, low, short) in
      let both : length (widened front) ≡ length (stored_field_in current n f) = omega (arith, widened_length, z) in
      let q = front_same (widened front) (stored_field_in current n f) x y both e in
      let body : drop 4 front ≡ field_body f = ap (λ (l : List ℕ). drop 6 l) q.0 in
      let c : le2 (two_at front 2 + 10) ≡ le2 (kind_in current f.width) =
      ap (λ (l : List ℕ). take 2 (drop 2 l)) q.0 in
      let c' = le2_same (two_at front 2 + 10) (kind_in current f.width) c in
      let kind : two_at s 2 ≡ kind_in uncounted f.width =
      omega (arith, c', kind_same, kind_old, k.0, k.1, k.2) in
      let parts : le2 size ++ (le2 (two_at s 2) ++ (drop 4 front ++ drop size s)) ≡ old n f ++ drop size s =
      rw (body, kind, z) refl in
      (in_parts ∙ parts, q.1)

pub widen_back : (numbers : ℕ → ℕ) (k : ℕ) (before fs : List (Field ℕ)) (s r : List ℕ) → IsBytes s
    → length s ≤ old_most → first_break keeps_form before fs ≡ none → first_break keeps_size before fs ≡ none
    → widen_from (length fs) s ≡ some (records numbers k fs ++ r) → s ≡ old_records numbers k fs ++ r
unfolding widen_from records_in
widen_back numbers k before [] s r b low hf hs e = some-injective _ _ e
widen_back numbers k before (f ∷ fs) s r b low hf hs e =
    go (is_old s) refl (widen_from (length fs) (drop (two_at s 0) s)) refl e
    (λ c. let len = length-drop (two_at s 0) s in
    widen_back numbers (suc k) (before ++ (f ∷ [])) fs (drop (two_at s 0) s) r
    (λ i. rw (get_or-drop (two_at s 0) s i 0) (b (two_at s 0 + i))) (omega (arith, len, low))
    (first_break_cons keeps_form before f fs hf).1 (first_break_cons keeps_size before f fs hs).1 c)
  where
    more : List ℕ
    more = records numbers (suc k) fs ++ r

    kf : (keeps_form before f ≡ true) × (first_break keeps_form (before ++ (f ∷ [])) fs ≡ none)
    kf = first_break_cons keeps_form before f fs hf

    ks : (keeps_size before f ≡ true) × (first_break keeps_size (before ++ (f ∷ [])) fs ≡ none)
    ks = first_break_cons keeps_size before f fs hs

    go : (x : Bool) → is_old s ≡ x → (y : Option (List ℕ)) → widen_from (length fs) (drop (two_at s 0) s) ≡ y
        → cond x (map (λ (l : List ℕ). widened (take (two_at s 0) s) ++ l) y) none
        ≡ some ((stored_field_in current (numbers k) f ++ records numbers (suc k) fs) ++ r)
        → (widen_from (length fs) (drop (two_at s 0) s) ≡ some (records numbers (suc k) fs ++ r)
        → drop (two_at s 0) s ≡ old_records numbers (suc k) fs ++ r)
        → s ≡ (old (numbers k) f ++ old_records numbers (suc k) fs) ++ r
    go false ok y is h rec = absurd (none-ne-some _ h)
    go true ok none is h rec = absurd (none-ne-some _ h)
    go true ok (some w) is h rec =
        let n = numbers k in
        let whole = some-injective _ _ h ∙ append_assoc (stored_field_in current n f) (records numbers (suc k)
        fs) r in
        let q = front_old s b ok low n f (body_short f kf.0 ks.0) w more whole in
        let ih = rec (is ∙ ap some q.1) in
        q.0 ∙ ap (λ (l : List ℕ). old n f ++ l) ih ∙ sym (append_assoc (old n f) (old_records numbers (suc k) fs) r)
