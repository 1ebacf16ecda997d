-- Records that stand in bytes: where they end, and whose they are.
use mathlib.Core.Path.{◌≡◌, refl, ap, sym, ◌∙◌}
use mathlib.Core.Bool.{Bool, true, ◌&&◌}
use mathlib.Core.List.{List, [], ◌∷◌, ◌++◌, map, append_assoc}
use mathlib.Core.Option.{none}
use Prim.Native.Nat.{ℕ, zero, suc, ◌+◌, ◌≤◌, ◌<◌}
use native.Mathlib.Omega.{arith}
use lib.Dec.{leb}
use lib.ListN.{length, length-append, take, drop, take-append-drop}
use lib.Seq.{take-append_seam, drop-append_seam, take-append-le, drop-append-le}
use borrow.Author.Tests.{leb-true, le-leb}
use Rattle.base.specs.Lists.{all, first_break}
use Rattle.base.proofs.Lists.{and_both}
use Rattle.base.proofs.Breaks.{and_true, all_cons, first_break_cons}
use Rattle.rules.specs.Trees.{le2, is_small}
use Rattle.rules.specs.Fields.{Field, trees}
use Rattle.rules.specs.Editions.{current}
use Rattle.rules.specs.Within.{is_formed, keeps_form, keeps_size}
use Rattle.rules.specs.Edits.{renumbered}
use Rattle.rules.specs.Stored.{kind_number, field_body, stored_field, stored_field_in, records, records_in}
use Rattle.laws.specs.Places.{two_at}
use Rattle.laws.specs.Records.{whole}
use Rattle.laws.proofs.Readers.{read_two, read_field}
use Rattle.laws.proofs.ReadsNumbers.{read_two_le2}
use Rattle.laws.proofs.ReadsFields.{read_field_stored}
use Rattle.laws.proofs.PlacesOfNumbers.{length_le2}
use Rattle.laws.proofs.RenumberedLaws.{formed_stays, small_stays}
use Rattle.laws.proofs.RecordsJoined.{records_here, records_next}
use Rattle.laws.proofs.FieldSizes.{field_sizes, body_size, record_size}

-- ── fields that are sound ──

-- the field has its form and its expressions their sizes
abbrev pub is_sound : Field ℕ → Bool
is_sound f = is_formed f && all is_small (trees f)

pub sound_parts : (f : Field ℕ) → is_sound f ≡ true → (is_formed f ≡ true) × (all is_small (trees f) ≡ true)
sound_parts f h = and_true (is_formed f) (all is_small (trees f)) h

pub within_sound : (before fs : List (Field ℕ)) → first_break keeps_form before fs ≡ none
    → first_break keeps_size before fs ≡ none → all is_sound fs ≡ true
unfolding all
within_sound before [] formed small = refl
within_sound before (f ∷ fs) formed small =
    let e = first_break_cons keeps_form before f fs formed in
    let s = first_break_cons keeps_size before f fs small in
    and_both (is_sound f) (all is_sound fs) (and_both (is_formed f) (all is_small (trees f)) e.0 s.0)
    (within_sound (before ++ (f ∷ [])) fs e.1 s.1)

pub sound_kept : (before fs : List (Field ℕ)) → all is_sound fs ≡ true
    → (first_break keeps_form before fs ≡ none) × (first_break keeps_size before fs ≡ none)
unfolding first_break
sound_kept before [] h = (refl, refl)
sound_kept before (f ∷ fs) h =
    let b = all_cons is_sound f fs h in
    let s = sound_parts f b.0 in
    let k = sound_kept (before ++ (f ∷ [])) fs b.1 in
    (rw s.0 k.0, rw s.1 k.1)

pub sound_stays : (g : ℕ → ℕ) (fs : List (Field ℕ)) → all is_sound fs ≡ true
    → all is_sound (map (renumbered g) fs) ≡ true
unfolding all
sound_stays g [] h = refl
sound_stays g (f ∷ fs) h =
    let b = all_cons is_sound f fs h in
    let one : is_sound (renumbered g f) ≡ true = rw (formed_stays g f, small_stays g f) b.0 in
    and_both (is_sound (renumbered g f)) (all is_sound (map (renumbered g) fs)) one (sound_stays g fs b.1)

-- ── the first number of a record is its length ──

record_short : (n : ℕ) (f : Field ℕ) → is_sound f ≡ true → length (stored_field n f) < 65536
record_short n f h =
    let s = sound_parts f h in
    omega (arith, record_size n f, body_size f (field_sizes f s.0 s.1))

pub first_number : (n : ℕ) (f : Field ℕ) (r : List ℕ) → is_sound f ≡ true
    → two_at (stored_field n f ++ r) 0 ≡ length (stored_field n f)
unfolding stored_field_in two_at read_two
first_number n f r h =
    let inner = le2 n ++ field_body f in
    let m = 4 + length inner in
    let body = le2 (kind_number f.width) ++ inner in
    let size : m ≡ length (stored_field n f) =
    omega (arith, record_size n f, length-append (le2 n) (field_body f), length_le2 n) in
    let short : m < 65536 = omega (arith, size, record_short n f h) in
    ap (λ (l : List ℕ). (read_two l).0) (append_assoc (le2 m) body r)
    ∙ ap (λ (p : ℕ × List ℕ). p.0) (read_two_le2 m short (body ++ r))
    ∙ size

-- ── records that are known ──

-- the fields es begin with xs where their bytes do
pub record Begun (numbers : ℕ → ℕ) (k : ℕ) (es xs : List (Field ℕ)) (r : List ℕ) : Type 0 where
  pub more : List (Field ℕ)
  pub parts : es ≡ xs ++ more
  pub back : records numbers (k + length xs) more ≡ r

pub begun : (N M : ℕ → ℕ) (j k : ℕ) (xs es : List (Field ℕ)) (r : List ℕ) → all is_sound xs ≡ true
    → all is_sound es ≡ true → records M k es ≡ records N j xs ++ r → Begun M k es xs r
unfolding records_in
begun N M j k [] es r p q h =
    record { more = es; parts = refl; back = records_here M k es ∙ h }
begun N M j k (x ∷ xs) [] r p q h =
    absurd
    (omega (
      arith,
      ap length h,
      length-append (stored_field (N j) x ++ records N (suc j) xs) r,
      length-append (stored_field (N j) x) (records N (suc j) xs),
      record_size (N j) x,
    ))
begun N M j k (x ∷ xs) (f ∷ es) r p q h =
    let a = all_cons is_sound x xs p in
    let b = all_cons is_sound f es q in
    let s = sound_parts x a.0 in
    let t = sound_parts f b.0 in
    let ours = records M (suc k) es in
    let rest = records N (suc j) xs ++ r in
    let e : ◌≡◌ {A = Field ℕ × List ℕ} (f, ours) (x, rest) =
    sym (read_field_stored current (M k) f t.0 t.1 ours)
    ∙ ap (read_field current) (h ∙ append_assoc (stored_field (N j) x) (records N (suc j) xs) r)
    ∙ read_field_stored current (N j) x s.0 s.1 rest in
    let i = begun N M (suc j) (suc k) xs es r a.1 b.1 (ap (λ (v : Field ℕ × List ℕ). v.1) e) in
    record {
      more = i.more;
      parts =
          ap (λ (g : Field ℕ). g ∷ es) (ap (λ (v : Field ℕ × List ℕ). v.0) e)
          ∙ ap (λ (l : List (Field ℕ)). x ∷ l) i.parts;
      back = records_next M k x xs i.more ∙ i.back;
    }

-- ── records that are handed in ──

-- what it says of the first record
whole_first : (n : ℕ) (s : List ℕ) → whole (suc n) s ≡ true
    → (6 ≤ two_at s 0) × (two_at s 0 ≤ length s) × (whole n (drop (two_at s 0) s) ≡ true)
unfolding whole
whole_first n s h =
    let m = two_at s 0 in
    let a = and_true (leb 6 m) (leb m (length s) && whole n (drop m s)) h in
    let b = and_true (leb m (length s)) (whole n (drop m s)) a.1 in
    (leb-true 6 m a.0, leb-true m (length s) b.0, b.1)

whole_none : (s : List ℕ) → whole zero s ≡ true → s ≡ []
unfolding whole
whole_none [] h = refl
whole_none (b ∷ s) h = absurd (let z : ◌≡◌ {A = ℕ} 0 1 = cc in omega arith)

-- bytes are whole records in one number only
pub whole_once : (k m : ℕ) (s : List ℕ) → whole k s ≡ true → whole m s ≡ true → k ≡ m
whole_once zero zero s h i = refl
whole_once zero (suc m) s h i = absurd (omega (arith, ap length (whole_none s h), whole_first m s i))
whole_once (suc k) zero s h i = absurd (omega (arith, ap length (whole_none s i), whole_first k s h))
whole_once (suc k) (suc m) s h i =
    ap suc (whole_once k m (drop (two_at s 0) s) (whole_first k s h).2 (whole_first m s i).2)

-- the records of sound fields are whole
pub sound_whole : (numbers : ℕ → ℕ) (k : ℕ) (gs : List (Field ℕ)) → all is_sound gs ≡ true
    → whole (length gs) (records numbers k gs) ≡ true
unfolding records_in whole
sound_whole numbers k [] h = refl
sound_whole numbers k (f ∷ gs) h =
    let b = all_cons is_sound f gs h in
    let one = stored_field (numbers k) f in
    let r = records numbers (suc k) gs in
    let six : 6 ≤ length one = omega (arith, record_size (numbers k) f) in
    let fits : length one ≤ length (one ++ r) = omega (arith, length-append one r) in
    rw (
      first_number (numbers k) f r b.0,
      le-leb 6 (length one) six,
      le-leb (length one) (length (one ++ r)) fits,
      drop-append_seam one r,
    ) (sound_whole numbers (suc k) gs b.1)

-- the fields es fall apart where the bytes do
pub record Apart (numbers : ℕ → ℕ) (k n : ℕ) (es : List (Field ℕ)) (s r : List ℕ) : Type 0 where
  pub front : List (Field ℕ)
  pub more : List (Field ℕ)
  pub parts : es ≡ front ++ more
  pub fore : records numbers k front ≡ s
  pub back : records numbers (k + length front) more ≡ r
  pub count : length front ≡ n

first_two : (s r : List ℕ) → 2 ≤ length s → two_at (s ++ r) 0 ≡ two_at s 0
unfolding two_at
first_two [] r h = absurd (omega arith)
first_two (a ∷ []) r h = absurd (omega arith)
first_two (a ∷ b ∷ s) r h = refl

-- where the bytes begin with a whole record, so do those of the fields
first_apart : (n m : ℕ) (s r : List ℕ) (f : Field ℕ) (back : List ℕ) → whole (suc n) s ≡ true → is_sound f ≡ true
    → stored_field m f ++ back ≡ s ++ r
    → (stored_field m f ++ drop (length (stored_field m f)) s ≡ s)
    × (back ≡ drop (length (stored_field m f)) s ++ r)
    × (whole n (drop (length (stored_field m f)) s) ≡ true)
first_apart n m s r f back w sound h =
    let one = stored_field m f in
    let l = length one in
    let v = whole_first n s w in
    let size : two_at s 0 ≡ l =
    sym (first_two s r (omega (arith, v))) ∙ ap (λ (t : List ℕ). two_at t 0) (sym h) ∙ first_number m f back sound in
    let fits : l ≤ length s = omega (arith, size, v) in
    let first : one ≡ take l s =
    sym (take-append_seam one back) ∙ ap (take l) h ∙ take-append-le l s r fits in (
      ap (λ (t : List ℕ). t ++ drop l s) first ∙ take-append-drop l s,
      sym (drop-append_seam one back) ∙ ap (drop l) h ∙ drop-append-le l s r fits,
      ap (λ (k : ℕ). whole n (drop k s)) (sym size) ∙ v.2,
    )

pub apart : (n : ℕ) (s r : List ℕ) (M : ℕ → ℕ) (k : ℕ) (es : List (Field ℕ)) → whole n s ≡ true
    → all is_sound es ≡ true → records M k es ≡ s ++ r → Apart M k n es s r
unfolding records_in
apart zero s r M k es w q h =
    let e = whole_none s w in
    record {
      front = [];
      more = es;
      parts = refl;
      fore = sym e;
      back = records_here M k es ∙ h ∙ ap (λ (l : List ℕ). l ++ r) e;
      count = refl;
    }
apart (suc n) s r M k [] w q h = absurd (omega (arith, ap length h, length-append s r, whole_first n s w))
apart (suc n) s r M k (f ∷ es) w q h =
    let one = stored_field (M k) f in
    let b = all_cons is_sound f es q in
    let e = first_apart n (M k) s r f (records M (suc k) es) w b.0 h in
    let i = apart n (drop (length one) s) r M (suc k) es e.2 b.1 e.1 in
    record {
      front = f ∷ i.front;
      more = i.more;
      parts = ap (λ (t : List (Field ℕ)). f ∷ t) i.parts;
      fore = ap (λ (t : List ℕ). one ++ t) i.fore ∙ e.0;
      back = records_next M k f i.front i.more ∙ i.back;
      count = ap suc i.count;
    }
