-- The numbers of a table's records: each is the true one, and an old table has none. [02, R-5]
use mathlib.Core.Path.{◌≡◌, refl, ap, ap₂, sym, subst, ◌∙◌}
use mathlib.Core.List.{List, [], ◌∷◌, ◌++◌, append_assoc}
use Prim.Native.Nat.{ℕ, zero, suc, ◌+◌, ◌*◌, ◌/◌, ◌%◌, ◌≤◌, ◌<◌}
use native.Mathlib.Omega.{arith}
use native.Mathlib.Nat.{zero-add}
use lib.Arith.{mod-mul, digits_div, digits_mod}
use lib.ListN.{length, take, drop, get_or}
use lib.Seq.{take-append_seam, drop-append_seam}
use Rattle.base.proofs.Lists.{between_true}
use Rattle.rules.specs.Trees.{le2}
use Rattle.rules.specs.Editions.{Edition, current}
use Rattle.rules.specs.Fields.{Width, fixed, measured, rest, Field, Description}
use Rattle.rules.specs.Within.{WithinIn, Within}
use Rattle.rules.specs.References.{readers}
use Rattle.rules.specs.Stored.{record_of, kind_in, field_body, head_body, stored_field, stored_field_in, records}
use Rattle.rules.specs.Stored.{records_in}
use Rattle.rules.specs.Stored.{stored_with, stored_in, GoodIn, Good}
use Rattle.rules.specs.Results.{WrongNumberRefused, OldRefused}
use Rattle.laws.proofs.Readers.{and_then, read_two, read_counted, described_in}
use Rattle.laws.proofs.ReadsNumbers.{read_two_le2, skip_le2, read_counted_counted}
use Rattle.laws.proofs.ReadsFields.{label_length, kind_bound}
use Rattle.laws.proofs.Unique.{row_bound, count_bound, described_with, described_stored}
use Rattle.laws.proofs.Counting.{readers_fit}

-- ── what two bytes say ──

two_digits : (n : ℕ) → n % 65536 ≡ (n / 256 % 256) * 256 + n % 256
two_digits n = mod-mul n {m = 256} {c = 256} (omega arith) (omega arith)

pub le2_mod : (n : ℕ) → le2 (n % 65536) ≡ le2 n
unfolding le2
le2_mod n =
    let r : n % 256 < 256 = omega arith in
    let q : n / 256 % 256 < 256 = omega arith in
    let e = two_digits n in
    let a : n % 65536 % 256 ≡ n % 256 = ap (λ (k : ℕ). k % 256) e ∙ digits_mod (n / 256 % 256) r in
    let b : n % 65536 / 256 ≡ n / 256 % 256 = ap (λ (k : ℕ). k / 256) e ∙ digits_div (n / 256 % 256) r in
    rw (a, b) (rw (less_mod (n / 256 % 256) q) refl)
  where
    less_mod : (k : ℕ) → k < 256 → k % 256 ≡ k
    less_mod k lt = omega arith

pub le2_same : (n m : ℕ) → le2 n ≡ le2 m → n % 65536 ≡ m % 65536
unfolding le2
le2_same n m h =
    let a : n % 256 ≡ m % 256 = ap (λ (l : List ℕ). get_or l 0 0) h in
    let b : n / 256 % 256 ≡ m / 256 % 256 = ap (λ (l : List ℕ). get_or l 1 0) h in
    omega (arith, a, b, two_digits n, two_digits m)

-- ── the numbers of records ──

-- equal lists whose fronts are equally long have equal fronts and equal ends
pub front_same : {A : Type 0} (a b c d : List A) → length a ≡ length b → a ++ c ≡ b ++ d → (a ≡ b) × (c ≡ d)
front_same a b c d n h = (
  sym (take-append_seam a c) ∙ ap₂ take n h ∙ take-append_seam b d,
  sym (drop-append_seam a c) ∙ ap₂ drop n h ∙ drop-append_seam b d,
)

-- the length of a record is the same for every number
pub record_length : (n m : ℕ) (f : Field ℕ) → length (stored_field n f) ≡ length (stored_field m f)
unfolding stored_field_in le2
record_length n m f = refl

pub record_number : (n m : ℕ) (f : Field ℕ) → stored_field n f ≡ stored_field m f → le2 n ≡ le2 m
unfolding stored_field_in le2
record_number n m f h = ap (λ (l : List ℕ). take 2 (drop 4 l)) h

pub numbers_same : (a b : ℕ → ℕ) (k : ℕ) (fs : List (Field ℕ)) (r s : List ℕ)
    → records a k fs ++ r ≡ records b k fs ++ s → (j : ℕ) → j < length fs → le2 (a (k + j)) ≡ le2 (b (k + j))
unfolding records_in
numbers_same a b k [] r s h j lt = absurd (omega arith)
numbers_same a b k (f ∷ fs) r s h zero lt =
    let x = stored_field (a k) f in
    let y = stored_field (b k) f in
    let e = front_same x y (records a (suc k) fs ++ r) (records b (suc k) fs ++ s) (record_length (a k) (b k) f)
    (sym (append_assoc x (records a (suc k) fs) r) ∙ h ∙ append_assoc y (records b (suc k) fs) s) in
    let z : k + 0 ≡ k = omega arith in
    rw z (record_number (a k) (b k) f e.0)
numbers_same a b k (f ∷ fs) r s h (suc j) lt =
    let x = stored_field (a k) f in
    let y = stored_field (b k) f in
    let e = front_same x y (records a (suc k) fs ++ r) (records b (suc k) fs ++ s) (record_length (a k) (b k) f)
    (sym (append_assoc x (records a (suc k) fs) r) ∙ h ∙ append_assoc y (records b (suc k) fs) s) in
    let z : k + suc j ≡ suc k + j = omega arith in
    rw z (numbers_same a b (suc k) fs r s e.1 j (omega arith))

-- and equal numbers make equal records
pub records_by : (a b : ℕ → ℕ) (k : ℕ) (fs : List (Field ℕ))
    → ((j : ℕ) → j < length fs → le2 (a (k + j)) ≡ le2 (b (k + j))) → records a k fs ≡ records b k fs
unfolding records_in stored_field_in
records_by a b k [] h = refl
records_by a b k (f ∷ fs) h =
    let z : k + 0 ≡ k = omega arith in
    let e : le2 (a k) ≡ le2 (b k) = rw z at (h 0 (omega arith)) in
    let one : stored_field (a k) f ≡ stored_field (b k) f =
    ap (λ (l : List ℕ). record_of (kind_in current f.width) (l ++ field_body f)) e in
    ap₂ {C = List ℕ} (λ (x y : List ℕ). x ++ y) one
    (records_by a b (suc k) fs (λ j lt.
    let m : k + suc j ≡ suc k + j = omega arith in rw m at (h (suc j) (omega arith))))

wrong_number_bad : (d : Description) → Within d → (numbers : ℕ → ℕ) (i : ℕ) → i < length d.fields
    → (numbers i % 65536 ≡ readers d.fields i → ⊥) → Good (stored_with current numbers d) → ⊥
unfolding stored_in stored_with
wrong_number_bad d w numbers i lt ne g =
    let one : g.description ≡ d =
    sym (described_stored current g.description g.within) ∙ ap (described_in current) g.is_stored
    ∙ described_with current numbers d w in
    let same : stored_in current d ≡ stored_with current numbers d =
    subst (λ (c : Description). stored_in current c ≡ stored_with current numbers d) one g.is_stored in
    let head = record_of 1 (head_body d) in
    let e = front_same head head _ _ refl same in
    let n = numbers_same (readers d.fields) numbers 0 d.fields _ _ e.1 i lt in
    let n' : le2 (readers d.fields i) ≡ le2 (numbers i) = rw zero-add at n in
    let m = le2_same (readers d.fields i) (numbers i) n' in
    let fit = readers_fit d w i in
    ne (omega (arith, m, fit))

pub wrong_number_refused : WrongNumberRefused
wrong_number_refused d w numbers i lt ne =
    let bad = wrong_number_bad d w numbers i lt ne in (bad, λ a p. p (no bad))

-- ── the kind of the first field's record ──

unfoldable first_kind : List ℕ → ℕ
first_kind s =
    and_then (read_two (drop 2 (drop 2 s))) (λ row s₁.
    and_then (read_two s₁) (λ count s₂.
    and_then (read_counted s₂) (λ name s₃. (read_two (drop 2 s₃)).0)))

abbrev made : List ℕ → ℕ → List (Field ℕ) → Description
made name row l = record { name = name; row_width = row; fields = l }

first_kind_lem : (e : Edition) (name : List ℕ) (row : ℕ) (l : List (Field ℕ)) → WithinIn e (made name row l)
    → (v : Width ℕ) × (first_kind (stored_in e (made name row l)) ≡ kind_in e v)
unfolding first_kind stored_in stored_with records_in stored_field_in head_body
first_kind_lem e name row [] w = absurd (omega (arith, between_true 1 0 e.fields w.count))
first_kind_lem e name row (f ∷ fs) w =
    let short : length name < 65536 = omega (arith, label_length name w.name) in (
      f.width,
      simp (
        append_assoc,
        skip_le2,
        read_two_le2 row (row_bound row w.row),
        read_two_le2 (suc (length fs)) (count_bound e (suc (length fs)) w.count),
        read_counted_counted name short,
      ) (ap (λ (p : ℕ × List ℕ). p.0)
          (ap read_two (skip_le2 _ _) ∙ read_two_le2 (kind_in e f.width) (kind_bound e f.width) _)),
    )

new_kind : (w : Width ℕ) → 12 ≤ kind_in current w
new_kind (fixed n) = omega arith
new_kind (measured u t) = omega arith
new_kind rest = omega arith

kind_most : (e : Edition) (w : Width ℕ) → kind_in e w ≤ e.fixed_kind + 2
kind_most e (fixed n) = omega arith
kind_most e (measured u t) = omega arith
kind_most e rest = omega arith

not_both_good : (e : Edition) → e.fixed_kind ≡ 2 → (table : List ℕ) → GoodIn e table → Good table → ⊥
not_both_good edition two table old good =
    let c = old.description in
    let d = good.description in
    let a = first_kind_lem edition c.name c.row_width c.fields old.within in
    let b = first_kind_lem current d.name d.row_width d.fields good.within in
    let e : kind_in edition a.0 ≡ kind_in current b.0 =
    sym a.1 ∙ ap first_kind (old.is_stored ∙ sym good.is_stored) ∙ b.1 in
    omega (arith, e, two, kind_most edition a.0, new_kind b.0)

pub old_refused : OldRefused
old_refused e two table old = let bad = not_both_good e two table old in (bad, λ a p. p (no bad))
