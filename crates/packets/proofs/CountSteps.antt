-- What the code that counts references is told at its steps.
use mathlib.Core.Path.{◌≡◌, refl, sym, ap, ◌∙◌}
use mathlib.Core.Bool.{true, cond}
use mathlib.Core.List.{List, [], ◌∷◌, ◌++◌}
use Prim.Native.Nat.{ℕ, zero, suc, ◌+◌, ◌-◌, ◌%◌, ◌<◌, ◌≤◌}
use native.Mathlib.Omega.{arith}
use native.Mathlib.Nat.{add-zero, zero-add, sub-zero}
use native.Mathlib.Numerals.{add-one}
use lib.Dec.{eqb}
use lib.ListN.{length, get_or, take}
use Rattle.std.specs.List.{list_all, zip}
use borrow.Author.Tests.{eq-eqb, eqb-true}
use Rattle.base.specs.Lists.{joined}
use Rattle.base.proofs.Lists.{and_left, and_right, and_both}
use Rattle.laws.specs.Places.{two_at}
use Rattle.rules.specs.References.{times}
use Rattle.references.specs.Scans.{codes_from, references}
use Rattle.references.specs.Tallies.{tallied}
use Rattle.references.proofs.TallyLaws.{tallied_length, tallied_append, tallied_at, tallied_small}
use Rattle.writing.specs.declared.spans.Span.{Span}
use Rattle.packets.specs.declared.records.Parts.{Parts}
use Rattle.packets.specs.Parts.{parts_at}
use Rattle.packets.specs.FieldTest.{bytes_in}
use Rattle.packets.specs.CountsTest.{part_reads, record_tallied, reads_from, Zeros, Tallied, kept_from}

-- ── an expression ──

-- an expression of no bytes reads nothing
pub part_none : (s : List ℕ) (p : Span) (own : ℕ) (counts : List ℕ) → p.len ≡ 0
    → counts ≡ tallied own counts (references (bytes_in s p))
unfolding references codes_from tallied joined
part_none s p own counts e =
    let z : p.at + p.len - p.at ≡ 0 = omega (arith, e) in
    rw z refl

-- ── a record ──

pub record_length : (s : List ℕ) (p : Parts) (own : ℕ) (counts : List ℕ)
    → length (record_tallied s p own counts) ≡ length counts
unfolding record_tallied
record_length s p own counts =
    tallied_length own _ (references (bytes_in s p.condition))
    ∙ tallied_length own _ (references (bytes_in s p.constraint))
    ∙ tallied_length own counts (references (bytes_in s p.tree))

-- three tallies are one
record_one : (s : List ℕ) (p : Parts) (own : ℕ) (counts : List ℕ)
    → record_tallied s p own counts ≡ tallied own counts (part_reads s p)
unfolding record_tallied
record_one s p own counts =
    let a = references (bytes_in s p.tree) in
    let b = references (bytes_in s p.constraint) in
    let c = references (bytes_in s p.condition) in
    sym (tallied_append own (tallied own counts a) b c) ∙ sym (tallied_append own counts a (b ++ c))

-- ── all records ──

-- behind i of the count records, the next of which stands at a place
pub record Tallying (s : List ℕ) (count from i at : ℕ) (counts : List ℕ) : Type 0 where
  pub small : (j : ℕ) → j < length counts → get_or counts j 0 < 65536
  pub sum : (j : ℕ) → j < length counts
      → (get_or counts j 0 + reads_from s i (count - i) at j) % 65536 ≡ reads_from s 0 count from j % 65536

pub tally_start : (s : List ℕ) (count from : ℕ) (counts : List ℕ) → Zeros counts → Tallying s count from 0 from counts
tally_start s count from counts z = record {
  small = λ j lt. let e = z j in omega (arith, e);
  sum = λ j lt.
      let e : get_or counts j 0 + reads_from s 0 (count - 0) from j ≡ reads_from s 0 count from j =
      rw (z j, sub-zero count, zero-add) refl in
      ap (λ (n : ℕ). n % 65536) e;
}

pub tally_again : (s : List ℕ) (count from i at : ℕ) (counts : List ℕ) → i < count
    → Tallying s count from i at counts
    → Tallying s count from (i + 1) (parts_at s at).next (record_tallied s (parts_at s at) i counts)
unfolding reads_from
tally_again s count from i at counts lt h =
    let p = parts_at s at in
    let one = record_one s p i counts in
    let m : count - i ≡ suc (count - (i + 1)) = omega arith in
    let n = record_length s p i counts in
    record {
      small = λ j q.
          let here : j < length counts = omega (arith, n, q) in
          rw one (tallied_small i counts (part_reads s p) j here (h.small j here));
      sum = λ j q.
          let here : j < length counts = omega (arith, n, q) in
          let e = ap (λ (l : List ℕ). get_or l j 0) one
          ∙ tallied_at i counts (part_reads s p) j here (h.small j here) in
          let old = h.sum j here in
          let old' : (get_or counts j 0 + (cond (eqb j i) 0 (times j (part_reads s p))
          + reads_from s (suc i) (count - (i + 1)) p.next j)) % 65536 ≡ reads_from s 0 count from j % 65536 =
          rw (m, reads_from) at old in
          let k : i + 1 ≡ suc i = add-one i in
          rw (k, e) (go (get_or counts j 0) (cond (eqb j i) 0 (times j (part_reads s p)))
          (reads_from s (suc i) (count - suc i) p.next j) (rw k at old'));
    }
  where
    go : {t : ℕ} (a b c : ℕ) → (a + (b + c)) % 65536 ≡ t → ((a + b) % 65536 + c) % 65536 ≡ t
    go a b c e = omega (arith, e)

pub tally_done : (s : List ℕ) (count from i at : ℕ) (counts : List ℕ) → count ≤ i → Tallying s count from i at counts
    → Tallied s count from counts
unfolding reads_from
tally_done s count from i at counts le h j lt =
    let z : count - i ≡ 0 = omega arith in
    let e = rw (z, reads_from) at (h.sum j lt) in
    let small = h.small j lt in
    omega (arith, e, small)

-- ── the numbers that are kept ──

kept_behind : (s : List ℕ) (x : ℕ) (places : List ℕ) (counts : ℕ → ℕ) (i n : ℕ)
    → kept_from s (x ∷ places) counts (suc i) n ≡ kept_from s places (λ k. counts (suc k)) i n
unfolding kept_from
kept_behind s x places counts i zero = refl
kept_behind s x places counts i (suc n) =
    let e : suc i + 1 ≡ suc (i + 1) = omega arith in
    rw (e, kept_behind s x places counts (i + 1) n)

-- by pairs of a place and a count
pub kept_zip : (s : List ℕ) (n : ℕ) (places counts : List ℕ) → n ≤ length places → n ≤ length counts
    → list_all (λ q. eqb (two_at s (q.0 + 4)) q.1) (zip (take n places) (take n counts))
    ≡ kept_from s places (λ i. get_or counts i 0) 0 n
unfolding kept_from
kept_zip s zero places counts p c = refl
kept_zip s (suc n) [] counts p c = absurd (omega arith)
kept_zip s (suc n) (x ∷ places) [] p c = absurd (omega arith)
kept_zip s (suc n) (x ∷ places) (y ∷ counts) p c =
    let e : 0 + 1 ≡ suc 0 = omega arith in
    rw (
      e,
      kept_behind s x places (λ i. get_or (y ∷ counts) i 0) 0 n,
      kept_zip s n places counts (omega arith) (omega arith),
    )

-- the first of a pair
pub zip_first : (a b : List ℕ) (k : ℕ) (d : ℕ × ℕ) → k < length (zip a b)
    → ((get_or (zip a b) k d).0 ≡ get_or a k 0) × (k < length a)
zip_first [] b k d h = absurd (omega arith)
zip_first (x ∷ a) [] k d h = absurd (omega arith)
zip_first (x ∷ a) (y ∷ b) zero d h = (refl, omega arith)
zip_first (x ∷ a) (y ∷ b) (suc k) d h = let r = zip_first a b k d (omega arith) in (r.0, omega (arith, r.1))

module _ (s places : List ℕ) (counts : ℕ → ℕ) where
  pub kept_true : (i n : ℕ) → kept_from s places counts i n ≡ true → (j : ℕ) → j < n
      → two_at s (get_or places (i + j) 0 + 4) ≡ counts (i + j)
  unfolding kept_from
  kept_true i zero h j lt = absurd (omega arith)
  kept_true i (suc n) h zero lt =
      rw (add-zero i) (eqb-true _ _ (and_left (eqb (two_at s (get_or places i 0 + 4)) (counts i)) _ h))
  kept_true i (suc n) h (suc j) lt =
      let e : i + suc j ≡ i + 1 + j = omega arith in
      rw e (kept_true (i + 1) n (and_right (eqb (two_at s (get_or places i 0 + 4)) (counts i)) _ h) j (omega arith))

  pub true_kept : (i n : ℕ) → ((j : ℕ) → j < n → two_at s (get_or places (i + j) 0 + 4) ≡ counts (i + j))
      → kept_from s places counts i n ≡ true
  unfolding kept_from
  true_kept i zero h = refl
  true_kept i (suc n) h =
      and_both (eqb (two_at s (get_or places i 0 + 4)) (counts i)) _
      (eq-eqb _ _ (rw (add-zero i) at (h 0 (omega arith))))
      (true_kept (i + 1) n (λ j lt. let e : i + suc j ≡ i + 1 + j = omega arith in rw e at (h (suc j) (omega arith))))

-- by like places and counts
pub kept_like : (s places others : List ℕ) (a b : ℕ → ℕ) (n : ℕ)
    → ((i : ℕ) → i < n → get_or places i 0 ≡ get_or others i 0) → ((i : ℕ) → i < n → a i ≡ b i)
    → (i m : ℕ) → i + m ≤ n → kept_from s places a i m ≡ kept_from s others b i m
unfolding kept_from
kept_like s places others a b n p c i zero le = refl
kept_like s places others a b n p c i (suc m) le =
    rw (p i (omega arith), c i (omega arith), kept_like s places others a b n p c (i + 1) m (omega arith)) refl
