-- What converting an old table gives, and that a number must be the true one. [02, R-5]
use mathlib.Core.Path.{◌≡◌, refl, ap, sym, ◌∙◌}
use mathlib.Core.Bool.{true, not}
use mathlib.Core.Option.{none}
use mathlib.Core.List.{List, [], ◌∷◌, ◌++◌}
use Prim.Native.Nat.{ℕ, suc, ◌+◌, ◌*◌}
use native.Mathlib.Omega.{arith}
use lib.ListN.{length, take, length-append}
use borrow.Author.Tests.{lt-ltb, le-ltb}
use Rattle.rules.specs.Operators.{is_added}
use Rattle.rules.specs.Trees.{le2, has_operators}
use Rattle.rules.specs.Editions.{current, uncounted}
use Rattle.base.specs.Lists.{all, joined, first_break}
use Rattle.base.proofs.Lists.{and_left, and_right, and_both, between_true}
use Rattle.base.proofs.Breaks.{first_break_cons}
use Rattle.rules.specs.Fields.{Width, fixed, measured, rest, Field, Description, trees}
use Rattle.rules.specs.Within.{keeps_operators_in}
use Rattle.rules.specs.References.{readers}
use Rattle.rules.specs.Stored.{record_of, kind_in, field_body, head_body, stored_field_in, records_in, records}
use Rattle.rules.specs.Stored.{stored_with, stored_in, stored, GoodIn, Good}
use Rattle.rules.specs.Answers.{accepted}
use Rattle.rules.specs.Promises.{Outcome, leaves, delivered, packet_outcome_in, ReadsPacket, ConvertsTable}
use Rattle.rules.specs.Results.{RecordKept, ConvertedGood, ConvertedBytes, OldReading, ConvertedReads}
use Rattle.rules.specs.Results.{OldConverted, OldExactly}
use Rattle.laws.proofs.OperatorLaws.{Widens}
use Rattle.laws.proofs.Earlier.{within_by, within_more, reading_like, outcome_more}
use Rattle.laws.proofs.Unique.{stored_unique}
use Rattle.laws.proofs.Decidable.{good_decidable_in}
use Rattle.laws.proofs.Delivered.{not_refused, written_at_start}

pub uncounted_widens : Widens uncounted current
uncounted_widens = record {
  fields = omega arith;
  packet = omega arith;
  knows = λ o h. refl;
  means = λ o h x y. refl;
}

ten_more : (w : Width ℕ) → kind_in current w ≡ 10 + kind_in uncounted w
ten_more (fixed n) = refl
ten_more (measured u t) = refl
ten_more rest = refl

pub record_kept : RecordKept
unfolding stored_field_in
record_kept n f = (refl, ap (λ (k : ℕ). record_of k (le2 n ++ field_body f)) (ten_more f.width))

-- ── the outcome ──

module _ (table out : List ℕ) where
  -- what was accepted was written: the table of the description
  was_good : (n : ℕ) (after : List ℕ) → ConvertsTable table out (leaves (accepted n) after)
      → (old : GoodIn uncounted table) × (take n after ≡ stored old.description)
      × (n ≡ length (stored old.description))
  was_good n after p = go (good_decidable_in uncounted table)
    where
      go : Dec (GoodIn uncounted table)
          → (old : GoodIn uncounted table) × (take n after ≡ stored old.description)
          × (n ≡ length (stored old.description))
      go (yes old) =
          let q = written_at_start (stored old.description) out after n (p (yes old)) in
          (old, q.2, q.0)
      go (no bad) = absurd (not_refused n 20 0 after out (p (no bad)))

-- the table of an old description is good
becomes : {table : List ℕ} (new : List ℕ) (old : GoodIn uncounted table) → new ≡ stored old.description
    → (good : Good new) × (good.description ≡ old.description)
becomes new old e = (
  record {
    description = old.description;
    within = within_more uncounted current uncounted_widens old.description old.within;
    is_stored = sym e;
  },
  refl,
)

pub converted_good : ConvertedGood
converted_good table out after n p =
    let q = was_good table out n after p in
    let g = becomes (take n after) q.0 q.1 in
    (q.0, g.0, g.1)

-- the records of both editions
old_joined : (numbers : ℕ → ℕ) (k : ℕ) (fs : List (Field ℕ))
    → records_in uncounted numbers k fs ≡ joined (λ f. record_of (kind_in uncounted f.width) (field_body f)) fs
unfolding records_in stored_field_in joined
old_joined numbers k [] = refl
old_joined numbers k (f ∷ fs) =
    ap (λ (l : List ℕ). record_of (kind_in uncounted f.width) (field_body f) ++ l) (old_joined numbers (suc k) fs)

two_more : (numbers : ℕ → ℕ) (k : ℕ) (fs : List (Field ℕ))
    → length (records numbers k fs) ≡ length (records_in uncounted numbers k fs) + 2 * length fs
unfolding records_in stored_field_in le2
two_more numbers k [] = omega arith
two_more numbers k (f ∷ fs) =
    omega (
      arith,
      two_more numbers (suc k) fs,
      length-append (field_body f) (records numbers (suc k) fs),
      length-append (field_body f) (records_in uncounted numbers (suc k) fs),
    )

pub converted_bytes : ConvertedBytes
unfolding stored_in stored_with
converted_bytes table out after n p =
    let q = was_good table out n after p in
    let d = q.0.description in
    let fs = d.fields in
    let first = record_of 1 (head_body d) in
    let last = record_of 5 [] in
    let old = records_in uncounted (readers fs) 0 fs in
    let new = records (readers fs) 0 fs in
    let is : first ++ (old ++ last) ≡ table = q.0.is_stored in (
      first,
      last,
      fs,
      sym is ∙ ap (λ (l : List ℕ). first ++ (l ++ last)) (old_joined (readers fs) 0 fs),
      q.1,
      q.2 ∙ omega (
        arith,
        two_more (readers fs) 0 fs,
        ap length is,
        length-append first (old ++ last),
        length-append old last,
        length-append first (new ++ last),
        length-append new last,
      ),
    )

pub old_reading : OldReading
old_reading d w packet le =
    sym (reading_like uncounted current uncounted_widens d w.operators packet (le-ltb uncounted.packet
    (length packet) le))

pub converted_reads : ConvertedReads
converted_reads table out after n p packet run o r long =
    let q = converted_good table out after n p in
    go q.0 q.1 q.2
  where
    go : (old : GoodIn uncounted table) (good : Good (take n after)) → good.description ≡ old.description
        → ReadsPacket (take n after) packet run o
    go old good same (yes g) =
        let d = old.description in
        let one : g.description ≡ d =
        stored_unique current g.description good.description g.within good.within
        (g.is_stored ∙ sym good.is_stored) ∙ same in
        let e : o ≡ packet_outcome_in uncounted d packet run = r (yes old) in
        e ∙ outcome_more uncounted current uncounted_widens d old.within.operators packet run
        (λ z. long (ap (λ (x : Outcome). x.answer.number) e ∙ z))
        ∙ ap (λ (x : Description). packet_outcome_in current x packet run) (sym one)
    go old good same (no bad) = absurd (bad good)

pub old_converted : OldConverted
unfolding delivered
old_converted table old out o p =
    let w = stored old.description in (
      λ room. ap (λ (x : Outcome). x.answer) (p (yes old)) ∙ rw (le-ltb (length out) (length w) room) refl,
      λ short. p (yes old) ∙ rw (lt-ltb (length out) (length w) short) refl,
    )

-- ── descriptions of old tables ──

kept_none_added : (before fs : List (Field ℕ)) → first_break (keeps_operators_in uncounted) before fs ≡ none
    → all (λ f. all (has_operators (λ o. not (is_added o))) (trees f)) fs ≡ true
unfolding all
kept_none_added before [] h = refl
kept_none_added before (f ∷ fs) h =
    let k = first_break_cons (keeps_operators_in uncounted) before f fs h in
    and_both (all (has_operators (λ o. not (is_added o))) (trees f)) _ k.0
    (kept_none_added (before ++ (f ∷ [])) fs k.1)

none_added_kept : (before fs : List (Field ℕ))
    → all (λ f. all (has_operators (λ o. not (is_added o))) (trees f)) fs ≡ true
    → first_break (keeps_operators_in uncounted) before fs ≡ none
unfolding all first_break
none_added_kept before [] h = refl
none_added_kept before (f ∷ fs) h =
    let plain = all (has_operators (λ o. not (is_added o))) (trees f) in
    rw (and_left plain _ h) (none_added_kept (before ++ (f ∷ [])) fs (and_right plain _ h))

pub old_exactly : OldExactly
old_exactly d = (
  λ w. (
    within_more uncounted current uncounted_widens d w,
    (between_true 1 (length d.fields) 64 w.count).1,
    kept_none_added [] d.fields w.operators,
  ),
  λ w few plain. within_by current uncounted d w few (none_added_kept [] d.fields plain),
)
