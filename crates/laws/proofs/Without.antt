-- The edition without the operators of codes 0x13 to 0x15, and the one in force. [02, R-7]
use mathlib.Core.Path.{◌≡◌, refl, ap, sym, subst, ◌∙◌}
use mathlib.Core.Bool.{Bool, true, false, cond, not, false≢true}
use mathlib.Core.List.{List, [], ◌∷◌, ◌++◌}
use mathlib.Core.Option.{none}
use Prim.Native.Nat.{ℕ}
use native.Mathlib.Omega.{arith}
use lib.ListN.{length}
use Rattle.base.specs.Lists.{all, first_break}
use Rattle.base.proofs.Lists.{and_both, between_true}
use Rattle.base.proofs.Breaks.{all_cons, first_break_cons}
use Rattle.rules.specs.declared.Op.{Op}
use Rattle.rules.specs.Editions.{current, without_added}
use Rattle.rules.specs.Operators.{is_added}
use Rattle.rules.specs.Trees.{has_operators}
use Rattle.rules.specs.Values.{Meaning, apply}
use Rattle.rules.specs.Fields.{Field, Description, trees}
use Rattle.rules.specs.Within.{keeps_operators_in}
use Rattle.rules.specs.Stored.{GoodIn, Good}
use Rattle.rules.specs.Reading.{reading_in, reading}
use Rattle.rules.specs.Promises.{Outcome, packet_outcome_in, ReadsPacketIn, ReadsPacket}
use Rattle.rules.specs.Results.{
  NoneAdded,
  WithoutStaysGood,
  NoneAddedGoodWithout,
  NoneAddedReadingStays,
  NoneAddedReadsStay,
  WithoutTableStays,
  WithoutPacketStays,
}
use Rattle.laws.proofs.OperatorLaws.{Widens, fields_like}
use Rattle.laws.proofs.Decidable.{good_decidable_in}
use Rattle.laws.proofs.Earlier.{AlikeStored, stays_good, good_less, good_like, table_stays}

module _ (means : Meaning) where
  -- what it knows, it means as the one in force does
  meant : (o : Op) (b : Bool) → not b ≡ true → (x y : ℕ) → cond b (means o) (apply o) x y ≡ apply o x y
  meant o true h x y = absurd (false≢true h)
  meant o false h x y = refl

  pub without_widens : Widens (without_added means) current
  without_widens = record {
    fields = omega arith;
    packet = omega arith;
    knows = λ o h. refl;
    means = λ o h x y. meant o (is_added o) h x y;
  }

  pub without_alike : AlikeStored (without_added means) current
  without_alike = record { kind = refl; keeps = refl }

  -- ── a description without them ──

  none_added_kept : (before l : List (Field ℕ))
      → all (λ f. all (has_operators (without_added means).knows) (trees f)) l ≡ true
      → first_break (keeps_operators_in (without_added means)) before l ≡ none
  unfolding first_break
  none_added_kept before [] h = refl
  none_added_kept before (f ∷ l) h =
      let e = all_cons (λ g. all (has_operators (without_added means).knows) (trees g)) f l h in
      rw e.0 (none_added_kept (before ++ (f ∷ [])) l e.1)

  kept_none_added : (before l : List (Field ℕ)) → first_break (keeps_operators_in (without_added means)) before l ≡ none
      → all (λ f. all (has_operators (without_added means).knows) (trees f)) l ≡ true
  unfolding all
  kept_none_added before [] h = refl
  kept_none_added before (f ∷ l) h =
      let k = first_break_cons (keeps_operators_in (without_added means)) before f l h in
      and_both (all (has_operators (without_added means).knows) (trees f))
      (all (λ g. all (has_operators (without_added means).knows) (trees g)) l) k.0
      (kept_none_added (before ++ (f ∷ [])) l k.1)

  good_without : (table : List ℕ) (good : Good table) → NoneAdded good.description
      → (old : GoodIn (without_added means) table) × (old.description ≡ good.description)
  good_without table good free =
      let c = between_true 1 (length good.description.fields) current.fields good.within.count in
      good_less (without_added means) current without_widens without_alike table good c.1
      (none_added_kept [] good.description.fields free)

  reading_stays : (d : Description) → NoneAdded d → (packet : List ℕ)
      → reading d packet ≡ reading_in (without_added means) d packet
  unfolding reading_in
  reading_stays d free packet =
      rw (fields_like (without_added means) current without_widens packet d.fields []
      (none_added_kept [] d.fields free) [] 0)

  outcome_stays : (d : Description) → NoneAdded d → (packet run : List ℕ)
      → packet_outcome_in current d packet run ≡ packet_outcome_in (without_added means) d packet run
  unfolding packet_outcome_in
  outcome_stays d free packet run = rw (reading_stays d free packet)

  reads_stay : (table : List ℕ) (good : Good table) → NoneAdded good.description → (packet run : List ℕ)
      (o : Outcome) → (ReadsPacket table packet run o → ReadsPacketIn (without_added means) table packet run o)
      × (ReadsPacketIn (without_added means) table packet run o → ReadsPacket table packet run o)
  reads_stay table good free packet run o = (to, from)
    where
      known : GoodIn (without_added means) table
      known = (good_without table good free).0

      same : (h : Good table) → h.description ≡ good.description
      same h = sym (good_like (without_added means) current without_widens without_alike table known h)
          ∙ (good_without table good free).1

      to : ReadsPacket table packet run o → ReadsPacketIn (without_added means) table packet run o
      to p (yes old) =
          let e = good_like (without_added means) current without_widens without_alike table old good in
          p (yes good) ∙ outcome_stays good.description free packet run
          ∙ sym (ap (λ (d : Description). packet_outcome_in (without_added means) d packet run) e)
      to p (no bad) = absurd (bad known)

      from : ReadsPacketIn (without_added means) table packet run o → ReadsPacket table packet run o
      from p (yes h) =
          let e = (good_without table good free).1 in
          p (yes known) ∙ ap (λ (d : Description). packet_outcome_in (without_added means) d packet run) e
          ∙ sym (outcome_stays good.description free packet run)
          ∙ sym (ap (λ (d : Description). packet_outcome_in current d packet run) (same h))
      from p (no bad) = absurd (bad good)

  -- 22 is the same number of bytes, so no answer but 21 changes
  packet_same : (table packet run : List ℕ) (o : Outcome) → ReadsPacketIn (without_added means) table packet run o
      → (o.answer.number ≡ 21 → ⊥) → ReadsPacket table packet run o
  packet_same table packet run o p ne = go (good_decidable_in (without_added means) table)
    where
      go : Dec (GoodIn (without_added means) table) → ReadsPacket table packet run o
      go (yes old) =
          let good = stays_good (without_added means) current without_widens without_alike table old in
          let free = kept_none_added [] old.description.fields old.within.operators in
          (reads_stay table good.0 (subst NoneAdded (sym good.1) free) packet run o).1 p
      go (no bad) = absurd (ne (ap (λ (x : Outcome). x.answer.number) (p (no bad))))

pub without_stays_good : WithoutStaysGood
without_stays_good means table old =
    stays_good (without_added means) current (without_widens means) (without_alike means) table old

pub none_added_good_without : NoneAddedGoodWithout
none_added_good_without means table good = (
  good_without means table good,
  λ old.
      let e = good_like (without_added means) current (without_widens means) (without_alike means) table old good in
      subst NoneAdded e (kept_none_added means [] old.description.fields old.within.operators),
)

pub none_added_reading_stays : NoneAddedReadingStays
none_added_reading_stays means d free packet = reading_stays means d free packet

pub none_added_reads_stay : NoneAddedReadsStay
none_added_reads_stay means table good free packet run o = reads_stay means table good free packet run o

pub without_table_stays : WithoutTableStays
without_table_stays means table a p ne =
    table_stays (without_added means) current (without_widens means) (without_alike means) table a p ne

pub without_packet_stays : WithoutPacketStays
without_packet_stays means table packet run o p ne = packet_same means table packet run o p ne
