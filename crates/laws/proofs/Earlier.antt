-- An edition with wider limits and the same stored form keeps what an edition with narrower ones accepts.
-- [02, R-7] [02, R-10]
use mathlib.Core.Path.{◌≡◌, refl, ap, ap₂, sym, subst, ◌∙◌}
use mathlib.Core.Bool.{Bool, true, false}
use mathlib.Core.List.{List, [], ◌∷◌, ◌++◌}
use Prim.Native.Nat.{ℕ, suc, ◌+◌, ◌≤◌}
use native.Mathlib.Omega.{arith}
use lib.ListN.{length}
use borrow.Author.Tests.{ltb-false, le-ltb}
use Rattle.base.proofs.Lists.{between_true, true_between}
use Rattle.rules.specs.Editions.{Edition, current, earlier}
use Rattle.rules.specs.Fields.{Width, fixed, measured, rest, Field, Description}
use Rattle.rules.specs.Within.{keeps_operators_in, Keeps, WithinIn}
use Rattle.rules.specs.References.{readers}
use Rattle.rules.specs.Stored.{record_of, kind_in, stored_field_in, records_in, head_body, stored_with, stored_in}
use Rattle.rules.specs.Stored.{GoodIn, Good}
use Rattle.rules.specs.Reading.{is_too_long_in, reading_in}
use Rattle.rules.specs.Answers.{Answer, accepted}
use Rattle.rules.specs.Promises.{Outcome, leaves, not_good, by_table, reading_answer, packet_outcome_in}
use Rattle.rules.specs.Promises.{ChecksTableIn, ReadsPacketIn}
use Rattle.rules.specs.Results.{EarlierStaysGood, FewGoodEarlier, LargerRefusedEarlier, LargerUnreadEarlier}
use Rattle.rules.specs.Results.{TableAnswersStay, PacketAnswersStay}
use Rattle.laws.proofs.OperatorLaws.{Widens, operators_more, fields_like}
use Rattle.laws.proofs.Unique.{stored_unique}
use Rattle.laws.proofs.Decidable.{good_decidable_in}

-- editions differ in how many fields are within the limits, and in the operators
pub within_by : (a b : Edition) (d : Description) → WithinIn a d → length d.fields ≤ b.fields
    → Keeps (keeps_operators_in b) d.fields → WithinIn b d
within_by a b d w few known =
    let c = between_true 1 (length d.fields) a.fields w.count in
    record {
      name = w.name;
      row = w.row;
      count = true_between 1 (length d.fields) b.fields c.0 few;
      form = w.form;
      operators = known;
      size = w.size;
      names = w.names;
      types = w.types;
      rests = w.rests;
      rows = w.rows;
    }

module _ (a b : Edition) (wide : Widens a b) where
  pub within_more : (d : Description) → WithinIn a d → WithinIn b d
  within_more d w =
      let c = between_true 1 (length d.fields) a.fields w.count in
      within_by a b d w (omega (arith, c.1, wide.fields)) (operators_more a b wide d.fields w.operators)

  -- ── packets ──

  module _ (d : Description) (known : Keeps (keeps_operators_in a) d.fields) (packet : List ℕ) where
    short_more : is_too_long_in a packet ≡ false → is_too_long_in b packet ≡ false
    short_more e =
        le-ltb b.packet (length packet) (omega (arith, ltb-false a.packet (length packet) e, wide.packet))

    pub reading_like : is_too_long_in a packet ≡ false → reading_in a d packet ≡ reading_in b d packet
    unfolding reading_in
    reading_like e = rw (e, short_more e) (fields_like a b wide packet d.fields [] known [] 0)

    module _ (run : List ℕ) where
      outcome_like : is_too_long_in a packet ≡ false → packet_outcome_in a d packet run ≡ packet_outcome_in b d packet
          run
      unfolding packet_outcome_in
      outcome_like e = rw (reading_like e, e, short_more e)

      outcome_long : is_too_long_in a packet ≡ true → (packet_outcome_in a d packet run).answer.number ≡ 22
      unfolding packet_outcome_in reading_in reading_answer
      outcome_long e = rw e refl

      pub outcome_more : ((packet_outcome_in a d packet run).answer.number ≡ 22 → ⊥)
          → packet_outcome_in a d packet run ≡ packet_outcome_in b d packet run
      outcome_more ne = go (is_too_long_in a packet) refl
        where
          go : (x : Bool) → is_too_long_in a packet ≡ x → packet_outcome_in a d packet run ≡ packet_outcome_in b d
              packet run
          go true e = absurd (ne (outcome_long e))
          go false e = outcome_like e

-- ── editions of one stored form ──

pub record AlikeStored (a b : Edition) : Type 0 where
  pub kind : a.fixed_kind ≡ b.fixed_kind
  pub keeps : a.keeps_readers ≡ b.keeps_readers

module _ (a b : Edition) (wide : Widens a b) (alike : AlikeStored a b) where
  kind_like : (w : Width ℕ) → kind_in a w ≡ kind_in b w
  kind_like (fixed n) = alike.kind
  kind_like (measured u t) = ap (λ (k : ℕ). k + 1) alike.kind
  kind_like rest = ap (λ (k : ℕ). k + 2) alike.kind

  records_like : (numbers : ℕ → ℕ) (i : ℕ) (l : List (Field ℕ)) → records_in a numbers i l ≡ records_in b numbers i l
  unfolding records_in stored_field_in
  records_like numbers i [] = refl
  records_like numbers i (f ∷ l) =
      let one : stored_field_in a (numbers i) f ≡ stored_field_in b (numbers i) f =
      rw (kind_like f.width, alike.keeps) refl in
      ap₂ {C = List ℕ} (λ (r s : List ℕ). r ++ s) one (records_like numbers (suc i) l)

  pub stored_like : (d : Description) → stored_in a d ≡ stored_in b d
  unfolding stored_in stored_with
  stored_like d =
      ap (λ (l : List ℕ). record_of 1 (head_body d) ++ (l ++ record_of 5 [])) (records_like (readers d.fields) 0
      d.fields)

  pub good_more : (table : List ℕ) → GoodIn a table → GoodIn b table
  good_more table g = record {
    description = g.description;
    within = within_more a b wide g.description g.within;
    is_stored = sym (stored_like g.description) ∙ g.is_stored;
  }

  -- with what the theorems say of it
  pub stays_good : (table : List ℕ) (old : GoodIn a table)
      → (good : GoodIn b table) × (good.description ≡ old.description) × (stored_in b old.description ≡ table)
  unfolding good_more
  stays_good table old = (good_more table old, refl, sym (stored_like old.description) ∙ old.is_stored)

  -- a good table whose description keeps the narrower limits
  pub good_less : (table : List ℕ) (good : GoodIn b table) → length good.description.fields ≤ a.fields
      → Keeps (keeps_operators_in a) good.description.fields
      → (old : GoodIn a table) × (old.description ≡ good.description)
  good_less table good few known = (
    record {
      description = good.description;
      within = within_by b a good.description good.within few known;
      is_stored = stored_like good.description ∙ good.is_stored;
    },
    refl,
  )

  -- a table of both is that of one description
  pub good_like : (table : List ℕ) (g : GoodIn a table) (h : GoodIn b table) → g.description ≡ h.description
  good_like table g h =
      stored_unique b g.description h.description (within_more a b wide g.description g.within) h.within
      (sym (stored_like g.description) ∙ (g.is_stored ∙ sym h.is_stored))

  -- ── answers ──

  -- what the narrower edition gives by a good table stays, where the wider one gives the same by its description
  stays : {A : Type 0} (table : List ℕ) (v w : Description → A) (none x : A)
      → ((old : Dec (GoodIn a table)) → x ≡ by_table old v none) → (x ≡ none → ⊥)
      → ((d : Description) → WithinIn a d → x ≡ v d → x ≡ w d)
      → (good : Dec (GoodIn b table)) → x ≡ by_table good w none
  stays {A} table v w none x p ne same good = go (good_decidable_in a table) good
    where
      go : Dec (GoodIn a table) → (good : Dec (GoodIn b table)) → x ≡ by_table good w none
      go (yes old) (yes g) =
          same old.description old.within (p (yes old)) ∙ ap w (good_like table old g)
      go (yes old) (no bad) = absurd (bad (good_more table old))
      go (no bad) g = absurd (ne (p (no bad)))

  pub table_stays : (table : List ℕ) (x : Answer) → ChecksTableIn a table x → (x.number ≡ 21 → ⊥)
      → ChecksTableIn b table x
  table_stays table x p ne =
      stays table (λ d. accepted (length table)) (λ d. accepted (length table)) not_good x p
      (λ e. ne (ap (λ (x : Answer). x.number) e)) (λ d w e. e)

  pub packet_stays : (table packet run : List ℕ) (o : Outcome) → ReadsPacketIn a table packet run o
      → (o.answer.number ≡ 21 → ⊥) → (o.answer.number ≡ 22 → ⊥) → ReadsPacketIn b table packet run o
  packet_stays table packet run o p ne long =
      stays table (λ d. packet_outcome_in a d packet run) (λ d. packet_outcome_in b d packet run)
      (leaves not_good run) o p (λ e. ne (ap (λ (x : Outcome). x.answer.number) e))
      (λ d w e.
      e ∙ outcome_more a b wide d w.operators packet run (λ q. long (ap (λ (x : Outcome). x.answer.number) e ∙ q)))

-- ── the earlier edition and the one in force ──

pub earlier_widens : Widens earlier current
earlier_widens = record {
  fields = omega arith;
  packet = omega arith;
  knows = λ o h. h;
  means = λ o h x y. refl;
}

pub earlier_alike : AlikeStored earlier current
earlier_alike = record { kind = refl; keeps = refl }

pub earlier_stays_good : EarlierStaysGood
earlier_stays_good table old = stays_good earlier current earlier_widens earlier_alike table old

pub few_good_earlier : FewGoodEarlier
few_good_earlier table good few =
    good_less earlier current earlier_widens earlier_alike table good few good.within.operators

larger_bad : (table : List ℕ) (good : Good table) → 65 ≤ length good.description.fields → GoodIn earlier table → ⊥
larger_bad table good more old =
    let c = between_true 1 (length old.description.fields) earlier.fields old.within.count in
    let e = good_like earlier current earlier_widens earlier_alike table old good in
    let le : length good.description.fields ≤ earlier.fields =
    subst (λ (d : Description). length d.fields ≤ earlier.fields) e c.1 in
    omega (arith, le, more)

pub larger_refused_earlier : LargerRefusedEarlier
larger_refused_earlier table good more =
    let bad = larger_bad table good more in (bad, λ a p. p (no bad), λ packet run o p. p (no bad))

pub larger_unread_earlier : LargerUnreadEarlier
larger_unread_earlier table good more A a b (yes old) = absurd (larger_bad table good more old)
larger_unread_earlier table good more A a b (no bad) = refl

pub table_answers_stay : TableAnswersStay
table_answers_stay table a p ne = table_stays earlier current earlier_widens earlier_alike table a p ne

pub packet_answers_stay : PacketAnswersStay
packet_answers_stay table packet run o p ne long =
    packet_stays earlier current earlier_widens earlier_alike table packet run o p ne long
