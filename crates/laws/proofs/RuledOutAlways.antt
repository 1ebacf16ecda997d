-- What the promises rule out for all inputs. Of reading a packet: an invented bit total, a run that a refusal changes,
-- 21 for a good table, and anything else for a table that is not good. Of how often a field is read: 21 for a good
-- table. Of converting, and of cutting and putting in: an output that a refusal changes, 21 for a good table; and a
-- place other than 31's.
use mathlib.Core.Path.{◌≡◌, refl, sym, ap, ◌∙◌}
use mathlib.Core.Bool.{Bool, true, false, cond, ◌&&◌, ◌||◌, not}
use mathlib.Core.List.{List}
use mathlib.Core.Option.{Option, none, some}
use Prim.Native.Nat.{ℕ, ◌*◌, ◌<◌}
use native.Mathlib.Omega.{arith}
use lib.Dec.{ltb}
use lib.ListN.{length}
use Rattle.base.specs.Lists.{is_empty}
use Rattle.rules.specs.Fields.{Description}
use Rattle.rules.specs.Within.{Within}
use Rattle.rules.specs.Editions.{current, uncounted}
use Rattle.rules.specs.Edits.{cut, put, first_reader}
use Rattle.rules.specs.References.{readers}
use Rattle.rules.specs.Stored.{stored, GoodIn, Good}
use Rattle.rules.specs.Reading.{Reading, complete, refusing, is_too_long, reading, bit_total}
use Rattle.rules.specs.Answers.{Answer, accepted, refused, of_packet, of_conversion, PacketAnswer, ConversionAnswer}
use Rattle.rules.specs.Promises.{
  Outcome,
  leaves,
  not_good,
  by_table,
  ChecksTable,
  reading_answer,
  run_after,
  packet_outcome,
  packet_outcome_in,
  ReadsPacket,
  overlaid,
  delivered,
  CountsReaders,
  ConvertsTable,
  is_run,
  unless_read,
  by_limits,
  cut_outcome,
  CutsFields,
  Joins,
  by_records,
  put_outcome,
  PutsFields,
}
use Rattle.laws.proofs.Readings.{Told, reading_told}
use Rattle.laws.proofs.Decidable.{within_decidable, good_decidable, good_decidable_in}
use Rattle.laws.proofs.Joining.{joins_decidable}
use Rattle.laws.proofs.Allowed.{table_only, outcome_only, readers_only}

-- ── outcomes ──

-- accepted with the packet's bit total; or refused, with the run as it was
record Fair (packet run : List ℕ) (o : Outcome) : Type 0 where
  total : o.answer.number ≡ 0 → o.answer.amount ≡ bit_total packet
  keeps : (o.answer.number ≡ 0 → ⊥) → o.buffer ≡ run

refused_fair : (packet run : List ℕ) (n p : ℕ) → 0 < n → Fair packet run (leaves (refused n p) run)
refused_fair packet run n p h = record { total = λ e. absurd (omega arith); keeps = λ e. refl }

reading_fair : (packet run : List ℕ) (r : Reading) → Told r
    → Fair packet run (leaves (reading_answer r packet) (run_after r run))
unfolding reading_answer
reading_fair packet run (complete entries) t = record { total = λ e. refl; keeps = λ e. absurd (e refl) }
reading_fair packet run (refusing a) t = record { total = λ e. absurd (omega (arith, t.0, e)); keeps = λ e. refl }

-- of two outcomes of which a test takes one
either : {A : Type 0} (P : A → Type 0) (b : Bool) (x y : A) → P x → P y → P (cond b x y)
either P true x y p q = p
either P false x y p q = q

packet_fair : (d : Description) (packet run : List ℕ) → Fair packet run (packet_outcome d packet run)
unfolding packet_outcome_in
packet_fair d packet run =
    either (Fair packet run) (not (is_too_long packet) && ltb (length run) (4 * length d.fields)) _ _
    (refused_fair packet run 23 0 (omega arith))
    (reading_fair packet run (reading d packet) (reading_told d packet))

table_fair : (table packet run : List ℕ) (good : Dec (Good table))
    → Fair packet run (by_table good (λ d. packet_outcome d packet run) (leaves not_good run))
table_fair table packet run (yes good) = packet_fair good.description packet run
table_fair table packet run (no bad) = refused_fair packet run 21 0 (omega arith)

-- ── for all tables, packets and runs ──

module _ (table packet run after : List ℕ) where
  -- no other bit total is answered
  pub total_only : (n : ℕ) → ReadsPacket table packet run (leaves (accepted n) after) → n ≡ 8 * length packet
  total_only n p =
      let good = good_decidable table in
      let e = p good in
      let f = table_fair table packet run good in
      ap (λ (o : Outcome). o.answer.amount) e ∙ f.total (sym (ap (λ (o : Outcome). o.answer.number) e))

  -- a refusal changes nothing
  pub refusal_keeps : (r : PacketAnswer) → ((of_packet r).number ≡ 0 → ⊥)
      → ReadsPacket table packet run (leaves (of_packet r) after)
      → after ≡ run
  refusal_keeps r n p =
      let good = good_decidable table in
      let e = p good in
      let f = table_fair table packet run good in
      ap (λ (o : Outcome). o.buffer) e ∙ f.keeps (λ z. n (ap (λ (o : Outcome). o.answer.number) e ∙ z))

  -- a table that is not good is 21, whatever the packet
  pub bad_table_only : (r : PacketAnswer) → (Good table → ⊥) → ReadsPacket table packet run (leaves (of_packet r) after)
      → leaves (of_packet r) after ≡ leaves not_good run
  bad_table_only r bad p = p (no bad)

-- ── for all good tables ──

-- 21 for a good table
pub good_checked : (d : Description) → Within d → ChecksTable (stored d) not_good → ⊥
good_checked d w p =
    let z : ◌≡◌ {A = ℕ} 21 0 = ap (λ (a : Answer). a.number) (table_only d not_good w p) in
    omega arith

reading_other : (packet : List ℕ) (r : Reading) → Told r → (reading_answer r packet).number ≡ 21 → ⊥
unfolding reading_answer
reading_other packet (complete entries) t e = omega arith
reading_other packet (refusing a) t e = omega (arith, t.0, e)

-- and for a packet by one
pub good_read : (d : Description) (packet run after : List ℕ) → Within d
    → ReadsPacket (stored d) packet run (leaves not_good after) → ⊥
unfolding packet_outcome_in
good_read d packet run after w p =
    either (λ (o : Outcome). o.answer.number ≡ 21 → ⊥)
    (not (is_too_long packet) && ltb (length run) (4 * length d.fields)) (leaves (refused 23 0) run)
    (leaves (reading_answer (reading d packet) packet) (run_after (reading d packet) run))
    (λ e. omega arith) (reading_other packet (reading d packet) (reading_told d packet))
    (sym (ap (λ (o : Outcome). o.answer.number) (outcome_only d packet run (leaves not_good after) w p)))

-- and for how often a field is read by others
pub good_counted : (d : Description) (i : ℕ) → Within d → CountsReaders (stored d) i not_good → ⊥
good_counted d i w p =
    either (λ (a : Answer). a.number ≡ 21 → ⊥) (ltb i (length d.fields)) (accepted (readers d.fields i))
    (refused 30 0) (λ e. omega arith) (λ e. omega arith)
    (sym (ap (λ (a : Answer). a.number) (readers_only d i not_good w p)))

-- ── an old table converted ── [02, R-5]

-- accepted, or the output as it was; not refused by 21; and no place but 31's
record Delivers (out : List ℕ) (o : Outcome) : Type 0 where
  keeps : (o.answer.number ≡ 0 → ⊥) → o.buffer ≡ out
  good : o.answer.number ≡ 21 → ⊥
  place : (o.answer.number ≡ 31 → ⊥) → o.answer.place ≡ 0

refuses : (out : List ℕ) (n : ℕ) → (n ≡ 21 → ⊥) → Delivers out (leaves (refused n 0) out)
refuses out n other = record { keeps = λ e. refl; good = other; place = λ e. refl }

delivers : (w out : List ℕ) → Delivers out (delivered w out)
unfolding delivered
delivers w out =
    either (Delivers out) (ltb (length out) (length w)) (leaves (refused 11 0) out)
    (leaves (accepted (length w)) (overlaid w out))
    (refuses out 11 (λ e. omega arith))
    (record { keeps = λ e. absurd (e refl); good = λ e. omega arith; place = λ e. refl })

module _ (table out after : List ℕ) where
  -- a refusal changes nothing
  pub conversion_keeps : (r : ConversionAnswer) → ((of_conversion r).number ≡ 0 → ⊥)
      → ConvertsTable table out (leaves (of_conversion r) after) → after ≡ out
  conversion_keeps r n p = go (good_decidable_in uncounted table)
    where
      go : Dec (GoodIn uncounted table) → after ≡ out
      go (yes old) =
          let e = p (yes old) in
          ap (λ (o : Outcome). o.buffer) e
          ∙ (delivers (stored old.description) out).keeps (λ z. n (ap (λ (o : Outcome). o.answer.number) e ∙ z))
      go (no bad) = ap (λ (o : Outcome). o.buffer) (p (no bad))

  -- 21 for an old table that was good
  pub old_converted_good : GoodIn uncounted table → ConvertsTable table out (leaves not_good after) → ⊥
  old_converted_good old p =
      (delivers (stored old.description) out).good (sym (ap (λ (o : Outcome). o.answer.number) (p (yes old))))

  -- a table that was not good is 21, and the output as it was
  pub not_old_only : (r : ConversionAnswer) → (GoodIn uncounted table → ⊥)
      → ConvertsTable table out (leaves (of_conversion r) after) → leaves (of_conversion r) after ≡ leaves not_good out
  not_old_only r bad p = p (no bad)

-- ── fields cut out and put in ── [02, R-4]

limits_delivers : (d : Description) (fits : Dec (Within d)) (out : List ℕ) → Delivers out (by_limits fits out)
limits_delivers d (yes w) out = delivers (stored d) out
limits_delivers d (no beyond) out = refuses out 34 (λ e. omega arith)

unread_delivers : (r : Option ℕ) (out : List ℕ) (o : Outcome) → Delivers out o → Delivers out (unless_read r out o)
unread_delivers none out o p = p
unread_delivers (some i) out o p =
    record { keeps = λ e. refl; good = λ e. omega arith; place = λ e. absurd (e refl) }

cut_delivers : (first last : ℕ) (d : Description) (fits : Dec (Within (cut first last d))) (out : List ℕ)
    → Delivers out (cut_outcome first last d fits out)
unfolding cut_outcome
cut_delivers first last d fits out =
    either (Delivers out) (is_run first last d.fields)
    (unless_read (first_reader first last d.fields) out (by_limits fits out)) (leaves (refused 30 0) out)
    (unread_delivers (first_reader first last d.fields) out (by_limits fits out)
    (limits_delivers (cut first last d) fits out))
    (refuses out 30 (λ e. omega arith))

records_delivers : (at : ℕ) (bytes : List ℕ) (d : Description) (joins : Dec (Joins at bytes d)) (out : List ℕ)
    → Delivers out (by_records joins out)
records_delivers at bytes d (yes j) out = delivers (stored (put at j.fields d)) out
records_delivers at bytes d (no none_do) out = refuses out 34 (λ e. omega arith)

put_delivers : (at : ℕ) (bytes : List ℕ) (d : Description) (joins : Dec (Joins at bytes d)) (out : List ℕ)
    → Delivers out (put_outcome at bytes d joins out)
unfolding put_outcome
put_delivers at bytes d joins out =
    either (Delivers out) (is_empty bytes || ltb (length d.fields) at) (leaves (refused 30 0) out)
    (by_records joins out) (refuses out 30 (λ e. omega arith)) (records_delivers at bytes d joins out)

-- putting in is never 31
put_other : (at : ℕ) (bytes : List ℕ) (d : Description) (joins : Dec (Joins at bytes d)) (out : List ℕ)
    → (put_outcome at bytes d joins out).answer.number ≡ 31 → ⊥
unfolding put_outcome delivered
put_other at bytes d joins out =
    either (λ (o : Outcome). o.answer.number ≡ 31 → ⊥) (is_empty bytes || ltb (length d.fields) at)
    (leaves (refused 30 0) out) (by_records joins out) (λ e. omega arith) (go joins)
  where
    go : (c : Dec (Joins at bytes d)) → (by_records c out).answer.number ≡ 31 → ⊥
    go (yes j) =
        let w = stored (put at j.fields d) in
        either (λ (o : Outcome). o.answer.number ≡ 31 → ⊥) (ltb (length out) (length w))
        (leaves (refused 11 0) out) (leaves (accepted (length w)) (overlaid w out)) (λ e. omega arith)
        (λ e. omega arith)
    go (no none_do) = λ e. omega arith

-- an outcome by a table, of which the description gives such an outcome
module _ (table out after : List ℕ) (result : Description → Outcome) (a : Answer)
    (fair : (d : Description) → Delivers out (result d)) where
  abbrev ByIts : Dec (Good table) → Type 0
  ByIts good = leaves a after ≡ by_table good result (leaves not_good out)

  edit_keeps : (a.number ≡ 0 → ⊥) → (good : Dec (Good table)) → ByIts good → after ≡ out
  edit_keeps n (yes g) e =
      ap (λ (o : Outcome). o.buffer) e
      ∙ (fair g.description).keeps (λ z. n (ap (λ (o : Outcome). o.answer.number) e ∙ z))
  edit_keeps n (no bad) e = ap (λ (o : Outcome). o.buffer) e

  edit_place : (a.number ≡ 31 → ⊥) → (good : Dec (Good table)) → ByIts good → a.place ≡ 0
  edit_place n (yes g) e =
      ap (λ (o : Outcome). o.answer.place) e
      ∙ (fair g.description).place (λ z. n (ap (λ (o : Outcome). o.answer.number) e ∙ z))
  edit_place n (no bad) e = ap (λ (o : Outcome). o.answer.place) e

  edit_good : (g : Good table) → ByIts (yes g) → a.number ≡ 21 → ⊥
  edit_good g e z = (fair g.description).good (sym (ap (λ (o : Outcome). o.answer.number) e) ∙ z)

module _ (table out after : List ℕ) (a : Answer) where
  module _ (first last : ℕ) (p : CutsFields table first last out (leaves a after)) where
    abbrev cut_result : Description → Outcome
    cut_result d = cut_outcome first last d (within_decidable current (cut first last d)) out

    cut_fair : (d : Description) → Delivers out (cut_result d)
    cut_fair d = cut_delivers first last d (within_decidable current (cut first last d)) out

    -- a refusal changes nothing
    pub cut_keeps : (a.number ≡ 0 → ⊥) → after ≡ out
    cut_keeps n =
        let good = good_decidable table in
        edit_keeps table out after cut_result a cut_fair n good (p good (within_decidable current))

    -- no place but that of 31
    pub cut_place : (a.number ≡ 31 → ⊥) → a.place ≡ 0
    cut_place n =
        let good = good_decidable table in
        edit_place table out after cut_result a cut_fair n good (p good (within_decidable current))

    -- 21 for a good table
    pub good_cut : Good table → a.number ≡ 21 → ⊥
    good_cut g = edit_good table out after cut_result a cut_fair g (p (yes g) (within_decidable current))

    -- a table that is not good is 21, and the output as it was
    pub bad_cut_only : (Good table → ⊥) → leaves a after ≡ leaves not_good out
    bad_cut_only bad = p (no bad) (within_decidable current)

  module _ (at : ℕ) (bytes : List ℕ) (p : PutsFields table at bytes out (leaves a after)) where
    abbrev put_result : Description → Outcome
    put_result d = put_outcome at bytes d (joins_decidable at bytes d) out

    put_fair : (d : Description) → Delivers out (put_result d)
    put_fair d = put_delivers at bytes d (joins_decidable at bytes d) out

    -- the same of putting in, which is never 31
    pub put_keeps : (a.number ≡ 0 → ⊥) → after ≡ out
    put_keeps n =
        let good = good_decidable table in
        edit_keeps table out after put_result a put_fair n good (p good (joins_decidable at bytes))

    pub put_unread : a.number ≡ 31 → ⊥
    put_unread z = go (good_decidable table) (p (good_decidable table) (joins_decidable at bytes))
      where
        go : (good : Dec (Good table)) → leaves a after ≡ by_table good put_result (leaves not_good out) → ⊥
        go (yes g) e =
            put_other at bytes g.description (joins_decidable at bytes g.description) out
            (sym (ap (λ (o : Outcome). o.answer.number) e) ∙ z)
        go (no bad) e = omega (arith, ap (λ (o : Outcome). o.answer.number) e, z)

    pub put_place : a.place ≡ 0
    put_place =
        let good = good_decidable table in
        edit_place table out after put_result a put_fair put_unread good (p good (joins_decidable at bytes))

    pub good_put : Good table → a.number ≡ 21 → ⊥
    good_put g = edit_good table out after put_result a put_fair g (p (yes g) (joins_decidable at bytes))

    pub bad_put_only : (Good table → ⊥) → leaves a after ≡ leaves not_good out
    bad_put_only bad = p (no bad) (joins_decidable at bytes)
