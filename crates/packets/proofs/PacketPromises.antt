-- Each answer that is given for a packet keeps the promise of reading it.
use mathlib.Core.Path.{◌≡◌, refl, sym, ◌∙◌, ap}
use mathlib.Core.Bool.{true, false}
use mathlib.Core.List.{List, [], ◌++◌}
use Prim.Native.Nat.{ℕ, ◌*◌, ◌<◌, ◌≤◌}
use native.Mathlib.Omega.{arith}
use lib.Dec.{ltb}
use lib.ListN.{length, take, drop}
use borrow.Author.Tests.{lt-ltb, le-ltb}
use Rattle.laws.specs.Places.{two_at}
use Rattle.std.specs.Prelude.{Ok, Err, is_ok, is_err}
use Rattle.rules.specs.declared.TableRefusal.{TableRefusal}
use Rattle.rules.specs.declared.PacketRefusal.{PacketRefusal}
use Rattle.rules.specs.Fields.{Description}
use Rattle.rules.specs.Stored.{Good}
use Rattle.rules.specs.Answers.{Answer, fault_number, of_table, of_packet, TableAnswer, PacketAnswer}
use Rattle.rules.specs.Reading.{Entry, Reading, complete, refusing, reading, reading_in}
use Rattle.rules.specs.Promises.{
  leaves,
  reading_answer,
  run_after,
  packet_outcome,
  packet_outcome_in,
  ChecksTable,
  ReadsPacket,
}
use Rattle.rules.specs.declared.Fault.{Fault}
use Rattle.laws.proofs.Readings.{Told, reading_told}
use Rattle.laws.proofs.Decidable.{good_decidable}
use Rattle.laws.proofs.Conditions.{conditions_kept}
use Rattle.laws.proofs.RunCover.{kept_length}
use Rattle.rules.specs.Limits.{fields_most, packet_most}
use Rattle.packets.specs.RunRead.{ReadsRun}
use Rattle.packets.proofs.RunEntries.{length_joined}
use Rattle.packets.proofs.HeadReads.{head_stands}

-- ── tables ──

bad_of : (table : List ℕ) (e : TableRefusal) → ChecksTable table (of_table (Err e)) → Good table → ⊥
unfolding of_table
bad_of table TableRefusal.NotGood h g = let q = ap (λ (a : Answer). a.number) (h (yes g)) in omega (arith, q)

pub good_of : (table : List ℕ) (k : ℕ) → ChecksTable table (of_table (Ok k)) → Good table
unfolding of_table
good_of table k h = go (good_decidable table) refl
  where
    go : (x : Dec (Good table)) → x ≡ x → Good table
    go (yes g) e = g
    go (no n) e = let q = ap (λ (a : Answer). a.number) (h (no n)) in absurd (omega (arith, q))

-- the answer of a check, told apart
pub good_from : (table : List ℕ) (r : TableAnswer) (k : ℕ) → ChecksTable table (of_table r) → r ≡ Ok k
    → Good table
good_from table r k h e = good_of table k (rw e at h)

pub bad_from : (table : List ℕ) (r : TableAnswer) (e : TableRefusal) → ChecksTable table (of_table r) → r ≡ Err e
    → Good table → ⊥
bad_from table r e h is = bad_of table e (rw is at h)

pub good_unless : (table : List ℕ) (r : TableAnswer) → ChecksTable table (of_table r)
    → ((e : TableRefusal) → r ≡ Err e → ⊥) → Good table
good_unless table (Ok k) h none = good_of table k h
good_unless table (Err e) h none = absurd (none e refl)

pub good_if : (table : List ℕ) (r : TableAnswer) → ChecksTable table (of_table r) → is_err r ≡ false → Good table
good_if table (Ok k) h e = good_of table k h
good_if table (Err e) h is = cc

pub bad_if : (table : List ℕ) (r : TableAnswer) → ChecksTable table (of_table r) → is_err r ≡ true → Good table → ⊥
bad_if table (Ok k) h e = cc
bad_if table (Err e) h is = bad_of table e h

pub good_count : (table : List ℕ) (g : Good table) → two_at table 6 ≡ length g.description.fields
good_count table g = (head_stands g.description g.within table g.is_stored).count

pub good_few : (table : List ℕ) → Good table → two_at table 6 ≤ fields_most
good_few table g =
    let h = head_stands g.description g.within table g.is_stored in
    omega (arith, h.count, h.few)

-- ── readings ──

-- an accepted packet has an entry for each field
pub entries_count : (d : Description) (packet : List ℕ) (es : List Entry) → reading d packet ≡ complete es
    → length es ≡ length d.fields
entries_count d packet es h = kept_length [] d.fields es (conditions_kept d packet es h)

fault_positive : (f : Fault) → fault_number f ≡ 0 → ⊥
unfolding fault_number
fault_positive Fault.BitsMissing e = omega (arith, e)
fault_positive Fault.ConstraintFalse e = omega (arith, e)
fault_positive Fault.AbsentRead e = omega (arith, e)
fault_positive Fault.OutOfRange e = omega (arith, e)
fault_positive Fault.ZeroDivisor e = omega (arith, e)

pub refusal_positive : (e : PacketRefusal) → (of_packet (Err e)).number ≡ 0 → ⊥
unfolding of_packet
refusal_positive PacketRefusal.NotGood h = omega (arith, h)
refusal_positive PacketRefusal.TooLong h = omega (arith, h)
refusal_positive PacketRefusal.ShortRun h = omega (arith, h)
refusal_positive (PacketRefusal.Field f i) h = fault_positive f h
refusal_positive PacketRefusal.LeftOver h = omega (arith, h)

accepted_zero : (r : PacketAnswer) → is_ok r ≡ true → (of_packet r).number ≡ 0
unfolding of_packet
accepted_zero (Ok n) h = refl
accepted_zero (Err e) h = cc

zero_accepted : (r : PacketAnswer) → (of_packet r).number ≡ 0 → is_ok r ≡ true
zero_accepted (Ok n) h = refl
zero_accepted (Err e) h = absurd (refusal_positive e h)

-- the entries of an accepted packet
pub accepted_complete : (got : Reading) → Told got → (packet : List ℕ) (r : PacketAnswer)
    → of_packet r ≡ reading_answer got packet
    → is_ok r ≡ true → (es : List Entry) × (got ≡ complete es)
unfolding reading_answer
accepted_complete (complete es) t packet r e h = (es, refl)
accepted_complete (refusing a) t packet r e h =
    let q = ap (λ (a : Answer). a.number) e in absurd (omega (arith, q, accepted_zero r h, t.0))

pub refused_open : (got : Reading) (packet : List ℕ) (r : PacketAnswer) → of_packet r ≡ reading_answer got packet
    → is_ok r ≡ false → (es : List Entry) → got ≡ complete es → ⊥
unfolding reading_answer
refused_open got packet r e h es c =
    let q = e ∙ ap (λ (x : Reading). reading_answer x packet) c in
    let y = zero_accepted r (ap (λ (a : Answer). a.number) q) in
    let z : ◌≡◌ {A = ℕ} 0 1 = cc in
    omega arith

run_kept : (got : Reading) (run : List ℕ) → ((es : List Entry) → got ≡ complete es → ⊥) → run_after got run ≡ run
run_kept (complete es) run h = absurd (h es refl)
run_kept (refusing a) run h = refl

-- ── the promise ──

-- the answer for a good table serves for every decision
module _ (table packet run : List ℕ) (r : PacketAnswer) (after : List ℕ) where
  by_good : Good table
      → ((g : Good table) → leaves (of_packet r) after ≡ packet_outcome g.description packet run)
      → ReadsPacket table packet run (leaves (of_packet r) after)
  by_good good h (yes g) = h g
  by_good good h (no n) = absurd (n good)

module _ (table packet run : List ℕ) where
  pub packet_not_good : (Good table → ⊥)
      → ReadsPacket table packet run (leaves (of_packet (Err PacketRefusal.NotGood)) run)
  unfolding of_packet
  packet_not_good bad (yes g) = absurd (bad g)
  packet_not_good bad (no n) = refl

  pub packet_too_long : Good table → packet_most < length packet
      → ReadsPacket table packet run (leaves (of_packet (Err PacketRefusal.TooLong)) run)
  unfolding of_packet packet_outcome_in reading_in reading_answer
  packet_too_long good lt =
      let far : ltb packet_most (length packet) ≡ true = lt-ltb packet_most (length packet) lt in
      by_good table packet run (Err PacketRefusal.TooLong) run good (λ g. rw far)

  pub packet_short_run : Good table → length packet ≤ packet_most → length run < 4 * two_at table 6
      → ReadsPacket table packet run (leaves (of_packet (Err PacketRefusal.ShortRun)) run)
  unfolding of_packet packet_outcome_in
  packet_short_run good le lt =
      let near : ltb packet_most (length packet) ≡ false = le-ltb packet_most (length packet) le in
      by_good table packet run (Err PacketRefusal.ShortRun) run good (λ g.
      let n = good_count table g in
      let few : ltb (length run) (4 * length g.description.fields) ≡ true =
      lt-ltb (length run) (4 * length g.description.fields) (omega arith) in
      rw (near, few))

  module _ (r : PacketAnswer) (numbers : List ℕ) (good : Good table) (le : length packet ≤ packet_most)
      (room : 4 * two_at table 6 ≤ length run) (reads : ReadsRun table packet r numbers) where
    answered : (after : List ℕ) → ((g : Good table) → after ≡ run_after (reading g.description packet) run)
        → ReadsPacket table packet run (leaves (of_packet r) after)
    unfolding packet_outcome_in
    answered after h =
        let near : ltb packet_most (length packet) ≡ false = le-ltb packet_most (length packet) le in
        by_good table packet run r after good (λ g.
        let n = good_count table g in
        let many : ltb (length run) (4 * length g.description.fields) ≡ false =
        le-ltb (length run) (4 * length g.description.fields) (omega arith) in
        let e = (reads g.description g.within g.is_stored).answer in
        rw (near, many, e, h g))

    pub packet_accepted : is_ok r ≡ true
        → ReadsPacket table packet run
        (leaves (of_packet r) (take (4 * two_at table 6) numbers ++ drop (4 * two_at table 6) run))
    packet_accepted h = answered _ (λ g.
        let holds = reads g.description g.within g.is_stored in
        let c = accepted_complete (reading g.description packet) (reading_told g.description packet) packet r
        holds.answer h in
        let n = good_count table g in
        let m = entries_count g.description packet c.0 c.1 in
        let k : 4 * two_at table 6 ≡ 4 * length c.0 = omega arith in
        rw (c.1, k, holds.front c.0 c.1, length_joined c.0))

    pub packet_refused : is_ok r ≡ false → ReadsPacket table packet run (leaves (of_packet r) run)
    packet_refused h = answered run (λ g.
        let e = (reads g.description g.within g.is_stored).answer in
        let got = reading g.description packet in
        sym (run_kept got run (refused_open got packet r e h)))
