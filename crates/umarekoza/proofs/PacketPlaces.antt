-- The numbers and places of a packet's answers fit 32 bits: a place is at most the number of fields.
use mathlib.Core.Path.{◌≡◌, refl, ap}
use mathlib.Core.Bool.{Bool, true, false, cond, ◌&&◌, not}
use mathlib.Core.List.{List, [], ◌∷◌, ◌++◌}
use Prim.Native.Nat.{ℕ, suc, ◌+◌, ◌*◌, ◌≤◌}
use native.Mathlib.Omega.{arith}
use lib.Dec.{ltb, eqb}
use lib.ListN.{length, length-append}
use Rattle.base.specs.Lists.{sum}
use Rattle.base.proofs.Lists.{between_true}
use Rattle.rules.specs.Fields.{Field, Description, fixed_bits}
use Rattle.rules.specs.Limits.{fields_most}
use Rattle.rules.specs.Stored.{Good}
use Rattle.std.specs.Prelude.{Ok, Err}
use Rattle.rules.specs.declared.Fault.{Fault}
use Rattle.rules.specs.declared.PacketRefusal.{PacketRefusal}
use Rattle.rules.specs.Answers.{Answer, PacketAnswer, refused, fault_number, of_packet}
use Rattle.rules.specs.Reading.{
  Entry,
  Step,
  step,
  stop,
  Reading,
  complete,
  too_long,
  left_over,
  bit_total,
  read_field,
  read_on,
  read_fields,
  read_fields_in,
  is_too_long,
  reading,
  reading_in,
  entries_before,
}
use Rattle.rules.specs.Promises.{
  Outcome,
  leaves,
  not_good,
  by_table,
  reading_answer,
  run_after,
  packet_outcome,
  packet_outcome_in,
  ReadsPacket,
  Partly,
  leaves_partly,
  partly,
  partly_none,
  partly_outcome,
  ReadsPartly,
}
use Rattle.laws.proofs.Decidable.{good_decidable}
use Rattle.umarekoza.specs.Exports.{partial_answer}

-- an answer told by its number, place and amount
pub told_partly : (a : Answer) (k : ℕ) {n p l : ℕ} → n ≡ a.number → p ≡ a.place → l ≡ a.amount
    → partial_answer (record { number = n; place = p; length = l; count = k }) ≡ a
told_partly a k x y z = λ j. record { number = x j; place = y j; amount = z j }

fault_low : (f : Fault) → fault_number f ≤ 29
unfolding fault_number
fault_low Fault.BitsMissing = omega arith
fault_low Fault.ConstraintFalse = omega arith
fault_low Fault.AbsentRead = omega arith
fault_low Fault.OutOfRange = omega arith
fault_low Fault.ZeroDivisor = omega arith

pub number_low : (r : PacketAnswer) → (of_packet r).number ≤ 29
unfolding of_packet
number_low (Ok n) = omega arith
number_low (Err PacketRefusal.NotGood) = omega arith
number_low (Err PacketRefusal.TooLong) = omega arith
number_low (Err PacketRefusal.ShortRun) = omega arith
number_low (Err (PacketRefusal.Field f i)) = fault_low f
number_low (Err PacketRefusal.LeftOver) = omega arith

module _ (packet : List ℕ) where
  ended_low : (entries : List Entry) (n : ℕ) (b : Bool)
      → (reading_answer (cond b (complete entries) left_over) packet).place ≤ n
  unfolding reading_answer
  ended_low entries n true = omega arith
  ended_low entries n false = omega arith

  step_low : (entries : List Entry) (next : List Entry → ℕ → Reading) (n : ℕ) (s : Step)
      → ((e : Entry) (at : ℕ) → (reading_answer (next (entries ++ (e ∷ [])) at) packet).place ≤ suc (length entries) +
      n)
      → (reading_answer (read_on entries s next) packet).place ≤ suc (length entries) + n
  unfolding reading_answer
  step_low entries next n (step e at) h = h e at
  step_low entries next n (stop f) h = omega arith

  fields_low : (entries : List Entry) (place : ℕ) (fs : List (Field ℕ))
      → (reading_answer (read_fields packet entries place fs) packet).place ≤ length entries + length fs
  unfolding read_fields_in
  fields_low entries place [] = ended_low entries _ (eqb place (bit_total packet))
  fields_low entries place (f ∷ fs) =
      let q = step_low entries (λ more next. read_fields packet more next fs) (length fs)
      (read_field packet entries place (sum fixed_bits fs) f)
      (λ e at. omega (arith, fields_low (entries ++ (e ∷ [])) at fs, length-append entries (e ∷ []))) in
      omega (arith, q)

  reading_low : (d : Description) → (reading_answer (reading d packet) packet).place ≤ length d.fields
  unfolding reading_in reading_answer
  reading_low d = go (is_too_long packet)
    where
      go : (b : Bool)
          → (reading_answer (cond b too_long (read_fields packet [] 0 d.fields)) packet).place ≤ length d.fields
      go true = omega arith
      go false = omega (arith, fields_low [] 0 d.fields)

  outcome_low : (d : Description) (run : List ℕ) → (packet_outcome d packet run).answer.place ≤ length d.fields
  unfolding packet_outcome_in
  outcome_low d run = go (not (is_too_long packet) && ltb (length run) (4 * length d.fields))
    where
      go : (b : Bool)
          → (cond b (leaves (refused 23 0) run)
          (leaves (reading_answer (reading d packet) packet) (run_after (reading d packet) run))).answer.place
          ≤ length d.fields
      go true = omega arith
      go false = reading_low d

  partly_low : (d : Description) (run : List ℕ)
      → (partly_outcome d packet run).outcome.answer.place ≤ length d.fields
  unfolding partly_outcome
  partly_low d run = go (not (is_too_long packet) && ltb (length run) (4 * length d.fields))
    where
      go : (b : Bool)
          → (cond b (partly_none (refused 23 0) run)
          (partly (reading_answer (reading d packet) packet) run (entries_before d packet))).outcome.answer.place
          ≤ length d.fields
      go true = omega arith
      go false = reading_low d

-- no place is beyond the fields, whatever a decision gives
pub low_by : (table : List ℕ) (a : Answer) (v : Dec (Good table) → ℕ) → ((good : Dec (Good table)) → a.place ≡ v good)
    → ((g : Good table) → v (yes g) ≤ length g.description.fields) → ((b : Good table → ⊥) → v (no b) ≡ 0)
    → a.place ≤ fields_most
low_by table a v is low none = go (good_decidable table)
  where
    go : Dec (Good table) → a.place ≤ fields_most
    go (yes g) =
        let few = (between_true 1 (length g.description.fields) fields_most g.within.count).1 in
        omega (arith, is (yes g), few, low g)
    go (no b) = omega (arith, is (no b), none b)

-- the place of an answer that keeps a promise
pub place_low : (table packet run : List ℕ) (a : Answer) (after : List ℕ)
    → ReadsPacket table packet run (leaves a after) → a.place ≤ fields_most
place_low table packet run a after h =
    low_by table a (λ good. (by_table good (λ d. packet_outcome d packet run) (leaves not_good run)).answer.place)
    (λ good. ap (λ (o : Outcome). o.answer.place) (h good)) (λ g. outcome_low packet g.description run) (λ b. refl)

pub partly_place_low : (table packet run : List ℕ) (a : Answer) (after : List ℕ) (n : ℕ)
    → ReadsPartly table packet run (leaves_partly a after n) → a.place ≤ fields_most
partly_place_low table packet run a after n h =
    low_by table a
    (λ good. (by_table good (λ d. partly_outcome d packet run) (partly_none not_good run)).outcome.answer.place)
    (λ good. ap (λ (p : Partly). p.outcome.answer.place) (h good)) (λ g. partly_low packet g.description run)
    (λ b. refl)
