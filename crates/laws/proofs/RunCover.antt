-- What an accepted packet leaves in the run: entries that cover each bit exactly once; the answer is the bit total.
use mathlib.Core.Path.{◌≡◌, refl, ap}
use mathlib.Core.Bool.{Bool, true, false, cond, ◌&&◌, not}
use mathlib.Core.List.{List, [], ◌∷◌, ◌++◌}
use Prim.Native.Nat.{ℕ, suc, ◌*◌}
use native.Mathlib.Omega.{arith}
use lib.Dec.{ltb}
use lib.ListN.{length, drop}
use Rattle.base.specs.Lists.{joined}
use Rattle.rules.specs.Fields.{Field, Description}
use Rattle.rules.specs.Stored.{Good}
use Rattle.rules.specs.Answers.{accepted, refused}
use Rattle.rules.specs.Reading.{Entry, Reading, complete, refusing, is_too_long, reading, bit_total, numbers_of}
use Rattle.rules.specs.Cover.{Kept, entries_in, Covered}
use Rattle.rules.specs.Promises.{
  Outcome,
  leaves,
  not_good,
  by_table,
  reading_answer,
  run_after,
  packet_outcome,
  packet_outcome_in,
}
use Rattle.rules.specs.Results.{PacketCovered}
use Rattle.laws.proofs.Readings.{Told, reading_told}
use Rattle.laws.proofs.Decidable.{good_decidable}
use Rattle.laws.proofs.Cover.{cover_unique, cover_in_order}
use Rattle.laws.proofs.Conditions.{conditions_kept}

entries_back : (es : List Entry) (rest : List ℕ) → entries_in (length es) (joined numbers_of es ++ rest) ≡ es
unfolding entries_in joined
entries_back [] rest = refl
entries_back (e ∷ es) rest = ap (λ l. e ∷ l) (entries_back es rest)

pub kept_length : (before : List Entry) (fs : List (Field ℕ)) (es : List Entry) → Kept before fs es
    → length es ≡ length fs
kept_length before [] [] k = refl
kept_length before [] (e ∷ es) k = absurd k
kept_length before (f ∷ fs) [] k = absurd k
kept_length before (f ∷ fs) (e ∷ es) k = ap suc (kept_length (before ++ (e ∷ [])) fs es k.1)

module _ (d : Description) (packet run after : List ℕ) (n : ℕ) where
  -- the packet was read to the entries in the run
  abbrev pub ReadToRun : Type 0
  ReadToRun = (n ≡ bit_total packet) × (reading d packet ≡ complete (entries_in (length d.fields) after))

  completed : (got : Reading) → Told got → reading d packet ≡ got
      → leaves (accepted n) after ≡ leaves (reading_answer got packet) (run_after got run) → ReadToRun
  unfolding reading_answer
  completed (complete es) t h e =
      let k : length es ≡ length d.fields = kept_length [] d.fields es (conditions_kept d packet es h) in
      let w = joined numbers_of es in
      let b : after ≡ w ++ drop (length w) run = ap (λ (o : Outcome). o.buffer) e in
      let back : entries_in (length d.fields) after ≡ es = rw (← k, b) (entries_back es _) in
      (ap (λ (x : Outcome). x.answer.amount) e, rw back h)
  completed (refusing a) t h e =
      let z : 0 ≡ a.number = ap (λ (x : Outcome). x.answer.number) e in absurd (omega (arith, t.0))

  pub read_to_run : leaves (accepted n) after ≡ packet_outcome d packet run → ReadToRun
  unfolding packet_outcome_in
  read_to_run = go (not (is_too_long packet) && ltb (length run) (4 * length d.fields))
    where
      go : (x : Bool)
          → leaves (accepted n) after
          ≡ cond x (leaves (refused 23 0) run)
          (leaves (reading_answer (reading d packet) packet) (run_after (reading d packet) run))
          → ReadToRun
      go true e = absurd (omega (arith, ap (λ (x : Outcome). x.answer.number) e))
      go false e = completed (reading d packet) (reading_told d packet) refl e

  covering : ReadToRun → Covered d packet (entries_in (length d.fields) after) n
  covering r =
      let es = entries_in (length d.fields) after in
      let o = cover_in_order d packet es r.1 in
      record {
        total = r.0;
        once = cover_unique d packet es r.1;
        ordered = o.0;
        widths = o.1;
        kept = conditions_kept d packet es r.1;
      }

-- an accepted packet was read by a good table, and is covered by the entries in the run
pub packet_covered : PacketCovered
packet_covered table packet run after n h = go (good_decidable table) (h (good_decidable table))
  where
    go : (x : Dec (Good table))
        → leaves (accepted n) after ≡ by_table x (λ d. packet_outcome d packet run) (leaves not_good run)
        → (g : Good table) × Covered g.description packet (entries_in (length g.description.fields) after) n
    go (yes g) e = (
      g,
      covering g.description packet run after n (read_to_run g.description packet run after n e),
    )
    go (no m) e = absurd (omega (arith, ap (λ (o : Outcome). o.answer.number) e))
