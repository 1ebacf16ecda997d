-- The walk over a stored table's records reads a packet as the description says.
use mathlib.Core.Path.{◌≡◌, refl, ◌∙◌}
use mathlib.Core.Bool.{Bool, true, false, cond}
use mathlib.Core.List.{List, [], ◌∷◌, ◌++◌}
use mathlib.Core.Option.{none}
use Prim.Native.Nat.{ℕ, suc, ◌+◌, ◌*◌, ◌<◌, ◌≤◌}
use native.Mathlib.Omega.{arith}
use native.Mathlib.Numerals.{add-one}
use lib.Dec.{ltb, eqb}
use lib.ListN.{length, length-append}
use borrow.Author.Tests.{eqb-true, le-ltb, lt-ltb}
use Rattle.base.specs.Lists.{joined, sum, first_break}
use Rattle.laws.specs.Places.{Stands, two_at}
use Rattle.base.proofs.Breaks.{first_break_cons}
use Rattle.laws.proofs.Places.{stands_left, stands_right}
use Rattle.std.specs.Prelude.{Ok, Err}
use Rattle.rules.specs.declared.PacketRefusal.{PacketRefusal}
use Rattle.rules.specs.Fields.{Field, Description, fixed_bits}
use Rattle.rules.specs.Within.{keeps_form, keeps_size, keeps_types, index_readable, Within}
use Rattle.rules.specs.References.{readers}
use Rattle.rules.specs.Stored.{stored_field, records, records_in, stored}
use Rattle.rules.specs.Answers.{of_packet, PacketAnswer}
use Rattle.rules.specs.Reading.{
  Entry,
  Step,
  step,
  stop,
  Reading,
  complete,
  left_over,
  read_on,
  read_field,
  read_fields,
  read_fields_in,
  reading,
  reading_in,
  on_step as steps_on,
  fields_before,
  entries_before,
  bit_total,
}
use Rattle.rules.specs.Promises.{reading_answer}
use Rattle.laws.proofs.ReadsFields.{formed_parts}
use Rattle.rules.specs.Limits.{packet_most}
use Rattle.packets.specs.Parts.{table_most}
use Rattle.packets.specs.PartsStand.{PartsStand}
use Rattle.packets.specs.Steps.{record_at, later_bits, field_step}
use Rattle.packets.specs.Walks.{step_after, run_with, Walk, on_step, walk_from, walk_all, walk_answer, walk_run, Walks}
use Rattle.packets.specs.RunRead.{RunHolds, count_in, RunBegins, ReadsRun}
use Rattle.packets.proofs.RecordLaws.{record_parts}
use Rattle.packets.proofs.FieldBounds.{field_bounds}
use Rattle.packets.proofs.RunEntries.{Begins, with_keeps}
use Rattle.packets.proofs.FieldReads.{fixed_part}
use Rattle.packets.proofs.FieldMatches.{Matches, field_matches}
use Rattle.packets.proofs.PacketWalk.{length_with}
use Rattle.packets.proofs.HeadReads.{head_stands}

-- ── records one behind the other ──

-- the record of the first field, and the records behind it
record First (numbers : ℕ → ℕ) (k : ℕ) (s : List ℕ) (at end : ℕ) (f : Field ℕ) (fs : List (Field ℕ)) : Type 0 where
  parts : PartsStand s (record_at s at) f
  later : Stands s (record_at s at).next (records numbers (suc k) fs) end

first_stands : (numbers : ℕ → ℕ) (k : ℕ) (before : List (Field ℕ)) (f : Field ℕ) (fs : List (Field ℕ)) (s : List ℕ)
    (at end : ℕ)
    → first_break keeps_form before (f ∷ fs) ≡ none → first_break keeps_size before (f ∷ fs) ≡ none
    → Stands s at (records numbers k (f ∷ fs)) end → end ≤ table_most → First numbers k s at end f fs
unfolding records_in record_at
first_stands numbers k before f fs s at end form size p le =
    let e = first_break_cons keeps_form before f fs form in
    let z = first_break_cons keeps_size before f fs size in
    let one = stored_field (numbers k) f in
    let here = stands_left s at end one (records numbers (suc k) fs) p in
    let there = stands_right s at end one (records numbers (suc k) fs) p in
    let q = record_parts s at (at + length one) (numbers k) f (field_bounds f e.0 z.0) here in
    let near : ltb table_most at ≡ false = le-ltb table_most at (omega (arith, there.end)) in
    record { parts = rw near q.0; later = rw (near, q.1) there }

later_sum : (numbers : ℕ → ℕ) (k : ℕ) (before fs : List (Field ℕ)) (s : List ℕ) (at end : ℕ)
    → first_break keeps_form before fs ≡ none
    → first_break keeps_size before fs ≡ none → Stands s at (records numbers k fs) end → end ≤ table_most
    → later_bits (length fs) s at ≡ sum fixed_bits fs
unfolding later_bits sum
later_sum numbers k before [] s at end form size p le = refl
later_sum numbers k before (f ∷ fs) s at end form size p le =
    let e = first_break_cons keeps_form before f fs form in
    let z = first_break_cons keeps_size before f fs size in
    let q = first_stands numbers k before f fs s at end form size p le in
    let r = record_at s at in
    let form = (formed_parts f e.0).2 in
    let bits = fixed_part r f.width q.parts.kind s r.tree q.parts.width form in
    rw (
      bits,
      later_sum numbers (suc k) (before ++ (f ∷ [])) fs s (record_at s at).next end e.1 z.1 q.later
          le,
    )

-- ── all fields ──

-- a reading of n fields, the entries before the first refused one, and a walk of the code with the run that it leaves
pub record WalkHolds (packet : List ℕ) (n : ℕ) (got : Reading) (es : List Entry) (w : Walk) : Type 0 where
  pub answer : of_packet (walk_answer packet w) ≡ reading_answer got packet
  pub begins : RunBegins n es (walk_answer packet w) (walk_run w)

at_end : (packet : List ℕ) (entries : List Entry) (run : List ℕ) (place : ℕ) → Begins run entries → (x : Bool)
    → eqb place (bit_total packet) ≡ x
    → of_packet (cond x (Ok place) (Err PacketRefusal.LeftOver))
    ≡ reading_answer (cond x (complete entries) left_over) packet
unfolding of_packet reading_answer
at_end packet entries run place b true e = rw (eqb-true place (bit_total packet) e)
at_end packet entries run place b false e = refl

end_count : (x : Bool) (place n : ℕ) → count_in (cond x (Ok place) (Err PacketRefusal.LeftOver)) n ≡ n
unfolding count_in
end_count true place n = refl
end_count false place n = refl

complete_is : (x : Bool) (entries es : List Entry) → cond x (complete entries) left_over ≡ complete es → entries ≡ es
complete_is true entries es e = cc
complete_is false entries es e = cc

-- a complete reading has the entries of all fields
on_complete : (entries : List Entry) (t : Step) (go : List Entry → ℕ → Reading) (more : List Entry → ℕ → List Entry)
    → ((l : List Entry) (next : ℕ) (es : List Entry) → go l next ≡ complete es → more l next ≡ es)
    → (es : List Entry) → read_on entries t go ≡ complete es → steps_on entries t more ≡ es
on_complete entries (step e next) go more ih es h = ih (entries ++ (e ∷ [])) next es h
on_complete entries (stop f) go more ih es h = let z : ◌≡◌ {A = ℕ} 0 1 = cc in absurd (omega arith)

complete_before : (packet : List ℕ) (fs : List (Field ℕ)) (entries : List Entry) (place : ℕ) (es : List Entry)
    → read_fields packet entries place fs ≡ complete es → fields_before packet entries place fs ≡ es
unfolding read_fields_in fields_before
complete_before packet [] entries place es h = complete_is (eqb place (bit_total packet)) entries es h
complete_before packet (f ∷ fs) entries place es h =
    on_complete entries (read_field packet entries place (sum fixed_bits fs) f)
    (λ more next. read_fields packet more next fs) (λ more next. fields_before packet more next fs)
    (λ l next other q. complete_before packet fs l next other q) es h

walk_on : (packet : List ℕ) (n : ℕ) (after : List ℕ) (entries : List Entry) (go : List Entry → ℕ → Reading)
    (more : List Entry → ℕ → List Entry) (walk : List ℕ → ℕ → Walk) → length entries ≤ n → Begins after entries
    → ((e : Entry) (next : ℕ) → Begins after (entries ++ (e ∷ []))
    → WalkHolds packet n (go (entries ++ (e ∷ [])) next) (more (entries ++ (e ∷ [])) next) (walk after next))
    → (t m : Step) → Matches entries after t m
    → WalkHolds packet n (read_on entries t go) (steps_on entries t more) (on_step m (length entries + 1) after walk)
unfolding of_packet reading_answer walk_answer count_in
walk_on packet n after entries go more walk le b ih (step e next) (step d m) q = rw q.0 (ih e next q.1)
walk_on packet n after entries go more walk le b ih (step e next) (stop g) q = absurd q
walk_on packet n after entries go more walk le b ih (stop f) (step d m) q = absurd q
walk_on packet n after entries go more walk le b ih (stop f) (stop g) q =
    record { answer = rw (q, add-one); begins = record { count = omega arith; most = le; front = b } }

pub walk_reads : (numbers : ℕ → ℕ) (k : ℕ) (s packet : List ℕ) (fs before : List (Field ℕ)) (entries : List Entry)
    (run : List ℕ) (n place at end : ℕ)
    → length entries ≡ length before → n ≡ length entries + length fs → Begins run entries → 4 * n ≤ length run
    → first_break keeps_form before fs ≡ none → first_break keeps_size before fs ≡ none
    → first_break (keeps_types index_readable) before fs ≡ none
    → Stands s at (records numbers k fs) end → end ≤ table_most
    → WalkHolds packet n (read_fields packet entries place fs) (fields_before packet entries place fs)
    (walk_from s packet (length fs) (length entries) run place at)
unfolding walk_from read_fields_in fields_before walk_answer
walk_reads numbers k s packet [] before entries run n place at end counts all begins room form size types p le =
    record {
      answer = at_end packet entries run place begins (eqb place (bit_total packet)) refl;
      begins = record {
        count = end_count (eqb place (bit_total packet)) place n ∙ omega arith;
        most = omega arith;
        front = begins;
      };
    }
walk_reads numbers m s packet (f ∷ fs) before entries run n place at end counts all begins room form size types p le =
    let q = first_stands numbers m before f fs s at end form size p le in
    let e = first_break_cons keeps_form before f fs form in
    let z = first_break_cons keeps_size before f fs size in
    let k = first_break_cons (keeps_types index_readable) before f fs types in
    let r = record_at s at in
    let sums = later_sum numbers (suc m) (before ++ (f ∷ [])) fs s r.next end e.1 z.1 q.later le in
    let found = field_step s packet run r (length fs) place in
    let after = run_with run (length entries) found in
    let long : length after ≡ length run = length_with run (length entries) found in
    walk_on packet n after entries (λ more next. read_fields packet more next fs)
    (λ more next. fields_before packet more next fs)
    (λ left next. walk_from s packet (length fs) (length entries + 1) left next r.next)
    (omega arith) (with_keeps run entries found begins)
    (λ d next b.
    let j : length (entries ++ (d ∷ [])) ≡ length entries + 1 = length-append entries (d ∷ []) in
    rw j at (walk_reads numbers (suc m) s packet fs (before ++ (f ∷ [])) (entries ++ (d ∷ [])) after n next r.next
    end
    (omega (arith, length-append before (f ∷ []))) (omega arith) b (omega arith) e.1 z.1 k.1 q.later le))
    (read_field packet entries place (sum fixed_bits fs) f) (step_after s run (length entries) r found)
    (field_matches s packet run before entries place f r counts begins (omega arith) e.0 z.0 k.0 q.parts
    (length fs) (sum fixed_bits fs) sums)

pub walk_all_lem : (d : Description) → Within d → (s packet run : List ℕ) → stored d ≡ s → 4 * two_at s 6 ≤ length run
    → WalkHolds packet (length d.fields) (read_fields packet [] 0 d.fields)
    (fields_before packet [] 0 d.fields) (walk_all s packet run)
unfolding walk_all joined
walk_all_lem d w s packet run e room =
    let h = head_stands d w s e in
    rw h.count
    (walk_reads (readers d.fields) 0 s packet d.fields [] [] run (length d.fields) 0 (two_at s 0) h.end
    refl (omega arith) refl
    (omega (arith, h.count, room)) w.form w.size w.types h.fields h.short)

-- ── a packet read into a run ──

module _ (d : Description) (s packet run : List ℕ) (r : PacketAnswer) (after : List ℕ) where
  -- the entries of the fields before the first refused one
  pub run_begins : Within d → stored d ≡ s → 4 * two_at s 6 ≤ length run → length packet ≤ packet_most
      → Walks s packet run r after → RunBegins (length d.fields) (entries_before d packet) r after
  unfolding entries_before
  run_begins w e room le walks =
      let near : ltb packet_most (length packet) ≡ false = le-ltb packet_most (length packet) le in
      rw (near, walks.0, walks.1) (walk_all_lem d w s packet run e room).begins

  pub run_read : Within d → stored d ≡ s → 4 * two_at s 6 ≤ length run → length packet ≤ packet_most
      → Walks s packet run r after → RunHolds (reading d packet) packet r after
  unfolding reading_in
  run_read w e room le walks =
      let near : ltb packet_most (length packet) ≡ false = le-ltb packet_most (length packet) le in
      let h = walk_all_lem d w s packet run e room in
      rw (near, walks.0, walks.1) (record {
        answer = h.answer;
        front = λ es q. rw (complete_before packet d.fields [] 0 es q) at h.begins.front;
      })

  pub run_long : packet_most < length packet → r ≡ Err PacketRefusal.TooLong
      → RunHolds (reading d packet) packet r after
  unfolding reading_in of_packet reading_answer
  run_long lt is =
      let far : ltb packet_most (length packet) ≡ true = lt-ltb packet_most (length packet) lt in
      rw far
      (record { answer = rw is; front = λ es e. let z : ◌≡◌ {A = ℕ} 0 1 = cc in absurd (omega arith) })

-- what a walk over all fields leaves in a run
pub walks_read : (s packet run : List ℕ) {r : PacketAnswer} {after : List ℕ} → 4 * two_at s 6 ≤ length run
    → length packet ≤ packet_most → Walks s packet run r after → ReadsRun s packet r after
walks_read s packet run room le w d within is = run_read d s packet run _ _ within is room le w
