-- Each answer that is given for a packet, with what was read before a refusal, keeps the promise of it.
use mathlib.Core.Path.{◌≡◌, refl, ◌∙◌}
use mathlib.Core.Bool.{true, false}
use mathlib.Core.List.{List, ◌++◌}
use Prim.Native.Nat.{ℕ, ◌*◌, ◌<◌, ◌≤◌}
use native.Mathlib.Omega.{arith}
use lib.Dec.{ltb}
use lib.ListN.{length, take, drop}
use borrow.Author.Tests.{lt-ltb, le-ltb}
use Rattle.base.specs.Lists.{joined}
use Rattle.laws.specs.Places.{two_at}
use Rattle.std.specs.Prelude.{Err}
use Rattle.rules.specs.declared.PacketRefusal.{PacketRefusal}
use Rattle.rules.specs.Limits.{packet_most}
use Rattle.rules.specs.Stored.{Good}
use Rattle.rules.specs.Answers.{of_packet, PacketAnswer}
use Rattle.rules.specs.Reading.{reading_in, entries_before}
use Rattle.rules.specs.Promises.{reading_answer, Partly, leaves_partly, partly_outcome, ReadsPartly}
use Rattle.packets.specs.Walks.{Walks}
use Rattle.packets.specs.RunRead.{count_in, RunBegins}
use Rattle.packets.proofs.RunEntries.{length_joined}
use Rattle.packets.proofs.WalkReads.{run_begins, walks_read}
use Rattle.packets.proofs.PacketPromises.{good_count}

-- the answer for a good table serves for every decision
by_good : (table packet run : List ℕ) (p : Partly) → Good table
    → ((g : Good table) → p ≡ partly_outcome g.description packet run) → ReadsPartly table packet run p
by_good table packet run p good h (yes g) = h g
by_good table packet run p good h (no n) = absurd (n good)

module _ (table packet run : List ℕ) where
  pub partly_not_good : (Good table → ⊥)
      → ReadsPartly table packet run (leaves_partly (of_packet (Err PacketRefusal.NotGood)) run 0)
  unfolding of_packet
  partly_not_good bad (yes g) = absurd (bad g)
  partly_not_good bad (no n) = refl

  pub partly_too_long : Good table → packet_most < length packet
      → ReadsPartly table packet run (leaves_partly (of_packet (Err PacketRefusal.TooLong)) run 0)
  unfolding of_packet partly_outcome reading_in reading_answer entries_before joined
  partly_too_long good lt =
      let far : ltb packet_most (length packet) ≡ true = lt-ltb packet_most (length packet) lt in
      by_good table packet run _ good (λ g. rw far)

  pub partly_short_run : Good table → length packet ≤ packet_most → length run < 4 * two_at table 6
      → ReadsPartly table packet run (leaves_partly (of_packet (Err PacketRefusal.ShortRun)) run 0)
  unfolding of_packet partly_outcome
  partly_short_run good le lt =
      let near : ltb packet_most (length packet) ≡ false = le-ltb packet_most (length packet) le in
      by_good table packet run _ good (λ g.
      let n = good_count table g in
      let few : ltb (length run) (4 * length g.description.fields) ≡ true =
      lt-ltb (length run) (4 * length g.description.fields) (omega arith) in
      rw (near, few))

  -- the walk into a run of its own, and the numbers of the first fields copied
  module _ (own : List ℕ) (r : PacketAnswer) (numbers : List ℕ) (n : ℕ) (good : Good table)
      (le : length packet ≤ packet_most) (long : 4 * two_at table 6 ≤ length own)
      (walks : Walks table packet own r numbers) (is : n ≡ count_in r (two_at table 6)) where
    begun : (g : Good table)
        → RunBegins (length g.description.fields) (entries_before g.description packet) r numbers
    begun g = run_begins g.description table packet own r numbers g.within g.is_stored long le walks

    counted : (g : Good table) → n ≡ length (entries_before g.description packet)
    counted g = is ∙ rw (good_count table g) (begun g).count

    pub partly_most : n ≤ two_at table 6
    partly_most = omega (arith, counted good, (begun good).most, good_count table good)

    pub partly_read : 4 * two_at table 6 ≤ length run
        → ReadsPartly table packet run
        (leaves_partly (of_packet r) (take (4 * n) numbers ++ drop (4 * n) run) n)
    unfolding partly_outcome
    partly_read room =
        let near : ltb packet_most (length packet) ≡ false = le-ltb packet_most (length packet) le in
        by_good table packet run _ good (λ g.
        let k = good_count table g in
        let many : ltb (length run) (4 * length g.description.fields) ≡ false =
        le-ltb (length run) (4 * length g.description.fields) (omega arith) in
        let e = (walks_read table packet own long le walks g.description g.within g.is_stored).answer in
        let es = entries_before g.description packet in
        rw (near, many, e, counted g, (begun g).front, length_joined es))
