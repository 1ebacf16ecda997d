-- The listing that is written by a table is that of the description it stores.
use mathlib.Core.Path.{◌≡◌, refl, sym, ◌∙◌, ap}
use mathlib.Core.List.{List, [], ◌∷◌, ◌++◌}
use Prim.Native.Nat.{ℕ, ◌+◌, ◌<◌, ◌≤◌}
use native.Mathlib.Omega.{arith}
use native.Mathlib.Nat.{zero-add}
use lib.ListN.{length, get_or}
use Rattle.laws.specs.Places.{two_at}
use Rattle.std.specs.Prelude.{Ok, Err}
use Rattle.rules.specs.declared.TableRefusal.{TableRefusal}
use Rattle.rules.specs.declared.PacketRefusal.{PacketRefusal}
use Rattle.rules.specs.declared.refusals.Refusal.{Refusal}
use Rattle.rules.specs.Fields.{Description}
use Rattle.rules.specs.Within.{Within}
use Rattle.rules.specs.References.{readers}
use Rattle.rules.specs.Stored.{record_of, stored, Good}
use Rattle.rules.specs.Reading.{Entry, complete, reading, absent, bit_total}
use Rattle.rules.specs.Listing.{refused_line, bits_line, lines_text, entry_lines}
use Rattle.rules.specs.Answers.{Answer, refused, of_table, of_packet, PacketAnswer}
use Rattle.rules.specs.Promises.{reading_answer, listing, refusal, not_good, by_table}
use Rattle.packets.specs.RunRead.{RunHolds}
use Rattle.writing.specs.Writes.{Writes}
use Rattle.packets.specs.Listings.{ListsStored, ListsInto}
use Rattle.packets.specs.LineTexts.{entry_in, lines_from}
use Rattle.packets.proofs.TableHead.{head_count, fields_stand}
use Rattle.packets.specs.Parts.{table_most}
use Rattle.packets.proofs.TableParts.{stored_length_lem}
use Rattle.packets.proofs.PacketPromises.{refusal_positive}
use Rattle.packets.proofs.RunEntries.{run_number, run_present}
use Rattle.packets.proofs.LinesStored.{lines_stored}
use Rattle.packets.proofs.ListingTexts.{
  listing_lines,
  listing_refused,
  accepted_entries,
  entries_length,
  one_line,
}
use Rattle.laws.proofs.Readings.{reading_told}

module _ (s packet : List ℕ) (d : Description) (w : Within d) (is : stored d ≡ s) (run : List ℕ) (a : PacketAnswer)
    (h : RunHolds (reading d packet) packet a run) where
  -- the entries of an accepted packet are those of the run
  entries_in_lem : (es : List Entry) → reading d packet ≡ complete es → (k : ℕ) → k < length es
      → entry_in run (0 + k) ≡ get_or es k absent
  entries_in_lem es e k lt =
      let b = h.front es e in
      rw zero-add (λ i. record {
        present = run_present run es k b lt i;
        offset = run_number run es k 1 b lt (omega arith) i;
        width = run_number run es k 2 b lt (omega arith) i;
        value = run_number run es k 3 b lt (omega arith) i;
      })

  lines_are : (es : List Entry) → reading d packet ≡ complete es
      → lines_from s run 0 (two_at s 6) (two_at s 0) ≡ lines_text (entry_lines d.fields es)
  lines_are es e =
      let l : length s ≤ table_most = stored_length_lem d w s is in
      rw (head_count d s is w)
      (lines_stored (readers d.fields) 0 s run d.fields es [] 0 (two_at s 0) (length s) (record_of 5 []) w.form w.size
      (entries_length d packet es e) l (fields_stand d s is w) (entries_in_lem es e))

  pub listed_accepted : (total : ℕ) → a ≡ Ok total
      → lines_from s run 0 (two_at s 6) (two_at s 0) ++ (bits_line total ++ (10 ∷ [])) ≡ listing d packet
  unfolding reading_answer of_packet
  listed_accepted total is =
      let e : of_packet (Ok total) ≡ reading_answer (reading d packet) packet = ap of_packet (sym is) ∙ h.answer in
      let c = accepted_entries (reading d packet) (reading_told d packet) packet
      (sym (ap (λ (x : Answer). x.number) e)) in
      let v : total ≡ bit_total packet = ap (λ (x : Answer). x.amount) e ∙ rw (c.1, reading_answer) refl in
      ap (λ (n : ℕ). lines_from s run 0 (two_at s 6) (two_at s 0) ++ (bits_line n ++ (10 ∷ []))) v
      ∙ ap (λ (l : List ℕ). l ++ (bits_line (bit_total packet) ++ (10 ∷ []))) (lines_are c.0 c.1)
      ∙ sym (listing_lines d packet c.0 c.1)

  pub listed_refused : (e : PacketRefusal) (r : Refusal) → a ≡ Err e
      → refused r.number r.place ≡ of_packet (Err e)
      → refused_line r.number r.place ++ (10 ∷ []) ≡ listing d packet
  listed_refused e r is told =
      let q : refused r.number r.place ≡ reading_answer (reading d packet) packet
      = told ∙ ap of_packet (sym is) ∙ h.answer in
      let n = ap (λ (x : Answer). x.number) q in
      let p = ap (λ (x : Answer). x.place) q in
      rw (n, p) (sym (listing_refused d packet (λ z.
      refusal_positive e (ap (λ (x : Answer). x.number) (sym told) ∙ n ∙ z))))

-- ── by any table ──

pub into_good : (table packet before after : List ℕ) (next : ℕ) → Good table
    → ListsStored table packet before after next → ListsInto table packet before after next
into_good table packet before after next good l = record { text = go; inside = l.inside }
  where
    go : (x : Dec (Good table))
        → Writes before 0 (by_table x (λ d. listing d packet) (lines_text (refusal not_good))) after next
    go (yes g) = l.text g.description g.within g.is_stored
    go (no b) = absurd (b good)

pub into_bad : (table packet before after : List ℕ) (next : ℕ) (e : TableRefusal) (r : Refusal) → (Good table → ⊥)
    → refused r.number r.place ≡ of_table (Err e)
    → Writes before 0 (refused_line r.number r.place ++ (10 ∷ [])) after next → next ≤ length before
    → ListsInto table packet before after next
unfolding of_table
into_bad table packet before after next TableRefusal.NotGood r bad told w le = record { text = go; inside = le }
  where
    go : (x : Dec (Good table))
        → Writes before 0 (by_table x (λ d. listing d packet) (lines_text (refusal not_good))) after next
    go (yes g) = absurd (bad g)
    go (no b) =
        let n = ap (λ (x : Answer). x.number) told in
        let p = ap (λ (x : Answer). x.place) told in
        rw (one_line (refused_line 21 0)) (rw (n, p) at w)
