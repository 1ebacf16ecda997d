-- All that a promise allows: for the stored table of a description within the limits, one answer and one buffer; for
-- any bytes, what the test of them gives.
use mathlib.Core.Path.{◌≡◌, refl, ap, sym, ◌∙◌}
use mathlib.Core.Bool.{cond}
use mathlib.Core.List.{List}
use Prim.Native.Nat.{ℕ}
use native.Mathlib.Omega.{arith}
use lib.ListN.{length, get_elem?}
use Rattle.rules.specs.Editions.{Edition, current, uncounted}
use Rattle.rules.specs.Fields.{Description}
use Rattle.rules.specs.Within.{Within}
use Rattle.rules.specs.Stored.{stored, Good}
use Rattle.rules.specs.Reading.{Part, part_in, part_bytes, reading}
use Rattle.rules.specs.Answers.{Answer, accepted}
use Rattle.rules.specs.Promises.{
  Outcome,
  leaves,
  delivered,
  not_good,
  ChecksTableIn,
  ChecksTable,
  packet_outcome,
  packet_outcome_in,
  ReadsPacketIn,
  ReadsPacket,
  part_by,
  PlacesPart,
  moved_by,
  Lends,
  LendsPart,
  first_named,
  FindsField,
  label_of,
  label_by,
  PlacesLabel,
  LendsLabel,
  listing,
  ListsPacket,
  Partly,
  partly_outcome,
  ReadsPartly,
  short_of,
  short_by,
  PlacesShort,
  LendsShort,
  CountsFields,
  kind_answer,
  TellsKind,
  readers_answer,
  CountsReaders,
  ConvertsTable,
}
use Rattle.laws.proofs.Decidable.{good_decidable_in}
use Rattle.laws.proofs.GoodTest.{is_good_in, told_by, answer_in, table_told}
use Rattle.laws.proofs.Readers.{described_in}

abbrev pub good_stored : (d : Description) → Within d → Good (stored d)
good_stored d w = record { description = d; within = w; is_stored = refl }

pub table_only : (d : Description) (a : Answer) → Within d → ChecksTable (stored d) a → a ≡ accepted (length (stored d))
table_only d a w p = p (yes (good_stored d w))

-- the outcome of a packet, by an edition
abbrev pub outcome_in : Edition → List ℕ → List ℕ → List ℕ → Outcome
outcome_in e table packet run =
    cond (is_good_in e table) (packet_outcome_in e (described_in e table) packet run) (leaves not_good run)

pub answer_only : (e : Edition) (table : List ℕ) (a : Answer) → ChecksTableIn e table a → a ≡ answer_in e table
answer_only e table a p =
    let good = good_decidable_in e table in
    p good ∙ sym (table_told e table good)

pub outcome_only_in : (e : Edition) (table packet run : List ℕ) (o : Outcome) → ReadsPacketIn e table packet run o
    → o ≡ outcome_in e table packet run
outcome_only_in e table packet run o p =
    let good = good_decidable_in e table in
    p good ∙ sym (told_by e table (λ d. packet_outcome_in e d packet run) (leaves not_good run) good)

pub outcome_only : (d : Description) (packet run : List ℕ) (o : Outcome) → Within d
    → ReadsPacket (stored d) packet run o → o ≡ packet_outcome d packet run
outcome_only d packet run o w p = p (yes (good_stored d w))

pub listing_only : (d : Description) (packet out : List ℕ) (o : Outcome) → Within d
    → ListsPacket (stored d) packet out o → o ≡ delivered (listing d packet) out
listing_only d packet out o w p = p (yes (good_stored d w))

moved_back : (n m : ℕ) (from : ℕ × ℕ) → moved_by n from ≡ moved_by m from → n ≡ m
moved_back n m from e = omega (arith, ap (λ (p : ℕ × ℕ). p.1) e)

-- bytes that are lent at a place are those of the part, which starts there
lent_only : (buffer : List ℕ) (from : ℕ × ℕ) (part : Part) (bytes : List ℕ) (start : ℕ)
    → Lends buffer from part bytes (moved_by start from) → (bytes ≡ part_bytes buffer part) × (start ≡ part.start)
lent_only buffer from part bytes start p = (p.content, moved_back start part.start from p.place)

pub part_only : (d : Description) (packet : List ℕ) (i : ℕ) (from : ℕ × ℕ) (bytes : List ℕ) (start : ℕ) → Within d
    → LendsPart (stored d) packet i from bytes (moved_by start from)
    → (bytes ≡ part_bytes packet (part_in (reading d packet) i)) × (start ≡ (part_in (reading d packet) i).start)
unfolding part_by
part_only d packet i from bytes start w p =
    lent_only packet from (part_in (reading d packet) i) bytes start (p (yes (good_stored d w)))

pub part_place_only : (d : Description) (packet : List ℕ) (i : ℕ) (part : Part) → Within d
    → PlacesPart (stored d) packet i part → part ≡ part_in (reading d packet) i
unfolding part_by
part_place_only d packet i part w p = p (yes (good_stored d w))

pub field_only : (d : Description) (name : List ℕ) (a : Answer) → Within d → FindsField (stored d) name a
    → a ≡ first_named name 0 d.fields
field_only d name a w p = p (yes (good_stored d w))

-- the field of a name, in any table
abbrev pub found_in : List ℕ → List ℕ → Answer
found_in table name =
    cond (is_good_in current table) (first_named name 0 (described_in current table).fields) not_good

pub found_only : (table name : List ℕ) (a : Answer) → FindsField table name a → a ≡ found_in table name
found_only table name a p =
    let good = good_decidable_in current table in
    p good ∙ sym (told_by current table (λ d. first_named name 0 d.fields) not_good good)

abbrev pub label_at : Description → ℕ → Part
label_at d i = label_of d i (get_elem? d.fields i)

pub label_only : (d : Description) (i : ℕ) (from : ℕ × ℕ) (bytes : List ℕ) (start : ℕ) → Within d
    → LendsLabel (stored d) i from bytes (moved_by start from)
    → (bytes ≡ part_bytes (stored d) (label_at d i)) × (start ≡ (label_at d i).start)
unfolding label_by
label_only d i from bytes start w p =
    lent_only (stored d) from (label_at d i) bytes start (p (yes (good_stored d w)))

pub label_place_only : (d : Description) (i : ℕ) (part : Part) → Within d → PlacesLabel (stored d) i part
    → part ≡ label_at d i
unfolding label_by
label_place_only d i part w p = p (yes (good_stored d w))

pub count_only : (d : Description) (a : Answer) → Within d → CountsFields (stored d) a
    → a ≡ accepted (length d.fields)
count_only d a w p = p (yes (good_stored d w))

pub kind_only : (d : Description) (i : ℕ) (a : Answer) → Within d → TellsKind (stored d) i a
    → a ≡ kind_answer (get_elem? d.fields i)
kind_only d i a w p = p (yes (good_stored d w))

abbrev pub short_at : Description → ℕ → Part
short_at d i = short_of d i (get_elem? d.fields i)

pub short_only : (d : Description) (i : ℕ) (from : ℕ × ℕ) (bytes : List ℕ) (start : ℕ) → Within d
    → LendsShort (stored d) i from bytes (moved_by start from)
    → (bytes ≡ part_bytes (stored d) (short_at d i)) × (start ≡ (short_at d i).start)
unfolding short_by
short_only d i from bytes start w p =
    lent_only (stored d) from (short_at d i) bytes start (p (yes (good_stored d w)))

pub short_place_only : (d : Description) (i : ℕ) (part : Part) → Within d → PlacesShort (stored d) i part
    → part ≡ short_at d i
unfolding short_by
short_place_only d i part w p = p (yes (good_stored d w))

pub partly_only : (d : Description) (packet run : List ℕ) (p : Partly) → Within d
    → ReadsPartly (stored d) packet run p → p ≡ partly_outcome d packet run
partly_only d packet run p w h = h (yes (good_stored d w))

-- ── how often a field is read, and an old table converted ── [02, R-5]

pub readers_only : (d : Description) (i : ℕ) (a : Answer) → Within d → CountsReaders (stored d) i a
    → a ≡ readers_answer d.fields i
readers_only d i a w p = p (yes (good_stored d w))

-- in any table
abbrev pub readers_in : List ℕ → ℕ → Answer
readers_in table i = cond (is_good_in current table) (readers_answer (described_in current table).fields i) not_good

pub readers_only_in : (table : List ℕ) (i : ℕ) (a : Answer) → CountsReaders table i a → a ≡ readers_in table i
readers_only_in table i a p =
    let good = good_decidable_in current table in
    p good ∙ sym (told_by current table (λ d. readers_answer d.fields i) not_good good)

-- what any bytes are converted to
abbrev pub converted_in : List ℕ → List ℕ → Outcome
converted_in table out =
    cond (is_good_in uncounted table) (delivered (stored (described_in uncounted table)) out) (leaves not_good out)

pub converted_only : (table out : List ℕ) (o : Outcome) → ConvertsTable table out o → o ≡ converted_in table out
converted_only table out o p =
    let old = good_decidable_in uncounted table in
    p old ∙ sym (told_by uncounted table (λ d. delivered (stored d) out) (leaves not_good out) old)
