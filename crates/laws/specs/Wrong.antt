-- Answers of wrong programs: of each, what is claimed is a promise, and it is false (proofs/RuledOut). A program that
-- keeps the promises is none of these, and no export is: its promise is the entry's.
-- [01, How the promises are judged] [01, Easy ways to go wrong]
use Rattle.std.specs.Prelude.{◌≡◌, List, [], ◌∷◌, ◌++◌, ℕ, length, replicate, take, drop, set, Ok, Err}
use Rattle.std.proofs.Math.Option.{none, some}
use Rattle.base.specs.Bytes.{bytes}
use Rattle.base.specs.Lists.{joined, Every}
use Rattle.rules.specs.declared.Op.TheVariants.{Eq}
use Rattle.rules.specs.declared.Fault.TheVariants.{BitsMissing}
use Rattle.rules.specs.declared.PacketRefusal.{PacketRefusal}
use Rattle.rules.specs.Limits.{limits}
use Rattle.rules.specs.Trees.{num, read, two}
use Rattle.rules.specs.Fields.{fixed, Description}
use Rattle.rules.specs.Editions.{Edition, current}
use Rattle.rules.specs.Stored.{stored}
use Rattle.rules.specs.Reading.{Entry, absent, numbers_of, Part, part_from}
use Rattle.rules.specs.Answers.{Answer, accepted, refused, of_packet, PacketAnswer}
use Rattle.rules.specs.Promises.{
  leaves,
  overlaid,
  not_good,
  ChecksTableIn,
  ChecksTable,
  ReadsPacketIn,
  ReadsPacket,
  moved_by,
  PlacesPart,
  LendsPart,
  FindsField,
  PlacesLabel,
  LendsLabel,
  ListsPacket,
  leaves_partly,
  ReadsPartly,
  PlacesShort,
  LendsShort,
  CountsFields,
  TellsKind,
  CountsReaders,
  ConvertsTable,
  CutsFields,
  PutsFields,
}
use Rattle.rules.specs.Cases.{lent_run, named, unnamed, entry}
use Rattle.rules.specs.Marked.{blade_report, m1, m1_listing}
use Rattle.rules.specs.Pages.{page, is_nine, flagged, m2, m3}

-- ── claims of a description's stored table, and of a packet's answer ──

pub data Claim : Type 0 where
  -- the answer to the table
  checks : Description → Answer → Claim
  -- the answer to any bytes as a table, by an edition
  checks_in : Edition → List ℕ → Answer → Claim
  -- and to a packet, and what a run of so many 9s holds then
  reads_in : Edition → ℕ → List ℕ → List ℕ → Answer → List ℕ → Claim
  -- the answer to a packet, and what a run of so many 9s holds then
  reads_with : ℕ → Description → List ℕ → Answer → List ℕ → Claim
  -- the answer where a packet is listed, and what an output of so many 9s holds then
  lists_with : ℕ → Description → List ℕ → Answer → List ℕ → Claim
  -- the bytes of the field of an index, and where in the packet they begin
  hands : Description → List ℕ → ℕ → List ℕ → ℕ → Claim
  -- where they begin, and how many they are
  places_part : Description → List ℕ → ℕ → Part → Claim
  -- the answer to a name that is looked for, in the table of a description and in any table
  finds : Description → List ℕ → Answer → Claim
  finds_in : List ℕ → List ℕ → Answer → Claim
  -- the label of the field of an index, and where in the table it begins
  labels : Description → ℕ → List ℕ → ℕ → Claim
  -- where it begins, and its length
  places_label : Description → ℕ → Part → Claim
  -- 01's number, place and amount of a packet's answer
  tells_number : PacketAnswer → ℕ → Claim
  tells_place : PacketAnswer → ℕ → Claim
  tells_amount : PacketAnswer → ℕ → Claim
  -- the limits
  tells_limits : List ℕ → Claim
  -- the number of fields
  counts : Description → Answer → Claim
  -- the kind of the field of an index
  tells_kind : Description → ℕ → Answer → Claim
  -- its short name, and where in the table it begins
  shorts : Description → ℕ → List ℕ → ℕ → Claim
  -- where it begins, and its length
  places_short : Description → ℕ → Part → Claim
  -- the answer to a packet, what a run of so many 9s holds then, and how many fields it has
  partly_with : ℕ → Description → List ℕ → Answer → List ℕ → ℕ → Claim
  -- how often the field of an index is read, in the table of a description and in any table [02, R-5]
  counts_readers : Description → ℕ → Answer → Claim
  counts_readers_in : List ℕ → ℕ → Answer → Claim
  -- the answer where any bytes are converted, and what an output of so many 9s holds then [02, R-5]
  converts_with : ℕ → List ℕ → Answer → List ℕ → Claim
  -- and where a run of a table's fields is cut out, or records are put in before the field of an index [02, R-4]
  cuts_with : ℕ → List ℕ → ℕ → ℕ → Answer → List ℕ → Claim
  puts_with : ℕ → List ℕ → ℕ → List ℕ → Answer → List ℕ → Claim

-- by the edition in force
abbrev pub checks_bytes : List ℕ → Answer → Claim
checks_bytes table a = checks_in current table a

-- with a run of thirty 9s
abbrev pub reads : Description → List ℕ → Answer → List ℕ → Claim
reads d packet a after = reads_with 30 d packet a after

abbrev pub reads_partly : Description → List ℕ → Answer → List ℕ → ℕ → Claim
reads_partly d packet a after n = partly_with 30 d packet a after n

-- with an output of 120 nines
abbrev pub lent_output : List ℕ
lent_output = replicate 120 9

abbrev pub lists : Description → List ℕ → Answer → List ℕ → Claim
lists d packet a after = lists_with 120 d packet a after

abbrev pub Claimed : Claim → Type 0
Claimed (checks d a) = ChecksTable (stored d) a
Claimed (checks_in e table a) = ChecksTableIn e table a
Claimed (reads_in e n table packet a after) = ReadsPacketIn e table packet (replicate n 9) (leaves a after)
Claimed (reads_with n d packet a after) = ReadsPacket (stored d) packet (replicate n 9) (leaves a after)
Claimed (lists_with n d packet a after) = ListsPacket (stored d) packet (replicate n 9) (leaves a after)
Claimed (hands d packet i part start) = (from : ℕ × ℕ) × LendsPart (stored d) packet i from part (moved_by start from)
Claimed (places_part d packet i part) = PlacesPart (stored d) packet i part
Claimed (finds d name a) = FindsField (stored d) name a
Claimed (finds_in table name a) = FindsField table name a
Claimed (labels d i label start) = (from : ℕ × ℕ) × LendsLabel (stored d) i from label (moved_by start from)
Claimed (places_label d i part) = PlacesLabel (stored d) i part
Claimed (tells_number r n) = n ≡ (of_packet r).number
Claimed (tells_place r n) = n ≡ (of_packet r).place
Claimed (tells_amount r n) = n ≡ (of_packet r).amount
Claimed (tells_limits l) = l ≡ limits
Claimed (counts d a) = CountsFields (stored d) a
Claimed (tells_kind d i a) = TellsKind (stored d) i a
Claimed (shorts d i short start) = (from : ℕ × ℕ) × LendsShort (stored d) i from short (moved_by start from)
Claimed (places_short d i part) = PlacesShort (stored d) i part
Claimed (partly_with m d packet a after n) = ReadsPartly (stored d) packet (replicate m 9) (leaves_partly a after n)
Claimed (counts_readers d i a) = CountsReaders (stored d) i a
Claimed (counts_readers_in table i a) = CountsReaders table i a
Claimed (converts_with n table a after) = ConvertsTable table (replicate n 9) (leaves a after)
Claimed (cuts_with n table first last a after) = CutsFields table first last (replicate n 9) (leaves a after)
Claimed (puts_with n table at records a after) = PutsFields table at records (replicate n 9) (leaves a after)

abbrev pub AllFalse : List Claim → Type 0
AllFalse = Every (λ c. Claimed c → ⊥)

-- ── short ways to write what was left in a buffer ──

abbrev pub run_of : List Entry → List ℕ
run_of entries = overlaid (joined numbers_of entries) lent_run

abbrev pub output_of : List ℕ → List ℕ
output_of text = overlaid text lent_output

-- the first six entries of M1, and all
abbrev pub m1_six : List Entry
m1_six = entry 0 2 1 ∷ entry 2 1 1 ∷ entry 3 5 2 ∷ entry 8 8 7 ∷ entry 16 16 300 ∷ entry 32 16 0 ∷ []

abbrev pub m1_entries : List Entry
m1_entries = m1_six ++ (entry 48 16 9 ∷ [])

-- M1's listing without its first line
abbrev pub m1_rest : List ℕ
m1_rest = drop 15 m1_listing

-- the third field depends on the first, beside which another stands
abbrev pub beside : Description
beside = page
    (named "Mine" "M" (fixed 8) none none
    ∷ named "Other" "O" (fixed 8) none none
    ∷ unnamed "Tail" (fixed 8) none (some (two Eq (read 0) (num 1)))
    ∷ [])

-- ── the answers ──

abbrev wrong_tables : List Claim
wrong_tables =
    -- 21 for every table
    checks blade_report not_good
    ∷ reads blade_report m1 not_good lent_run
    -- another length for a table
    ∷ checks blade_report (accepted 0)
    -- every table accepted
    ∷ checks_bytes [] (accepted 0)
    ∷ []

abbrev wrong_readings : List Claim
wrong_readings =
    -- every packet accepted, and nothing written
    reads blade_report m1 (accepted 64) lent_run
    ∷ reads blade_report m3 (accepted 56) lent_run
    -- the first field read truly, the rest called absent
    ∷ reads blade_report m1 (accepted 64) (run_of (entry 0 2 1 ∷ replicate 6 absent))
    -- an invented bit total
    ∷ reads blade_report m1 (accepted 63) (run_of m1_entries)
    ∷ reads blade_report m1 (accepted 0) (run_of m1_entries)
    -- an absent field read as 0, so that `E == 9` is no and the third field absent; or the fault passed over
    ∷ reads (flagged (some is_nine)) (0 ∷ []) (accepted 8) (run_of (entry 0 8 0 ∷ absent ∷ absent ∷ []))
    ∷ reads (flagged (some is_nine)) (0 ∷ 5 ∷ []) (refused 28 0) lent_run
    ∷ reads (flagged (some is_nine)) (0 ∷ 5 ∷ []) (accepted 16) (run_of (entry 0 8 0 ∷ absent ∷ absent ∷ []))
    ∷ reads (flagged (some is_nine)) (0 ∷ 5 ∷ []) (accepted 16) (run_of (entry 0 8 0 ∷ absent ∷ entry 8 8 5 ∷ []))
    -- the fault at the absent field, not at the one that reads it
    ∷ reads (flagged (some is_nine)) (0 ∷ 5 ∷ []) (refused 26 2) lent_run
    -- an absent field's constraint tested
    ∷ reads (flagged none) (0 ∷ 5 ∷ []) (refused 25 2) lent_run
    -- Borrower's offset kept while it is absent
    ∷ reads blade_report m2 (accepted 48)
    (run_of
    (entry 0 2 1
    ∷ entry 2 1 0
    ∷ entry 3 5 2
    ∷ entry 8 8 7
    ∷ record { present = 0; offset = 16; width = 0; value = 0 }
    ∷ entry 16 16 0
    ∷ entry 32 16 9
    ∷ []))
    -- entries written before a refusal
    ∷ reads blade_report m3 (refused 24 7) (run_of m1_six)
    -- what lies beyond the entries overwritten
    ∷ reads blade_report m1 (accepted 64) (joined numbers_of m1_entries ++ (0 ∷ 0 ∷ []))
    -- a neighbour read instead of the field that is named
    ∷ reads beside (0 ∷ 1 ∷ 7 ∷ []) (accepted 24) (run_of (entry 0 8 0 ∷ entry 8 8 1 ∷ entry 16 8 7 ∷ []))
    ∷ reads beside (0 ∷ 1 ∷ []) (refused 24 3) lent_run
    ∷ reads beside (1 ∷ 0 ∷ 7 ∷ []) (refused 28 0) lent_run
    -- V for L in Borrower's condition; L for N in the width of Readings
    ∷ reads blade_report m2 (refused 24 7) lent_run
    ∷ reads blade_report m1 (refused 28 0) lent_run
    ∷ []

abbrev wrong_listings : List Claim
wrong_listings =
    -- a listing: nothing written; a wrong line; a line left out; 21 for a good table; no refusal printed
    lists blade_report m1 (accepted (length m1_listing)) lent_output
    ∷ lists blade_report m1 (accepted (length m1_listing)) (output_of (bytes "Version: 0 2 2\n" ++ m1_rest))
    ∷ lists blade_report m1 (accepted (length m1_rest)) (output_of m1_rest)
    ∷ lists blade_report m1 (accepted 16) (output_of (bytes "refused 21 at 0\n"))
    ∷ lists blade_report m3 (accepted 0) lent_output
    ∷ []

abbrev wrong_parts : List Claim
wrong_parts =
    -- a part: the empty one for Readings; its neighbour's bytes; its own bytes from elsewhere
    hands blade_report m1 5 [] 0
    ∷ hands blade_report m1 5 (0x00 ∷ 0x09 ∷ []) 6
    ∷ hands blade_report m1 5 (0xAA ∷ 0xBB ∷ []) 0
    -- a part for a field that has none: of bits, absent, of a refused packet
    ∷ hands blade_report m1 0 (0x62 ∷ []) 0
    ∷ hands blade_report m2 4 (0xAA ∷ 0xBB ∷ []) 2
    ∷ hands blade_report m3 3 (0x07 ∷ []) 1
    -- where a part lies: the empty one for Readings; its neighbour's place; its own start with another size; in bits
    ∷ places_part blade_report m1 5 (part_from 0 0)
    ∷ places_part blade_report m1 5 (part_from 6 2)
    ∷ places_part blade_report m1 5 (part_from 4 4)
    ∷ places_part blade_report m1 5 (part_from 32 16)
    -- a place for a field that has no part: of bits, absent, of a refused packet
    ∷ places_part blade_report m1 0 (part_from 0 1)
    ∷ places_part blade_report m2 4 (part_from 2 2)
    ∷ places_part blade_report m3 3 (part_from 1 1)
    ∷ []

abbrev wrong_lookups : List Claim
wrong_lookups =
    -- a field by name: no name found; labels or short names passed over; indexes from 1; case ignored; a prefix taken
    finds blade_report (bytes "V") (refused 30 0)
    ∷ finds blade_report (bytes "Blade") (refused 30 0)
    ∷ finds blade_report (bytes "Blade") (accepted 4)
    ∷ finds blade_report (bytes "v") (accepted 0)
    ∷ finds blade_report (bytes "Bla") (accepted 3)
    -- 21 for a good table
    ∷ finds blade_report (bytes "V") not_good
    ∷ []

abbrev wrong_labels : List Claim
wrong_labels =
    -- a label: the empty part; the short name; the neighbour's; its own bytes from elsewhere; one beyond the fields
    labels blade_report 0 [] 0
    ∷ labels blade_report 0 (bytes "V") 39
    ∷ labels blade_report 0 (bytes "On Loan") 62
    ∷ labels blade_report 0 (bytes "Version") 0
    ∷ labels blade_report 7 (bytes "Sum") 200
    -- where a label lies: the empty part; the short name's place; the neighbour's; its own start with another size;
    -- its length taken in; one beyond the fields
    ∷ places_label blade_report 0 (part_from 0 0)
    ∷ places_label blade_report 0 (part_from 39 1)
    ∷ places_label blade_report 0 (part_from 62 7)
    ∷ places_label blade_report 0 (part_from 30 12)
    ∷ places_label blade_report 0 (part_from 28 9)
    ∷ places_label blade_report 7 (part_from 200 3)
    ∷ []

abbrev wrong_answers : List Claim
wrong_answers =
    -- a number: 24 told as 25; 0 for a refusal; the bit total of an accepted packet
    tells_number (Err (PacketRefusal.Field BitsMissing 7)) 25
    ∷ tells_number (Err (PacketRefusal.Field BitsMissing 7)) 0
    ∷ tells_number (Err PacketRefusal.NotGood) 0
    ∷ tells_number (Ok 64) 64
    -- a place: fields counted from 0; no place for a field's fault; one for an accepted packet, or for bits left over
    ∷ tells_place (Err (PacketRefusal.Field BitsMissing 7)) 6
    ∷ tells_place (Err (PacketRefusal.Field BitsMissing 7)) 0
    ∷ tells_place (Ok 64) 7
    ∷ tells_place (Err PacketRefusal.LeftOver) 7
    -- an amount: one for a refusal; none, or bytes for bits, for an accepted packet
    ∷ tells_amount (Err (PacketRefusal.Field BitsMissing 7)) 56
    ∷ tells_amount (Err PacketRefusal.LeftOver) 72
    ∷ tells_amount (Ok 64) 0
    ∷ tells_amount (Ok 64) 8
    -- the limits: one field more; a byte less for a label; one left out
    ∷ tells_limits (set limits 1 129)
    ∷ tells_limits (set limits 3 39)
    ∷ tells_limits (take 9 limits)
    -- the number of fields: those with a short name alone; the table's length; 21 for a good table
    ∷ counts blade_report (accepted 4)
    ∷ counts blade_report (accepted 215)
    ∷ counts blade_report not_good
    -- a kind: fixed for every field; the first record's; the last record's for an index beyond; none for a field
    ∷ tells_kind blade_report 5 (accepted 12)
    ∷ tells_kind blade_report 0 (accepted 1)
    ∷ tells_kind blade_report 7 (accepted 5)
    ∷ tells_kind blade_report 0 (refused 30 0)
    ∷ []

abbrev wrong_shorts : List Claim
wrong_shorts =
    -- a short name: the empty part; the label; the neighbour's; its own bytes from elsewhere; the label for none
    shorts blade_report 0 [] 0
    ∷ shorts blade_report 0 (bytes "Version") 30
    ∷ shorts blade_report 0 (bytes "L") 71
    ∷ shorts blade_report 0 (bytes "V") 30
    ∷ shorts blade_report 3 (bytes "Blade") 116
    -- where it lies: the empty part; its length taken in; where it would stand for a field that has none
    ∷ places_short blade_report 0 (part_from 0 0)
    ∷ places_short blade_report 0 (part_from 37 3)
    ∷ places_short blade_report 3 (part_from 123 0)
    ∷ []

abbrev wrong_partly : List Claim
wrong_partly =
    -- read as far as it goes: nothing written; the refused field counted; its numbers written, also where it breaks its
    -- constraint; accepted; nothing where bits are left over
    reads_partly blade_report m3 (refused 24 7) lent_run 0
    ∷ reads_partly blade_report m3 (refused 24 7) (run_of m1_six) 7
    ∷ reads_partly blade_report m3 (refused 24 7) (run_of (m1_six ++ (absent ∷ []))) 6
    ∷ reads_partly blade_report (0x55 ∷ 0x07 ∷ []) (refused 25 3)
    (run_of (entry 0 2 1 ∷ entry 2 1 0 ∷ entry 3 5 21 ∷ [])) 2
    ∷ reads_partly blade_report m3 (accepted 56) (run_of m1_six) 6
    ∷ reads_partly blade_report (m1 ++ (0x00 ∷ [])) (refused 28 0) lent_run 0
    ∷ []

abbrev pub wrong : List Claim
wrong =
    wrong_tables
    ++ (wrong_readings ++ (wrong_listings ++ (wrong_parts ++ (wrong_lookups ++ (wrong_labels
    ++ (wrong_answers ++ (wrong_shorts ++ wrong_partly)))))))
