-- Right answers: for each sort of claim of which laws/specs/Wrong, WrongLimits, WrongNames, WrongOperators,
-- WrongNumbers, WrongRecords, WrongEdits and WrongPuts list false ones, one that holds, so that none of those is false
-- for want of an answer.
-- [01, The blade report, marked cases and listing] [02, R-10] [02, R-2] [02, R-4] [02, R-7] [02, R-5]
use Rattle.std.specs.Prelude.{List, [], ◌∷◌, ◌++◌, map, length, replicate, set, Ok, Err}
use Rattle.base.specs.Bytes.{bytes}
use Rattle.base.specs.Lists.{joined, Every}
use Rattle.rules.specs.declared.Op.TheVariants.{Add, Div, Rem, Pow}
use Rattle.rules.specs.declared.Fault.TheVariants.{BitsMissing, ZeroDivisor}
use Rattle.rules.specs.declared.PacketRefusal.{PacketRefusal}
use Rattle.rules.specs.Limits.{limits}
use Rattle.rules.specs.Reading.{absent, numbers_of, part_from}
use Rattle.rules.specs.Answers.{accepted, refused}
use Rattle.rules.specs.Editions.{current, earlier, uncounted, without_readers}
use Rattle.rules.specs.Stored.{stored_in, stored}
use Rattle.rules.specs.Promises.{overlaid}
use Rattle.rules.specs.Cases.{lent_run, entry}
use Rattle.rules.specs.Marked.{blade_report, m1, m1_listing, tag, tag_table}
use Rattle.rules.specs.Pages.{with_rest, m3, old_tag_table}
use Rattle.laws.specs.Wrong.{
  Claim,
  checks,
  checks_in,
  checks_bytes,
  reads_in,
  reads_with,
  reads,
  lists,
  hands,
  places_part,
  finds,
  finds_in,
  labels,
  places_label,
  tells_number,
  tells_place,
  tells_amount,
  tells_limits,
  counts,
  tells_kind,
  shorts,
  places_short,
  reads_partly,
  partly_with,
  lists_with,
  counts_readers,
  counts_readers_in,
  cuts_with,
  puts_with,
  Claimed,
  run_of,
  output_of,
  m1_six,
  m1_entries,
}
use Rattle.laws.specs.WrongLimits.{fields_of, fives, entries_of, listing_of}
use Rattle.laws.specs.WrongNames.{by_label, label_first}
use Rattle.laws.specs.WrongOperators.{
  both_give,
  sized_by,
  sized,
  required_by,
  present_by,
  by_absent,
  coded,
  before,
  first_two,
  takes,
  stops,
  one,
  lacks,
}
use Rattle.laws.specs.WrongNumbers.{often, many_times, twice, numbered, old, nines, becomes, keeps_old}
use Rattle.laws.specs.WrongRecords.{
  chained,
  long_record,
  longer,
  readings_kind,
  old_readings_kind,
  rest_kind,
  old_rest_kind,
  cut_length,
}
use Rattle.laws.specs.WrongEdits.{five, four, pair, letters, cut_to, cut_stops}
use Rattle.laws.specs.WrongPuts.{new_record, last_record, new_second, put_to, put_stops}

-- a label that is read, and one that is another's short name [02, R-2]
abbrev in_names : List Claim
in_names =
    checks (by_label "Mine") (accepted 87)
    ∷ checks_bytes (stored label_first) (refused 21 0)
    ∷ finds_in (stored label_first) (bytes "L") (refused 21 0)
    ∷ finds_in (stored (by_label "Mine")) (bytes "Mine") (accepted 0)
    ∷ reads (by_label "Mine") (0 ∷ 1 ∷ []) (accepted 16) (run_of (entry 0 8 0 ∷ entry 8 8 1 ∷ absent ∷ []))
    ∷ []

-- quotients, remainders and powers, and the edition without them [02, R-7]
abbrev in_operators : List Claim
in_operators =
    takes (sized Div) 7 2 3
    ∷ takes (sized Rem) 7 2 1
    ∷ takes (sized Pow) 2 3 8
    ∷ takes (sized Pow) 0 0 1
    ∷ stops (sized Div) 7 0 0 29 3
    ∷ stops (sized Rem) 7 0 0 29 3
    ∷ stops (sized Pow) 2 32 0 27 3
    ∷ one (required_by (both_give Div 3)) 7 2
    ∷ lacks (present_by (both_give Rem 1)) 8 2
    ∷ reads by_absent (0 ∷ []) (refused 26 3) lent_run
    ∷ lists (sized Div) (7 ∷ 0 ∷ []) (accepted 16) (output_of (bytes "refused 29 at 3\n"))
    ∷ hands (sized Div) (7 ∷ 2 ∷ 5 ∷ 5 ∷ 5 ∷ []) 2 (5 ∷ 5 ∷ 5 ∷ []) 2
    ∷ hands (sized Div) (7 ∷ 0 ∷ []) 0 [] 0
    ∷ places_part (sized Div) (7 ∷ 0 ∷ []) 1 (part_from 0 0)
    ∷ reads_partly (sized Div) (7 ∷ 0 ∷ []) (refused 29 3) (run_of (first_two 7 0)) 2
    ∷ reads_partly (required_by (both_give Div 0)) (7 ∷ 0 ∷ 5 ∷ []) (refused 29 3) (run_of (first_two 7 0)) 2
    ∷ tells_number (Err (PacketRefusal.Field ZeroDivisor 3)) 29
    ∷ tells_place (Err (PacketRefusal.Field ZeroDivisor 3)) 3
    ∷ checks (sized Pow) (accepted 90)
    ∷ checks_in earlier (stored (sized Pow)) (accepted 90)
    ∷ checks_bytes (coded 0x15) (accepted 90)
    ∷ checks_bytes (coded 15) (refused 21 0)
    ∷ reads_in current 30 (coded 0x16) (7 ∷ 2 ∷ []) (refused 21 0) lent_run
    ∷ checks_in before (stored (sized Pow)) (refused 21 0)
    ∷ reads_in before 30 (stored (sized Div)) (7 ∷ 0 ∷ []) (refused 21 0) lent_run
    ∷ checks_in before (stored tag) (accepted 46)
    ∷ reads_in before 30 (stored blade_report) m1 (accepted 64) (run_of m1_entries)
    ∷ []

-- how often a field is read, and old tables [02, R-5]
abbrev in_numbers : List Claim
in_numbers =
    counts_readers tag 0 (accepted 0)
    ∷ counts_readers blade_report 1 (accepted 1)
    ∷ counts_readers blade_report 2 (accepted 1)
    ∷ counts_readers blade_report 6 (accepted 0)
    ∷ counts_readers blade_report 7 (refused 30 0)
    ∷ counts_readers blade_report 258 (refused 30 0)
    ∷ counts_readers (fields_of 65) 64 (accepted 0)
    ∷ counts_readers (sized_by twice) 0 (accepted 2)
    ∷ counts_readers often 0 (accepted 4)
    ∷ counts_readers many_times 0 (accepted 256)
    ∷ counts_readers_in tag_table 0 (accepted 0)
    ∷ counts_readers_in (set tag_table 17 1) 0 (refused 21 0)
    ∷ counts_readers_in old_tag_table 1 (refused 21 0)
    -- tables, by the edition in force and by the one of old tables
    ∷ checks often (accepted 148)
    ∷ checks many_times (accepted 951)
    ∷ checks_bytes (numbered blade_report 2 1) (accepted 215)
    ∷ checks_bytes (numbered blade_report 2 2) (refused 21 0)
    ∷ checks_bytes (set tag_table 15 12) (accepted 46)
    ∷ checks_bytes (set tag_table 15 15) (refused 21 0)
    ∷ checks_in uncounted old_tag_table (accepted 44)
    ∷ checks_in uncounted (old blade_report) (accepted 201)
    ∷ checks_in uncounted tag_table (refused 21 0)
    ∷ checks_in uncounted (old (fields_of 64)) (accepted 1096)
    ∷ checks_in uncounted (old (fields_of 65)) (refused 21 0)
    ∷ reads_in uncounted 30 (old blade_report) m1 (accepted 64) (run_of m1_entries)
    ∷ reads_in current 30 (old blade_report) m1 (refused 21 0) lent_run
    ∷ []

-- what is converted, and what is refused
abbrev in_converted : List Claim
in_converted =
    becomes 50 old_tag_table tag_table
    ∷ becomes 215 (old blade_report) (stored blade_report)
    ∷ becomes 250 (old often) (stored often)
    ∷ becomes 1000 (old many_times) (stored many_times)
    ∷ becomes 1300 (old (fields_of 64)) (stored (fields_of 64))
    ∷ becomes 100 (old (sized Add)) (stored (sized Add))
    ∷ becomes 100 (old (by_label "Mine")) (stored (by_label "Mine"))
    ∷ keeps_old 45 old_tag_table 11
    ∷ keeps_old 214 (old blade_report) 11
    ∷ keeps_old 1300 (old (fields_of 65)) 21
    ∷ map (λ o. keeps_old 100 (old (sized o)) 21) (Div ∷ Rem ∷ Pow ∷ [])
    ++ (keeps_old 100 (old label_first) 21
    ∷ keeps_old 50 tag_table 21
    ∷ keeps_old 10 tag_table 21
    ∷ keeps_old 50 (set old_tag_table 42 4) 21
    ∷ [])

-- records of each kind, of many fields, and of 256 bytes and more
abbrev in_records : List Claim
in_records =
    checks_bytes (readings_kind 13) (accepted 215)
    ∷ checks_bytes (readings_kind 3) (refused 21 0)
    ∷ checks_bytes (rest_kind 14) (accepted 75)
    ∷ checks_bytes (rest_kind 4) (refused 21 0)
    ∷ checks_in uncounted (old_readings_kind 3) (accepted 201)
    ∷ checks_in uncounted (old_rest_kind 4) (accepted 69)
    ∷ checks_in without_readers (stored_in without_readers (fields_of 65)) (accepted 1113)
    ∷ checks_in without_readers (stored_in without_readers (sized Pow)) (accepted 84)
    ∷ checks_bytes (stored_in without_readers (fields_of 65)) (refused 21 0)
    ∷ keeps_old 250 (old_readings_kind 13) 21
    ∷ keeps_old 100 (old_rest_kind 14) 21
    ∷ keeps_old 50 (set old_tag_table 16 1) 21
    ∷ map (λ k. keeps_old 50 (set old_tag_table 15 k) 21) (1 ∷ 5 ∷ 0 ∷ [])
    ++ (keeps_old 100 (old (required_by (both_give Pow 1))) 21
    ∷ keeps_old 100 (old (present_by (both_give Div 1))) 21
    ∷ keeps_old 50 (longer 13 40 old_tag_table) 21
    -- the index before the last is read once, the last by itself alone
    ∷ map (λ i. counts_readers (chained i) i (accepted 1)) (15 ∷ 16 ∷ 63 ∷ 64 ∷ 126 ∷ [])
    ++ (counts_readers (chained 126) 127 (accepted 0)
    ∷ checks (chained 126) (accepted 2484)
    ∷ checks_bytes (numbered (chained 126) 126 1) (accepted 2484)
    ∷ becomes 1240 (old (chained 62)) (stored (chained 62))
    ∷ keeps_old 1300 (old (chained 63)) 21
    -- the length of a record goes from 254 to 256, and from 255 to 257
    ∷ checks_bytes (set (set (cut_length 8) 35 0) 36 1) (accepted 295)
    ∷ checks_bytes (set (set (cut_length 9) 35 1) 36 1) (accepted 296)
    ∷ checks_bytes (cut_length 8) (refused 21 0)
    ∷ checks_in uncounted (set (set (old (long_record 8)) 33 254) 34 0) (accepted 291)
    ∷ map (λ n. becomes 300 (old (long_record n)) (stored (long_record n))) (8 ∷ 9 ∷ 10 ∷ [])))

-- the edition of old tables, with a packet of its most bytes and one over
abbrev in_uncounted : List Claim
in_uncounted =
    reads_in uncounted 30 (old with_rest) (fives 2048) (accepted 16384)
    (run_of (entry 0 8 5 ∷ entry 8 16368 0 ∷ entry 16376 8 5 ∷ []))
    ∷ reads_in uncounted 30 (old with_rest) (fives 2049) (refused 22 0) lent_run
    ∷ []

-- fields that are cut out and put in; 21 before all else [02, R-4]
abbrev in_edits : List Claim
in_edits =
    cut_to five 2 2 four
    ∷ cut_stops five 1 1 31 4
    ∷ cut_stops letters 0 1 34 0
    ∷ cut_stops letters 1 0 30 0
    ∷ cuts_with 34 (stored letters) 0 0 (refused 11 0) (nines 34)
    ∷ cuts_with 200 (numbered pair 0 0) 1 1 (refused 21 0) (nines 200)
    ∷ cuts_with 200 (numbered pair 0 0) 1 0 (refused 21 0) (nines 200)
    ∷ cuts_with 60 (old letters) 0 0 (refused 21 0) (nines 60)
    ∷ cuts_with 9 (old letters) 0 0 (refused 21 0) (nines 9)
    ∷ cuts_with 200 [] 0 0 (refused 21 0) (nines 200)
    ∷ put_to pair 1 new_record new_second
    ∷ put_stops pair 1 last_record 34
    ∷ put_stops pair 3 new_record 30
    ∷ puts_with 84 (stored pair) 1 new_record (refused 11 0) (nines 84)
    ∷ puts_with 200 (numbered pair 0 0) 1 new_record (refused 21 0) (nines 200)
    ∷ puts_with 200 (numbered pair 0 0) 9 new_record (refused 21 0) (nines 200)
    ∷ puts_with 200 (old pair) 1 [] (refused 21 0) (nines 200)
    ∷ puts_with 200 (old pair) 1 last_record (refused 21 0) (nines 200)
    ∷ []

abbrev in_all : List Claim
in_all =
    checks blade_report (accepted 215)
    ∷ checks_bytes [] (refused 21 0)
    ∷ checks (fields_of 65) (accepted 1243)
    ∷ reads_with 260 (fields_of 65) (fives 65) (accepted 520) (joined numbers_of (entries_of 0 65))
    ∷ partly_with 260 (fields_of 65) (fives 65) (accepted 520) (joined numbers_of (entries_of 0 65)) 65
    ∷ lists_with 1000 (fields_of 65) (fives 65) (accepted 829)
    (overlaid (listing_of 65 (bytes "bits 520\n")) (replicate 1000 9))
    -- the earlier edition at its limits and one over
    ∷ checks_in earlier (stored (fields_of 64)) (accepted 1224)
    ∷ checks_in earlier (stored (fields_of 65)) (refused 21 0)
    ∷ reads_in earlier 30 (stored with_rest) (fives 2048) (accepted 16384)
    (run_of (entry 0 8 5 ∷ entry 8 16368 0 ∷ entry 16376 8 5 ∷ []))
    ∷ reads_in earlier 30 (stored with_rest) (fives 2049) (refused 22 0) lent_run
    ∷ reads with_rest (fives 2049) (accepted 16392) (run_of (entry 0 8 5 ∷ entry 8 16376 0 ∷ entry 16384 8 5 ∷ []))
    -- the blade report
    ∷ reads blade_report m1 (accepted 64) (run_of m1_entries)
    ∷ reads blade_report m3 (refused 24 7) lent_run
    ∷ lists blade_report m1 (accepted (length m1_listing)) (output_of m1_listing)
    ∷ hands blade_report m1 5 (0xAA ∷ 0xBB ∷ []) 4
    ∷ places_part blade_report m1 5 (part_from 4 2)
    ∷ finds blade_report (bytes "Blade") (accepted 3)
    ∷ labels blade_report 0 (bytes "Version") 30
    ∷ places_label blade_report 0 (part_from 30 7)
    ∷ tells_number (Err (PacketRefusal.Field BitsMissing 7)) 24
    ∷ tells_place (Err (PacketRefusal.Field BitsMissing 7)) 7
    ∷ tells_amount (Ok 64) 64
    ∷ tells_limits limits
    ∷ counts blade_report (accepted 7)
    ∷ tells_kind blade_report 5 (accepted 13)
    ∷ tells_kind blade_report 7 (refused 30 0)
    ∷ shorts blade_report 0 (bytes "V") 39
    ∷ places_short blade_report 3 (part_from 0 0)
    ∷ reads_partly blade_report m3 (refused 24 7) (run_of m1_six) 6
    ∷ reads_partly blade_report (m1 ++ (0 ∷ [])) (refused 28 0) (run_of m1_entries) 7
    ∷ []

abbrev pub promised : List Claim
promised =
    in_all
    ++ (in_names ++ (in_operators ++ (in_numbers ++ (in_converted ++ (in_records ++ (in_edits ++ in_uncounted))))))

abbrev pub AllSo : List Claim → Type 0
AllSo = Every Claimed
