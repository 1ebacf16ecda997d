-- Answers of programs that are wrong about how often a field is read, and about old tables. [02, R-5]
use Rattle.std.specs.Prelude.{refl, true, false, cond, List, [], ◌∷◌, ◌++◌, map, ℕ, zero, suc, eqb, length, replicate}
use Rattle.std.specs.Prelude.{take, drop, set, get_or}
use Rattle.std.proofs.Math.Option.{none, some}
use Rattle.base.specs.Bytes.{bytes}
use Rattle.rules.specs.declared.Op.TheVariants.{And, Eq, Lt, Add, Div, Rem, Pow}
use Rattle.rules.specs.Trees.{Tree, num, read, two, negation}
use Rattle.rules.specs.Fields.{fixed, measured, Description}
use Rattle.rules.specs.Editions.{Edition, current, earlier, uncounted}
use Rattle.rules.specs.References.{readers}
use Rattle.rules.specs.Stored.{stored_with, stored_in, stored}
use Rattle.rules.specs.Reading.{part_from}
use Rattle.rules.specs.Answers.{accepted, refused}
use Rattle.rules.specs.Promises.{overlaid, not_good}
use Rattle.rules.specs.Cases.{named, unnamed}
use Rattle.rules.specs.Marked.{blade_report, m1, tag, tag_table}
use Rattle.rules.specs.Pages.{page, with_rest, all_kinds, old_tag_table}
use Rattle.laws.specs.Wrong.{
  Claim,
  checks,
  checks_in,
  checks_bytes,
  reads_in,
  finds_in,
  labels,
  places_label,
  tells_kind,
  shorts,
  counts_readers,
  counts_readers_in,
  converts_with,
  run_of,
  m1_entries,
}
use Rattle.laws.specs.WrongLimits.{fields_of}
use Rattle.laws.specs.WrongNames.{by_label, label_first}
use Rattle.laws.specs.WrongOperators.{of_both, sized_by, required_by, present_by, sized}

-- ── descriptions ──

-- S is read by a width, by a constraint, and twice by a condition; F once by that constraint; and S by its own
abbrev pub often : Description
often = page
    (named "Size" "S" (fixed 8) (some (two Lt (read 0) (num 9))) none
    ∷ named "Flag" "F" (fixed 8) none none
    ∷ unnamed "Body" (measured 8 (read 0)) none none
    ∷ unnamed "Mark" (fixed 8) (some (two Eq (read 0) (read 1))) none
    ∷ unnamed "Tail" (fixed 8) none (some (two Eq (two Add (read 0) (read 0)) (num 4)))
    ∷ [])

-- `S + S` and so on: two to the power n references, depth n + 1, 95 bytes where n is 5
unfoldable pub doubled : ℕ → Tree ℕ
doubled zero = read 0
doubled (suc n) = two Add (doubled n) (doubled n)

-- S is read 32 times by each of 8 widths
abbrev pub many_times : Description
many_times = page
    (named "Size" "S" (fixed 8) none none
    ∷ map (λ l. unnamed l (measured 8 (doubled 5)) none none)
    ("A" ∷ "B" ∷ "C" ∷ "D" ∷ "E" ∷ "F" ∷ "G" ∷ "H" ∷ []))

-- the third field reads the first by an expression of its own, once: on the left, on the right, under `!`; twice
abbrev on_left : Tree ℕ
on_left = two Eq (read 0) (num 1)

abbrev on_right : Tree ℕ
on_right = two Eq (num 1) (read 0)

abbrev pub twice : Tree ℕ
twice = two Add (read 0) (read 0)

-- ── tables ──

-- with another number for the field of an index; with one number for all; with those of a list, and 0 behind it
abbrev pub numbered : Description → ℕ → ℕ → List ℕ
numbered d i n = stored_with current (λ j. cond (eqb j i) n (readers d.fields j)) d

abbrev pub alike : Description → ℕ → List ℕ
alike d n = stored_with current (λ i. n) d

abbrev pub listed : Description → List ℕ → List ℕ
listed d numbers = stored_with current (λ i. get_or numbers i 0) d

-- of the kinds 2 to 4, with numbers; of the kinds 12 to 14, without
abbrev pub old_kinds : Edition
old_kinds = record {
  row_lines = current.row_lines;
  line_bytes = current.line_bytes;
  fields = current.fields;
  few = current.few;
  packet = current.packet;
  knows = current.knows;
  means = current.means;
  fixed_kind = 2;
  short = refl;
  keeps_readers = true;
}

abbrev pub unnumbered : Edition
unnumbered = record {
  row_lines = current.row_lines;
  line_bytes = current.line_bytes;
  fields = current.fields;
  few = current.few;
  packet = current.packet;
  knows = current.knows;
  means = current.means;
  fixed_kind = 12;
  short = refl;
  keeps_readers = false;
}

-- an old table; the blade report's with the old record of Version alone
abbrev pub old : Description → List ℕ
old d = stored_in uncounted d

abbrev pub mixed : List ℕ
mixed = take 52 (old blade_report) ++ drop 54 (stored blade_report)

-- ── short ways to write a claim ──

-- the bytes are accepted as a table
abbrev pub accepts : List ℕ → Claim
accepts table = checks_bytes table (accepted (length table))

abbrev pub nines : ℕ → List ℕ
nines n = replicate n 9

-- the bytes become a table, in an output of n bytes; they are refused, and the output is as it was
abbrev pub becomes : ℕ → List ℕ → List ℕ → Claim
becomes n table new = converts_with n table (accepted (length new)) (overlaid new (nines n))

abbrev pub keeps_old : ℕ → List ℕ → ℕ → Claim
keeps_old n table number = converts_with n table (refused number 0) (nines n)

-- ── the answers ──

abbrev in_counts : List Claim
in_counts =
    -- the own constraint counted
    counts_readers tag 0 (accepted 1)
    ∷ counts_readers blade_report 0 (accepted 1)
    ∷ counts_readers blade_report 2 (accepted 2)
    ∷ counts_readers often 0 (accepted 5)
    -- 0 for every field; the own constraint taken off from the others
    ∷ counts_readers blade_report 1 (accepted 0)
    ∷ counts_readers blade_report 2 (accepted 0)
    -- a repeated reference counted once, or fields counted; one sort of expression left out, or counted alone
    ∷ counts_readers (sized_by twice) 0 (accepted 1)
    ∷ counts_readers often 0 (accepted 3)
    ∷ counts_readers often 0 (accepted 2)
    ∷ counts_readers often 0 (accepted 1)
    -- references left out: in a width, a constraint, a condition
    ∷ counts_readers (sized_by (read 0)) 0 (accepted 0)
    ∷ counts_readers (required_by on_left) 0 (accepted 0)
    ∷ counts_readers (present_by on_left) 0 (accepted 0)
    -- on the right, under `!`, of two fields that one expression reads; what `&&` may skip
    ∷ counts_readers (present_by on_right) 0 (accepted 0)
    ∷ counts_readers (present_by (negation on_left)) 0 (accepted 0)
    ∷ counts_readers (sized_by (of_both Add)) 1 (accepted 0)
    ∷ counts_readers (present_by (two And on_left on_right)) 0 (accepted 1)
    -- what the field reads in its place; the neighbour's number; indexes from 1
    ∷ counts_readers blade_report 4 (accepted 1)
    ∷ counts_readers blade_report 5 (accepted 1)
    ∷ counts_readers often 1 (accepted 4)
    ∷ counts_readers blade_report 3 (accepted 1)
    -- a number cut to a byte; one that stays at 255; its bytes exchanged
    ∷ counts_readers many_times 0 (accepted 0)
    ∷ counts_readers many_times 0 (accepted 255)
    ∷ counts_readers many_times 0 (accepted 1)
    -- the kind, the label's length or the record's place in its stead
    ∷ counts_readers blade_report 1 (accepted 12)
    ∷ counts_readers blade_report 1 (accepted 7)
    ∷ counts_readers blade_report 1 (accepted 54)
    ∷ []

abbrev in_indexes : List Claim
in_indexes =
    -- 30 for the last field, for the 65th, for the first
    counts_readers blade_report 6 (refused 30 0)
    ∷ counts_readers (fields_of 65) 64 (refused 30 0)
    ∷ counts_readers tag 0 (refused 30 0)
    -- a number for an index beyond; an index cut to a byte; a place for 30; 21 for it
    ∷ counts_readers blade_report 7 (accepted 0)
    ∷ counts_readers blade_report 258 (accepted 1)
    ∷ counts_readers blade_report 7 (refused 30 1)
    ∷ counts_readers blade_report 7 (refused 30 7)
    ∷ counts_readers blade_report 7 (refused 30 8)
    ∷ counts_readers blade_report 7 not_good
    -- 21 for a good table
    ∷ counts_readers blade_report 2 not_good
    ∷ counts_readers many_times 0 not_good
    -- a number of a table that is not good: the kept one, the true one, of an old one; 30 before 21
    ∷ counts_readers_in (set tag_table 17 1) 0 (accepted 1)
    ∷ counts_readers_in (set tag_table 17 1) 0 (accepted 0)
    ∷ counts_readers_in old_tag_table 0 (accepted 0)
    ∷ counts_readers_in (old blade_report) 2 (accepted 1)
    ∷ counts_readers_in old_tag_table 1 (refused 30 0)
    ∷ counts_readers_in [] 0 (refused 30 0)
    ∷ []

abbrev in_tables : List Claim
in_tables =
    -- a wrong number accepted: one more, one less, none where there are some, the own constraint counted
    accepts (numbered blade_report 3 1)
    ∷ accepts (numbered blade_report 1 2)
    ∷ accepts (numbered blade_report 1 0)
    ∷ accepts (alike blade_report 0)
    ∷ accepts (alike blade_report 1)
    ∷ accepts (set tag_table 17 1)
    ∷ accepts (numbered blade_report 2 2)
    ∷ accepts (numbered often 0 5)
    -- a repeated reference counted once; what a field reads; of a measured field, of the rest field, of the last
    ∷ accepts (numbered (sized_by twice) 0 1)
    ∷ accepts (numbered often 0 3)
    ∷ accepts (numbered blade_report 4 1)
    ∷ accepts (numbered blade_report 5 1)
    ∷ accepts (numbered with_rest 1 1)
    ∷ accepts (numbered blade_report 6 1)
    ∷ accepts (numbered (fields_of 128) 127 1)
    -- the low byte alone compared; the high byte first; every number accepted
    ∷ accepts (set tag_table 18 1)
    ∷ accepts (numbered blade_report 1 256)
    ∷ accepts (numbered blade_report 1 257)
    ∷ accepts (numbered many_times 0 0)
    ∷ accepts (numbered many_times 0 1)
    ∷ accepts (numbered many_times 0 65_535)
    -- the numbers of two fields exchanged
    ∷ accepts (listed blade_report (1 ∷ 0 ∷ 1 ∷ []))
    -- the same of the earlier limits
    ∷ checks_in earlier (set tag_table 17 1) (accepted 46)
    ∷ checks_in earlier (numbered blade_report 2 2) (accepted 215)
    -- a right table refused
    ∷ checks tag not_good
    ∷ checks often not_good
    ∷ checks many_times not_good
    ∷ checks all_kinds not_good
    ∷ checks_in earlier tag_table not_good
    ∷ []

abbrev in_kinds : List Claim
in_kinds =
    -- an old table accepted; the old kinds with numbers; the new ones without; one old record
    map (λ d. accepts (old d)) (tag ∷ blade_report ∷ with_rest ∷ [])
    ++ (map (λ d. accepts (stored_in old_kinds d)) (tag ∷ blade_report ∷ with_rest ∷ [])
    ++ (map (λ d. accepts (stored_in unnumbered d)) (tag ∷ blade_report ∷ with_rest ∷ [])
    ++ (accepts mixed
    ∷ checks_in earlier old_tag_table (accepted 44)
    -- kind 15, or one before; the kinds in hexadecimal; a neighbour's kind; a high byte
    ∷ map (λ k. accepts (set tag_table 15 k)) (15 ∷ 11 ∷ 2 ∷ 0x12 ∷ 13 ∷ 14 ∷ [])
    ++ (accepts (set tag_table 16 1)
    -- an old table, or one with a wrong number, that is read and looked up
    ∷ reads_in current 30 (old blade_report) m1 (accepted 64) (run_of m1_entries)
    ∷ reads_in current 30 (numbered blade_report 2 2) m1 (accepted 64) (run_of m1_entries)
    ∷ finds_in old_tag_table (bytes "K") (accepted 0)
    ∷ finds_in (set tag_table 17 1) (bytes "K") (accepted 0)
    -- the old kinds told; names where old tables have them, or with the own number left out
    ∷ tells_kind blade_report 0 (accepted 2)
    ∷ tells_kind blade_report 5 (accepted 3)
    ∷ tells_kind with_rest 1 (accepted 4)
    ∷ tells_kind blade_report 0 (accepted 0x12)
    ∷ labels blade_report 0 (bytes "Version") 28
    ∷ places_label blade_report 0 (part_from 28 7)
    ∷ places_label blade_report 1 (part_from 58 7)
    ∷ places_label blade_report 1 (part_from 60 7)
    ∷ shorts blade_report 0 (bytes "V") 37
    ∷ []))))

-- what an old table becomes
abbrev in_converted : List Claim
in_converted =
    -- the table as it was; its length, with the right bytes; the record's length or kind as it was
    becomes 50 old_tag_table old_tag_table
    ∷ converts_with 50 old_tag_table (accepted 44) (overlaid tag_table (nines 50))
    ∷ becomes 50 old_tag_table (set tag_table 13 0x1B)
    ∷ becomes 50 old_tag_table (set tag_table 15 2)
    ∷ becomes 250 (old blade_report) (stored_in old_kinds blade_report)
    ∷ becomes 250 (old blade_report) (stored_in unnumbered blade_report)
    -- the own constraint counted; 0 for all; a repeated reference counted once; a number cut to a byte
    ∷ becomes 50 old_tag_table (set tag_table 17 1)
    ∷ becomes 250 (old blade_report) (numbered blade_report 2 2)
    ∷ becomes 250 (old blade_report) (alike blade_report 0)
    ∷ becomes 250 (old often) (numbered often 0 3)
    ∷ becomes 1000 (old many_times) (alike many_times 0)
    -- other kinds: of the first record, of the last, in hexadecimal; a first record that is longer
    ∷ becomes 50 old_tag_table (set tag_table 2 11)
    ∷ becomes 50 old_tag_table (set tag_table 44 15)
    ∷ becomes 50 old_tag_table (set tag_table 15 0x12)
    ∷ becomes 50 old_tag_table (set tag_table 0 0x0F)
    -- NAME, a label, a short name, a width, a constraint changed
    ∷ becomes 50 old_tag_table (set tag_table 10 0x74)
    ∷ becomes 50 old_tag_table (set tag_table 21 0x6B)
    ∷ becomes 50 old_tag_table (set tag_table 27 0x6B)
    ∷ becomes 50 old_tag_table (set tag_table 28 9)
    ∷ becomes 50 old_tag_table (set tag_table 36 8)
    -- accepted, and nothing written; without its last record; the Tag table for every one
    ∷ converts_with 50 old_tag_table (accepted 46) (nines 50)
    ∷ becomes 50 old_tag_table (take 42 tag_table)
    ∷ becomes 250 (old blade_report) tag_table
    -- the output's length; what lies beyond changed
    ∷ converts_with 50 old_tag_table (accepted 50) (overlaid tag_table (nines 50))
    ∷ converts_with 50 old_tag_table (accepted 46) (tag_table ++ replicate 4 0)
    ∷ []

-- which bytes are refused
abbrev in_refused : List Claim
in_refused =
    -- 65 fields converted, or the first 64 of them; 64 refused
    becomes 1300 (old (fields_of 65)) (stored (fields_of 65))
    ∷ becomes 1300 (old (fields_of 65)) (stored (fields_of 64))
    ∷ keeps_old 1300 (old (fields_of 64)) 21
    -- `/`, `%` and `^` converted
    ∷ map (λ o. becomes 100 (old (sized o)) (stored (sized o))) (Div ∷ Rem ∷ Pow ∷ [])
    -- names by document 01 alone: a clash converted, a readable label refused
    ++ (becomes 100 (old label_first) (stored label_first)
    ∷ keeps_old 100 (old (by_label "Mine")) 21
    -- a table of the kinds 12 to 14 converted: as it is, or back; the old kinds with numbers, the new ones without
    ∷ becomes 50 tag_table tag_table
    ∷ becomes 50 tag_table old_tag_table
    ∷ converts_with 50 tag_table (accepted 0) (nines 50)
    ∷ becomes 50 (stored_in old_kinds tag) tag_table
    ∷ becomes 50 (stored_in unnumbered tag) tag_table
    ∷ becomes 250 mixed (stored blade_report)
    -- other bytes: none, a byte more, another last record
    ∷ becomes 50 [] []
    ∷ becomes 50 (old_tag_table ++ (0 ∷ [])) tag_table
    ∷ becomes 50 (set old_tag_table 42 4) tag_table
    ∷ [])

-- by which number, and what is left then
abbrev in_room : List Claim
in_room =
    -- 21 for a good old table; 11 although there is room
    keeps_old 50 old_tag_table 21
    ∷ keeps_old 250 (old blade_report) 21
    ∷ keeps_old 46 old_tag_table 11
    ∷ keeps_old 215 (old blade_report) 11
    -- the old length taken for the room; 21 for 11; 11 before 21; a place
    ∷ converts_with 45 old_tag_table (accepted 46) (take 45 tag_table)
    ∷ converts_with 45 old_tag_table (accepted 45) (take 45 tag_table)
    ∷ converts_with 44 old_tag_table (accepted 44) old_tag_table
    ∷ keeps_old 45 old_tag_table 21
    ∷ keeps_old 10 tag_table 11
    ∷ keeps_old 1242 (old (fields_of 65)) 11
    ∷ converts_with 45 old_tag_table (refused 11 46) (nines 45)
    ∷ converts_with 50 tag_table (refused 21 1) (nines 50)
    -- written before it refuses: before 11, before 21 at the last record, at an operator, at the 65th field
    ∷ converts_with 45 old_tag_table (refused 11 0) (take 45 tag_table)
    ∷ converts_with 45 old_tag_table (refused 11 0) (overlaid (take 13 tag_table) (nines 45))
    ∷ converts_with 50 (set old_tag_table 42 4) not_good (overlaid (take 42 tag_table) (nines 50))
    ∷ converts_with 50 tag_table not_good (overlaid (take 13 tag_table) (nines 50))
    ∷ converts_with 100 (old (sized Pow)) not_good (overlaid (take 59 (stored (sized Pow))) (nines 100))
    ∷ converts_with 1300 (old (fields_of 65)) not_good (overlaid (take 1220 (stored (fields_of 65))) (nines 1300))
    ∷ converts_with 50 [] not_good (replicate 50 0)
    ∷ []

abbrev pub wrong_numbers : List Claim
wrong_numbers = in_counts ++ (in_indexes ++ (in_tables ++ (in_kinds ++ (in_converted ++ (in_refused ++ in_room)))))
