-- Worked cases: fields that are cut out of a table, and put in. [02, R-4]
use Rattle.std.specs.Prelude.{List, [], ◌∷◌, ◌++◌, map, ℕ, suc, length, take, drop, set}
use Rattle.std.proofs.Math.Option.{none, some}
use Rattle.base.specs.Bytes.{bytes}
use Rattle.rules.specs.declared.Op.TheVariants.{Eq, Le}
use Rattle.rules.specs.Trees.{num, read, two}
use Rattle.rules.specs.Fields.{fixed, measured, rest, Field, Description}
use Rattle.rules.specs.Stored.{record_of, head_body, stored_field, stored}
use Rattle.rules.specs.Answers.{accepted, refused}
use Rattle.rules.specs.Promises.{leaves, overlaid}
use Rattle.rules.specs.Cases.{Case, cuts, puts, stores, named, unnamed}
use Rattle.rules.specs.Marked.{blade_report}
use Rattle.rules.specs.Pages.{page}
use Rattle.laws.specs.WrongLimits.{fields_of}
use Rattle.laws.specs.WrongNumbers.{many_times, listed, nines}
use Rattle.laws.specs.WrongRecords.{chained, long_record, longer}
use Rattle.laws.specs.WrongEdits.{
  plain,
  short,
  if_one,
  flag,
  size,
  mark,
  body,
  bits,
  five,
  four,
  first_three,
  ahead,
  skips,
  pair,
  letters,
  halves,
  unlent,
  seven_times,
  tail,
  unless_one,
  if_is,
}
use Rattle.laws.specs.WrongPuts.{
  rest_new,
  unfit,
  given,
  new_record,
  old_record,
  last_record,
  long_one,
  new_first,
  new_second,
  new_last,
  reading,
  two_first,
  two_second,
}
use Rattle.cases.specs.Readers.{
  version_body,
  loan_body,
  cells_body,
  blade_body,
  borrower_body,
  readings_body,
  sum_body,
  blade_table,
}

-- ── tables ──

-- the blade report without Borrower, by which On Loan is then not read; Borrower's record with a number
abbrev unlent_table : List ℕ
unlent_table =
    (0x16 ∷ 0x00 ∷ 0x01 ∷ 0x00 ∷ 0x10 ∷ 0x00 ∷ 0x06 ∷ 0x00 ∷ 0x0C ∷ 0x00 ∷ bytes "Blade Report")
    ++ ((0x20 ∷ 0x00 ∷ 0x0C ∷ 0x00 ∷ 0x00 ∷ 0x00 ∷ version_body)
    ++ ((0x18 ∷ 0x00 ∷ 0x0C ∷ 0x00 ∷ 0x00 ∷ 0x00 ∷ loan_body)
    ++ ((0x1E ∷ 0x00 ∷ 0x0C ∷ 0x00 ∷ 0x01 ∷ 0x00 ∷ cells_body)
    ++ ((0x15 ∷ 0x00 ∷ 0x0C ∷ 0x00 ∷ 0x00 ∷ 0x00 ∷ blade_body)
    ++ ((0x1C ∷ 0x00 ∷ 0x0D ∷ 0x00 ∷ 0x00 ∷ 0x00 ∷ readings_body)
    ++ ((0x13 ∷ 0x00 ∷ 0x0C ∷ 0x00 ∷ 0x00 ∷ 0x00 ∷ sum_body)
    ++ (0x04 ∷ 0x00 ∷ 0x05 ∷ 0x00 ∷ [])))))))

abbrev borrower_record : ℕ → List ℕ
borrower_record n = 0x23 ∷ 0x00 ∷ 0x0C ∷ 0x00 ∷ n ∷ n ∷ borrower_body

-- of one field, B of 8 bits
abbrev b_table : List ℕ
b_table =
    (0x0E ∷ 0x00 ∷ 0x01 ∷ 0x00 ∷ 0x08 ∷ 0x00 ∷ 0x01 ∷ 0x00 ∷ 0x04 ∷ 0x00 ∷ bytes "Page")
    ++ (0x11 ∷ 0x00 ∷ 0x0C ∷ 0x00 ∷ 0x00 ∷ 0x00 ∷ 0x01 ∷ 0x00 ∷ 0x42 ∷ 0x00 ∷ 0x00 ∷ 0x08 ∷ 0x00 ∷ 0x00 ∷ 0x00 ∷ 0x00
    ∷ 0x00
    ∷ 0x04 ∷ 0x00 ∷ 0x05 ∷ 0x00 ∷ [])

-- the blade report behind a field of 16 bits
abbrev behind_new : Description
behind_new = record {
  name = blade_report.name;
  row_width = 16;
  fields =
      bits "New" 16
      ∷ named "Version" "V" (fixed 2) (some (two Eq (read 1) (num 1))) none
      ∷ named "On Loan" "L" (fixed 1) none none
      ∷ named "Cells" "N" (fixed 5) (some (two Le (read 3) (num 20))) none
      ∷ unnamed "Blade" (fixed 8) none none
      ∷ named "Borrower" "Bor" (fixed 16) none (some (two Eq (read 2) (num 1)))
      ∷ unnamed "Readings" (measured 8 (read 3)) none none
      ∷ unnamed "Sum" (fixed 16) none none
      ∷ [];
}

-- a byte with the label F17, which reads itself and the field before it, of the index i
abbrev last_of : ℕ → Field ℕ
last_of i = record {
  label = bytes "F17";
  short = none;
  width = fixed 8;
  constraint = some (two Eq (read (suc i)) (num 1));
  condition = some (two Eq (read i) (num 1));
}

-- ── short ways to write a case ──

-- these bytes are written to an output of n; another's table is, of 200; or it is refused, and the output is as it was
abbrev cut_into : ℕ → Description → ℕ → ℕ → List ℕ → Case
cut_into n d first last new = cuts d first last (nines n) (leaves (accepted (length new)) (overlaid new (nines n)))

abbrev cut_to : Description → ℕ → ℕ → Description → Case
cut_to d first last new = cut_into 200 d first last (stored new)

abbrev cut_stops : Description → ℕ → ℕ → ℕ → ℕ → Case
cut_stops d first last number place = cuts d first last (nines 200) (leaves (refused number place) (nines 200))

abbrev put_into : ℕ → Description → ℕ → List ℕ → List ℕ → Case
put_into n d at bytes new = puts d at bytes (nines n) (leaves (accepted (length new)) (overlaid new (nines n)))

abbrev put_to : Description → ℕ → List ℕ → Description → Case
put_to d at bytes new = put_into 200 d at bytes (stored new)

abbrev put_stops : Description → ℕ → List ℕ → ℕ → Case
put_stops d at bytes number = puts d at bytes (nines 200) (leaves (refused number 0) (nines 200))

-- ── the cases ──

abbrev blade : List Case
blade =
    -- Borrower cut out, and put back with any number; all but Sum; Sum
    stores unlent unlent_table
    ∷ cut_into 300 blade_report 4 4 unlent_table
    ∷ puts unlent 4 (borrower_record 0) (nines 215) (leaves (accepted 215) blade_table)
    ∷ put_into 300 unlent 4 (borrower_record 9) blade_table
    ∷ cut_into 300 blade_report 0 5
    ((0x16 ∷ 0x00 ∷ 0x01 ∷ 0x00 ∷ 0x10 ∷ 0x00 ∷ 0x01 ∷ 0x00 ∷ 0x0C ∷ 0x00 ∷ bytes "Blade Report")
    ++ ((0x13 ∷ 0x00 ∷ 0x0C ∷ 0x00 ∷ 0x00 ∷ 0x00 ∷ sum_body) ++ (0x04 ∷ 0x00 ∷ 0x05 ∷ 0x00 ∷ [])))
    ∷ cut_into 300 blade_report 6 6 (set (take 192 blade_table ++ drop 211 blade_table) 6 6)
    -- On Loan is read by Borrower, Cells by Readings: 31 before 34; without Blade or Version a row is not full
    ∷ cut_stops blade_report 1 1 31 5
    ∷ cut_stops blade_report 2 2 31 6
    ∷ cut_stops blade_report 0 3 31 5
    ∷ cut_stops blade_report 2 4 31 6
    ∷ cut_stops blade_report 3 3 34 0
    ∷ cut_stops blade_report 0 0 34 0
    ∷ cut_stops blade_report 0 6 34 0
    ∷ cut_stops blade_report 0 7 30 0
    ∷ cut_stops blade_report 7 7 30 0
    -- put before all of them: each reference moves; a record cut off, and one put in twice
    ∷ put_into 300 blade_report 0 (given (bits "New" 16 ∷ [])) (stored behind_new)
    ∷ cut_into 300 behind_new 0 0 blade_table
    ∷ put_stops unlent 4 (take 34 (borrower_record 0)) 34
    ∷ put_stops blade_report 4 (borrower_record 0) 34
    ∷ []

abbrev cutting : List Case
cutting =
    -- the first and the last of two, byte by byte
    cut_into 200 letters 0 0 b_table
    ∷ cut_into 200 letters 1 1 (set b_table 22 0x41)
    -- a rest field cut out; one whose condition reads; behind `!`; a number that looks like a field; no such runs
    ∷ cut_to (page (plain "A" ∷ rest_new ∷ plain "B" ∷ [])) 1 1 letters
    ∷ cut_to (page (plain "A" ∷ flag ∷ tail 1 ∷ [])) 0 0 (page (flag ∷ tail 0 ∷ []))
    ∷ cut_stops (page (flag ∷ size ∷ tail 0 ∷ [])) 0 0 31 3
    ∷ cut_to (page (plain "A" ∷ flag ∷ unless_one 1 ∷ [])) 0 0 (page (flag ∷ unless_one 0 ∷ []))
    ∷ cut_to (page (plain "A" ∷ plain "B" ∷ flag ∷ if_is 2 514 ∷ [])) 0 1 (page (flag ∷ if_is 0 514 ∷ []))
    ∷ cut_stops letters 4_294_967_296 4_294_967_296 30 0
    ∷ cut_stops letters 0 18_446_744_073_709_551_615 30 0
    -- later indexes in a width, in a constraint and its own, in a condition; earlier ones stay; the true numbers
    ∷ cut_to five 2 2 four
    ∷ cut_into 200 five 2 2 (listed four (1 ∷ 2 ∷ 1 ∷ 0 ∷ []))
    ∷ cut_to ahead 0 1 pair
    ∷ cut_to ahead 0 0 (page (plain "B" ∷ flag ∷ if_one "Gap" 1 ∷ []))
    ∷ cut_to ahead 3 3 (page (plain "A" ∷ plain "B" ∷ flag ∷ []))
    -- a field with its only reader, and what they read; a run of readers
    ∷ cut_to five 3 4 first_three
    ∷ cut_into 200 five 3 4 (listed first_three (1 ∷ 0 ∷ 0 ∷ []))
    ∷ cut_to five 2 4 (page (flag ∷ size ∷ []))
    ∷ cut_to ahead 2 3 letters
    ∷ []

-- runs that can't be cut out, and room
abbrev stopping : List Case
stopping =
    -- 31 at the first reader: by a condition, a constraint, a width; of a run; one that `&&` may skip
    cut_stops five 0 0 31 3
    ∷ cut_stops five 1 1 31 4
    ∷ cut_stops five 3 3 31 5
    ∷ cut_stops five 1 2 31 4
    ∷ cut_stops five 1 3 31 5
    ∷ cut_stops five 0 1 31 3
    ∷ cut_stops five 0 3 31 5
    ∷ cut_stops pair 0 0 31 2
    ∷ cut_stops skips 0 0 31 2
    ∷ cut_stops ahead 0 2 31 4
    -- 30: an empty run, one that goes beyond; also where it is read
    ∷ cut_stops letters 1 0 30 0
    ∷ cut_stops letters 1 2 30 0
    ∷ cut_stops letters 2 2 30 0
    ∷ cut_stops letters 1 257 30 0
    ∷ cut_stops letters 256 256 30 0
    ∷ cut_stops pair 0 2 30 0
    -- 34: all fields; rows that end inside
    ∷ cut_stops letters 0 1 34 0
    ∷ cut_stops five 0 4 34 0
    ∷ cut_stops halves 0 0 34 0
    ∷ cut_stops halves 1 1 34 0
    ∷ cut_stops halves 1 2 34 0
    ∷ cut_to halves 0 1 (page (bits "C" 8 ∷ []))
    ∷ cut_to halves 2 2 (page (bits "A" 4 ∷ bits "B" 4 ∷ []))
    -- room for the table, a byte more, a byte less, none; 34, 31 and 30 before 11
    ∷ cuts letters 0 0 (nines 35) (leaves (accepted 35) b_table)
    ∷ cuts letters 0 0 (nines 36) (leaves (accepted 35) (b_table ++ (9 ∷ [])))
    ∷ cuts letters 0 0 (nines 34) (leaves (refused 11 0) (nines 34))
    ∷ cuts letters 0 0 [] (leaves (refused 11 0) [])
    ∷ cuts letters 0 1 (nines 9) (leaves (refused 34 0) (nines 9))
    ∷ cuts pair 0 0 (nines 9) (leaves (refused 31 2) (nines 9))
    ∷ cuts letters 1 0 (nines 9) (leaves (refused 30 0) (nines 9))
    ∷ []

abbrev putting : List Case
putting =
    -- before the first field, between two, at the end; two of which one reads the other; a reader of an old field
    put_to pair 0 new_record new_first
    ∷ put_to pair 1 new_record new_second
    ∷ put_to pair 2 new_record new_last
    ∷ put_to pair 0 (given (reading 0)) two_first
    ∷ put_to pair 1 (given (reading 1)) two_second
    ∷ put_into 200 pair 1 (given (reading 1)) (listed two_second (1 ∷ 1 ∷ 0 ∷ 0 ∷ []))
    ∷ put_to pair 1 (given (reading 0)) (page (flag ∷ short "New" "N" ∷ if_one "Next" 0 ∷ if_one "Gap" 0 ∷ []))
    ∷ put_into 200 pair 2 (given (if_one "New" 0 ∷ []))
    (listed (page (flag ∷ if_one "Gap" 0 ∷ if_one "New" 0 ∷ [])) (2 ∷ 0 ∷ 0 ∷ []))
    ∷ put_to letters 1 (given (plain "C" ∷ [])) (page (plain "A" ∷ plain "C" ∷ plain "B" ∷ []))
    ∷ put_to letters 1 (given (plain "C" ∷ plain "D" ∷ []))
    (page (plain "A" ∷ plain "C" ∷ plain "D" ∷ plain "B" ∷ []))
    ∷ put_to letters 2 (given (bits "C" 4 ∷ bits "D" 4 ∷ []))
    (page (plain "A" ∷ plain "B" ∷ bits "C" 4 ∷ bits "D" 4 ∷ []))
    -- a record that reads its own field; a rest field before a fixed one, and a fixed one behind it; no such places
    ∷ put_to letters 1 (given (mark 1 1 ∷ [])) (page (plain "A" ∷ mark 1 1 ∷ plain "B" ∷ []))
    ∷ put_to letters 1 (given (rest_new ∷ [])) (page (plain "A" ∷ rest_new ∷ plain "B" ∷ []))
    ∷ put_to (page (plain "A" ∷ rest_new ∷ [])) 2 (given (plain "B" ∷ []))
    (page (plain "A" ∷ rest_new ∷ plain "B" ∷ []))
    ∷ put_to pair 2 (given (rest_new ∷ [])) (page (flag ∷ if_one "Gap" 0 ∷ rest_new ∷ []))
    ∷ put_stops pair 4_294_967_296 new_record 30
    ∷ put_stops pair 18_446_744_073_709_551_615 new_record 30
    -- every kind of reference moves; Gap put back
    ∷ put_to four 2 (given (if_one "Gap" 0 ∷ [])) five
    ∷ put_to four 0 new_record (page (plain "New" ∷ flag ∷ size ∷ mark 3 2 ∷ body 2 3 1 ∷ []))
    -- any number in a record: the true one is written
    ∷ map (λ n. put_to pair 1 (stored_field n (plain "New")) new_second) (1 ∷ 7 ∷ 256 ∷ 65_535 ∷ [])
    ++ (put_to pair 1 (stored_field 5 (short "New" "N") ++ stored_field 6 (if_one "Next" 1)) two_second
    -- room for the table, a byte more, a byte less; 34 and 30 before 11
    ∷ puts pair 1 new_record (nines 85) (leaves (accepted 85) (stored new_second))
    ∷ puts pair 1 new_record (nines 86) (leaves (accepted 85) (stored new_second ++ (9 ∷ [])))
    ∷ puts pair 1 new_record (nines 84) (leaves (refused 11 0) (nines 84))
    ∷ puts pair 1 last_record (nines 9) (leaves (refused 34 0) (nines 9))
    ∷ puts pair 1 [] (nines 9) (leaves (refused 30 0) (nines 9))
    -- 30: no bytes, a place beyond, whatever the records
    ∷ put_stops pair 1 [] 30
    ∷ put_stops pair 3 new_record 30
    ∷ put_stops pair 256 new_record 30
    ∷ put_stops pair 3 last_record 30
    ∷ put_stops pair 3 [] 30
    ∷ [])

-- records that can't be put in: 34
abbrev refusing : List Case
refusing =
    -- of other kinds, without a number, not alone
    put_stops pair 1 old_record 34
    ∷ map (λ k. put_stops pair 1 (set new_record 2 k) 34) (2 ∷ 3 ∷ 4 ∷ 11 ∷ 13 ∷ 14 ∷ 15 ∷ 1 ∷ 5 ∷ [])
    ++ (put_stops pair 1 (set new_record 3 1) 34
    ∷ put_stops pair 1 (new_record ++ last_record) 34
    ∷ put_stops pair 2 last_record 34
    ∷ put_stops pair 1 (record_of 1 (head_body pair) ++ new_record) 34
    ∷ put_stops pair 1 (stored (page (plain "New" ∷ []))) 34
    -- cut off, with a byte more behind or inside, with another length
    ∷ map (λ n. put_stops pair 1 (take n new_record) 34) (18 ∷ 17 ∷ 6 ∷ 2 ∷ 1 ∷ [])
    ++ (put_stops pair 1 (new_record ++ (0 ∷ [])) 34
    ∷ put_stops pair 1 (new_record ++ take 4 new_record) 34
    ∷ map (λ n. put_stops pair 1 (set new_record 0 n) 34) (46 ∷ 20 ∷ 18 ∷ 0 ∷ [])
    ++ (put_stops pair 1 (longer 0 19 new_record) 34
    ∷ put_stops pair 1 (set new_record 6 4) 34
    -- names that are there; what is not earlier, is measured, or is not there read
    ∷ put_stops letters 2 (given (plain "A" ∷ [])) 34
    ∷ put_stops pair 2 (given (short "New" "F" ∷ [])) 34
    ∷ put_stops pair 2 (given (plain "F" ∷ [])) 34
    ∷ put_stops letters 2 (given (plain "C" ∷ plain "C" ∷ [])) 34
    ∷ put_stops pair 0 (given (if_one "New" 1 ∷ [])) 34
    ∷ put_stops pair 0 (given (if_one "New" 0 ∷ [])) 34
    ∷ put_stops pair 2 (given (if_one "New" 9 ∷ [])) 34
    ∷ put_stops four 4 (given (if_one "New" 3 ∷ [])) 34
    -- behind the rest field one with a condition, new and old; a row crossed, rows that end inside, no bits, two rest
    -- fields
    ∷ put_stops (page (flag ∷ rest_new ∷ [])) 2 (given (if_one "Next" 0 ∷ [])) 34
    ∷ put_stops pair 1 (given (rest_new ∷ [])) 34
    ∷ put_stops (page (bits "A" 4 ∷ bits "B" 4 ∷ [])) 1 (given (plain "C" ∷ [])) 34
    ∷ put_stops letters 2 (given (bits "C" 4 ∷ [])) 34
    ∷ put_stops letters 2 (given (bits "C" 0 ∷ [])) 34
    ∷ put_stops letters 2 (given (unnamed "C" rest none none ∷ unnamed "D" rest none none ∷ [])) 34
    -- form, depth, type; an operator that is none
    ∷ map (λ f. put_stops pair 2 (given (f ∷ [])) 34) unfit
    ++ (put_stops pair 2 (set (given (if_one "New" 0 ∷ [])) 19 0x26) 34
    ∷ []))))

abbrev large : List Case
large =
    -- a number of 256 falls to 224, and becomes 256 again
    cut_into 1000 many_times 8 8 (listed seven_times (224 ∷ []))
    ∷ put_into 1000 seven_times 8 (given (drop 8 many_times.fields)) (listed many_times (256 ∷ []))
    -- records of 255, 256 and 258 bytes
    ∷ map (λ n. put_into 400 (page (size ∷ [])) 1 (long_one n) (stored (long_record n)))
    (7 ∷ 8 ∷ 10 ∷ [])
    -- 18 fields, of which the last reads the one before
    ++ (cut_into 400 (chained 16) 0 0 (stored (page (take 16 (drop 1 (chained 16).fields) ++ (last_of 15 ∷ []))))
    ∷ cut_into 400 (chained 16) 0 15 (stored (page (take 1 (drop 16 (chained 16).fields) ++ (last_of 0 ∷ []))))
    ∷ cuts (chained 16) 16 16 (nines 400) (leaves (refused 31 18) (nines 400))
    -- 65 fields; not 129
    ∷ put_into 1300 (fields_of 64) 64 new_record (stored (page ((fields_of 64).fields ++ (plain "New" ∷ []))))
    ∷ puts (fields_of 128) 128 new_record (nines 3000) (leaves (refused 34 0) (nines 3000))
    ∷ [])

abbrev pub edits : List Case
edits = blade ++ (cutting ++ (stopping ++ (putting ++ (refusing ++ large))))
