-- Answers of programs that are wrong about fields that are put into a table. [02, R-4]
use Rattle.std.specs.Prelude.{List, [], ◌∷◌, ◌++◌, map, ℕ, length, replicate, take, drop, set}
use Rattle.std.proofs.Math.Option.{none, some}
use Rattle.rules.specs.declared.Op.TheVariants.{Eq}
use Rattle.rules.specs.Trees.{num, read, two}
use Rattle.rules.specs.Fields.{fixed, measured, rest, Field, Description}
use Rattle.rules.specs.Editions.{uncounted}
use Rattle.rules.specs.Stored.{record_of, head_body, stored_field_in, stored_field, records, stored}
use Rattle.rules.specs.Answers.{accepted, refused}
use Rattle.rules.specs.Promises.{overlaid}
use Rattle.rules.specs.Cases.{unnamed}
use Rattle.rules.specs.Pages.{page, one_is_one, not_times}
use Rattle.laws.specs.Wrong.{Claim, puts_with}
use Rattle.laws.specs.WrongLimits.{fields_of}
use Rattle.laws.specs.WrongNumbers.{many_times, numbered, listed, old, nines}
use Rattle.laws.specs.WrongRecords.{long_record, longer, cut_length}
use Rattle.laws.specs.WrongEdits.{
  plain,
  short,
  if_one,
  flag,
  size,
  mark,
  body,
  bits,
  four,
  pair,
  letters,
  seven_times,
}

-- ── fields and records ──

-- a label with two spaces, a short name that is reserved, 13 levels, a number as a condition, a single number as a
-- measure, a comparison as one
abbrev pub unfit : List (Field ℕ)
unfit =
    plain "A  B"
    ∷ short "New" "bits"
    ∷ unnamed "New" (fixed 8) none (some (not_times 11 one_is_one))
    ∷ unnamed "New" (fixed 8) none (some (read 0))
    ∷ unnamed "New" (measured 8 (num 1)) none none
    ∷ unnamed "New" (measured 8 (two Eq (read 0) (num 1))) none none
    ∷ []

-- those of fields, with the number 0
abbrev pub given : List (Field ℕ) → List ℕ
given fs = records (λ i. 0) 0 fs

abbrev pub new_record : List ℕ
new_record = given (plain "New" ∷ [])

-- without a number; a table's last record
abbrev pub old_record : List ℕ
old_record = stored_field_in uncounted 0 (plain "New")

abbrev pub last_record : List ℕ
last_record = record_of 5 []

-- of 248 + n bytes
abbrev pub long_one : ℕ → List ℕ
long_one n = given (drop 1 (long_record n).fields)

-- with New before F, behind F, at the end
abbrev pub new_first : Description
new_first = page (plain "New" ∷ flag ∷ if_one "Gap" 1 ∷ [])

abbrev pub new_second : Description
new_second = page (flag ∷ plain "New" ∷ if_one "Gap" 0 ∷ [])

abbrev pub new_last : Description
new_last = page (flag ∷ if_one "Gap" 0 ∷ plain "New" ∷ [])

-- N, and a field that reads it; before F, and between F and Gap
abbrev pub reading : ℕ → List (Field ℕ)
reading i = short "New" "N" ∷ if_one "Next" i ∷ []

abbrev pub two_first : Description
two_first = page (short "New" "N" ∷ if_one "Next" 0 ∷ flag ∷ if_one "Gap" 2 ∷ [])

abbrev pub two_second : Description
two_second = page (flag ∷ short "New" "N" ∷ if_one "Next" 1 ∷ if_one "Gap" 0 ∷ [])

-- ── short ways to write a claim ──

-- records are put into a description's table: these bytes are written to an output of n, and of 200; another's table
-- is; or it is refused, and the output is as it was
abbrev pub put_into : ℕ → Description → ℕ → List ℕ → List ℕ → Claim
put_into n d at bytes new = puts_with n (stored d) at bytes (accepted (length new)) (overlaid new (nines n))

abbrev pub put_bytes : Description → ℕ → List ℕ → List ℕ → Claim
put_bytes d at bytes new = put_into 200 d at bytes new

abbrev pub put_to : Description → ℕ → List ℕ → Description → Claim
put_to d at bytes new = put_bytes d at bytes (stored new)

abbrev pub put_stops : Description → ℕ → List ℕ → ℕ → Claim
put_stops d at bytes number = puts_with 200 (stored d) at bytes (refused number 0) (nines 200)

-- ── the answers ──

-- where records are put in, and what old and new ones then read
abbrev in_puts : List Claim
in_puts =
    -- behind the field of the index; at the end; at the start; before the one before
    put_to pair 0 new_record new_second
    ∷ put_to pair 1 new_record new_last
    ∷ put_to pair 0 new_record new_last
    ∷ put_to pair 1 new_record new_first
    ∷ put_to pair 2 new_record new_second
    -- old references at the index and above as they were; below it made more; moved by one, whatever the records
    ∷ put_to pair 0 new_record (page (plain "New" ∷ flag ∷ if_one "Gap" 0 ∷ []))
    ∷ put_to pair 1 new_record (page (flag ∷ plain "New" ∷ if_one "Gap" 1 ∷ []))
    ∷ put_to pair 0 (given (reading 0)) (page (short "New" "N" ∷ if_one "Next" 0 ∷ flag ∷ if_one "Gap" 1 ∷ []))
    -- new references moved again: by the records, to the index; by the old numbering, 34
    ∷ put_to pair 1 (given (reading 1)) (page (flag ∷ short "New" "N" ∷ if_one "Next" 3 ∷ if_one "Gap" 0 ∷ []))
    ∷ put_to pair 1 (given (reading 0)) two_second
    ∷ put_to pair 0 (given (reading 0)) (page (short "New" "N" ∷ if_one "Next" 2 ∷ flag ∷ if_one "Gap" 2 ∷ []))
    ∷ put_stops pair 1 (given (reading 1)) 34
    -- one of two put in; the other way round; in place of the next; not at all; the number of fields as it was
    ∷ put_to letters 1 (given (plain "C" ∷ plain "D" ∷ [])) (page (plain "A" ∷ plain "C" ∷ plain "B" ∷ []))
    ∷ put_to letters 1 (given (plain "C" ∷ plain "D" ∷ []))
    (page (plain "A" ∷ plain "D" ∷ plain "C" ∷ plain "B" ∷ []))
    ∷ put_to letters 1 (given (plain "C" ∷ [])) (page (plain "A" ∷ plain "C" ∷ []))
    ∷ put_to letters 1 (given (plain "C" ∷ [])) letters
    ∷ put_bytes letters 1 (given (plain "C" ∷ []))
    (set (stored (page (plain "A" ∷ plain "C" ∷ plain "B" ∷ []))) 6 2)
    -- the number in a record believed, or 34 for it; 0 for all; of an old field that a new one reads, as it was
    ∷ put_bytes pair 1 (stored_field 7 (plain "New")) (listed new_second (1 ∷ 7 ∷ []))
    ∷ put_stops pair 1 (stored_field 7 (plain "New")) 34
    ∷ put_stops pair 1 (stored_field 65_535 (plain "New")) 34
    ∷ put_bytes pair 1 new_record (listed new_second [])
    ∷ put_bytes pair 2 (given (if_one "New" 0 ∷ []))
    (listed (page (flag ∷ if_one "Gap" 0 ∷ if_one "New" 0 ∷ [])) (1 ∷ []))
    ∷ put_bytes pair 1 (given (reading 1)) (listed two_second (1 ∷ []))
    ∷ put_bytes pair 0 new_record (listed new_first (1 ∷ []))
    ∷ []

-- which records can be put in
abbrev in_records : List Claim
in_records =
    -- kinds 2 to 4, without and with numbers; other kinds; a last or a first record with it; a whole table
    put_to pair 1 old_record new_second
    ∷ map (λ k. put_to pair 1 (set new_record 2 k) new_second) (2 ∷ 3 ∷ 4 ∷ 11 ∷ 13 ∷ 14 ∷ 15 ∷ 1 ∷ 5 ∷ [])
    ++ (put_to pair 1 (set new_record 3 1) new_second
    ∷ put_to pair 1 (new_record ++ last_record) new_second
    ∷ put_to pair 2 last_record pair
    ∷ put_to pair 1 (record_of 1 (head_body pair) ++ new_record) new_second
    ∷ put_to pair 1 (stored (page (plain "New" ∷ []))) new_second
    -- cut off at its end; a byte too many; a part of a second one; only a length
    ∷ map (λ n. put_to pair 1 (take n new_record) new_second) (18 ∷ 17 ∷ 6 ∷ [])
    ++ (put_to pair 1 (new_record ++ (0 ∷ [])) new_second
    ∷ put_to pair 1 (new_record ++ take 4 new_record) new_second
    ∷ put_bytes pair 1 (take 2 new_record) (stored pair)
    -- a length that takes in the record behind it; too many, too few; a byte more inside; a label's length
    ∷ put_bytes pair 1 (set new_record 0 46) (set (stored new_second) 35 46)
    ∷ map (λ n. put_to pair 1 (set new_record 0 n) new_second) (46 ∷ 20 ∷ 18 ∷ 0 ∷ [])
    ++ (put_to pair 1 (longer 0 19 new_record) new_second
    ∷ put_to pair 1 (set new_record 6 4) new_second
    ∷ [])))

-- fields that do not go together
abbrev in_joins : List Claim
in_joins =
    -- a name that is there: a label, a short name, a short name as a label; one label twice
    put_to letters 2 (given (plain "A" ∷ [])) (page (plain "A" ∷ plain "B" ∷ plain "A" ∷ []))
    ∷ put_to pair 2 (given (short "New" "F" ∷ [])) (page (flag ∷ if_one "Gap" 0 ∷ short "New" "F" ∷ []))
    ∷ put_to pair 2 (given (plain "F" ∷ [])) (page (flag ∷ if_one "Gap" 0 ∷ plain "F" ∷ []))
    ∷ put_to letters 2 (given (plain "C" ∷ plain "C" ∷ []))
    (page (plain "A" ∷ plain "B" ∷ plain "C" ∷ plain "C" ∷ []))
    -- what may not be read: a later field, itself; a measured one; one that is not there
    ∷ put_to pair 0 (given (if_one "New" 1 ∷ [])) (page (if_one "New" 1 ∷ flag ∷ if_one "Gap" 1 ∷ []))
    ∷ put_to pair 0 (given (if_one "New" 0 ∷ [])) (page (if_one "New" 0 ∷ flag ∷ if_one "Gap" 1 ∷ []))
    ∷ put_to pair 0 (given (if_one "New" 0 ∷ [])) (page (if_one "New" 1 ∷ flag ∷ if_one "Gap" 1 ∷ []))
    ∷ put_to four 4 (given (if_one "New" 3 ∷ []))
    (page (flag ∷ size ∷ mark 2 1 ∷ body 1 2 0 ∷ if_one "New" 3 ∷ []))
    ∷ put_to pair 2 (given (if_one "New" 9 ∷ [])) (page (flag ∷ if_one "Gap" 0 ∷ if_one "New" 9 ∷ []))
    -- a row that ends inside; no bits; a second rest field
    ∷ put_to letters 2 (given (bits "C" 4 ∷ [])) (page (plain "A" ∷ plain "B" ∷ bits "C" 4 ∷ []))
    ∷ put_to letters 2 (given (bits "C" 0 ∷ [])) (page (plain "A" ∷ plain "B" ∷ bits "C" 0 ∷ []))
    ∷ put_to letters 2 (given (unnamed "C" rest none none ∷ unnamed "D" rest none none ∷ []))
    (page (plain "A" ∷ plain "B" ∷ unnamed "C" rest none none ∷ unnamed "D" rest none none ∷ []))
    -- of no form, too deep, of another type, a measure that is a number
    ∷ map (λ f. put_to pair 2 (given (f ∷ [])) (page (flag ∷ if_one "Gap" 0 ∷ f ∷ []))) unfit
    -- an operator that is none
    ++ (put_to pair 2 (set (given (if_one "New" 0 ∷ [])) 19 0x26) (page (flag ∷ if_one "Gap" 0 ∷ if_one "New" 0 ∷ []))
    -- 34 for what can be put in
    ∷ put_stops pair 0 new_record 34
    ∷ put_stops pair 1 new_record 34
    ∷ put_stops letters 2 (given (bits "C" 4 ∷ bits "D" 4 ∷ [])) 34
    ∷ [])

-- by which number, and the output
abbrev in_places : List Claim
in_places =
    -- the index of the end refused; one beyond taken as the end; an index cut to a byte; no bytes accepted, or 34
    put_stops pair 2 new_record 30
    ∷ put_stops pair 0 new_record 30
    ∷ put_to pair 3 new_record new_last
    ∷ put_to pair 256 new_record new_first
    ∷ put_to pair 1 [] pair
    ∷ put_stops pair 1 [] 34
    -- 34 before 30; 30 before 21; 21 for a good table; a table that is not good taken
    ∷ put_stops pair 3 last_record 34
    ∷ put_stops pair 3 new_record 34
    ∷ puts_with 200 (old pair) 1 [] (refused 30 0) (nines 200)
    ∷ puts_with 200 (numbered pair 0 0) 9 new_record (refused 30 0) (nines 200)
    ∷ puts_with 200 (old pair) 1 last_record (refused 34 0) (nines 200)
    ∷ put_stops pair 1 new_record 21
    ∷ puts_with 200 (numbered pair 0 0) 1 new_record (accepted 85) (overlaid (stored new_second) (nines 200))
    -- a place
    ∷ puts_with 200 (stored pair) 3 new_record (refused 30 4) (nines 200)
    ∷ puts_with 200 (stored pair) 1 last_record (refused 34 2) (nines 200)
    -- accepted, and nothing written; the output's length; what lies beyond cleared
    ∷ puts_with 90 (stored pair) 1 new_record (accepted 85) (nines 90)
    ∷ puts_with 90 (stored pair) 1 new_record (accepted 90) (overlaid (stored new_second) (nines 90))
    ∷ puts_with 90 (stored pair) 1 new_record (accepted 85) (stored new_second ++ replicate 5 0)
    -- 11 with room; a byte short; written before 11, 34 and 30; 11 before 34 and 30
    ∷ puts_with 85 (stored pair) 1 new_record (refused 11 0) (nines 85)
    ∷ puts_with 84 (stored pair) 1 new_record (accepted 84) (take 84 (stored new_second))
    ∷ puts_with 84 (stored pair) 1 new_record (refused 11 0) (take 84 (stored new_second))
    ∷ puts_with 84 (stored pair) 1 new_record (refused 34 0) (nines 84)
    ∷ puts_with 200 (stored pair) 1 (new_record ++ last_record) (refused 34 0)
    (overlaid (stored new_second) (nines 200))
    ∷ puts_with 200 (stored pair) 3 new_record (refused 30 0) (overlaid (stored new_last) (nines 200))
    ∷ puts_with 9 (stored pair) 1 last_record (refused 11 0) (nines 9)
    ∷ puts_with 9 (stored pair) 1 [] (refused 11 0) (nines 9)
    ∷ []

-- of longer tables
abbrev in_large : List Claim
in_large =
    -- 129 fields; no more than 64
    put_into 3000 (fields_of 128) 128 new_record (stored (page ((fields_of 128).fields ++ (plain "New" ∷ []))))
    ∷ puts_with 1300 (stored (fields_of 64)) 64 new_record (refused 34 0) (nines 1300)
    -- a number that becomes 256: cut to a byte
    ∷ put_into 1000 seven_times 8 (given (drop 8 many_times.fields)) (listed many_times (0 ∷ []))
    -- a record of 256 bytes: 34; the high byte of its length left out
    ∷ puts_with 400 (stored (page (size ∷ []))) 1 (long_one 8) (refused 34 0) (nines 400)
    ∷ put_into 400 (page (size ∷ [])) 1 (long_one 8) (cut_length 8)
    ∷ []

-- a rest field
abbrev pub rest_new : Field ℕ
rest_new = unnamed "New" rest none none

-- indexes and kinds alone, places, and what old fields become
abbrev in_old : List Claim
in_old =
    -- indexes of old fields as they were, or all of them more, and of new ones more too, with the true numbers
    put_bytes pair 0 new_record (listed (page (plain "New" ∷ flag ∷ if_one "Gap" 0 ∷ [])) (0 ∷ 1 ∷ []))
    ∷ put_bytes pair 1 new_record (listed (page (flag ∷ plain "New" ∷ if_one "Gap" 1 ∷ [])) (1 ∷ []))
    ∷ put_bytes pair 1 (given (reading 1))
    (listed (page (flag ∷ short "New" "N" ∷ if_one "Next" 3 ∷ if_one "Gap" 0 ∷ [])) (1 ∷ 1 ∷ []))
    -- an old field with a condition behind a new rest field; an old row crossed; a rest field refused; 128 fields
    ∷ put_to pair 1 (given (rest_new ∷ [])) (page (flag ∷ rest_new ∷ if_one "Gap" 0 ∷ []))
    ∷ put_to (page (bits "A" 4 ∷ bits "B" 4 ∷ [])) 1 (given (plain "C" ∷ []))
    (page (bits "A" 4 ∷ plain "C" ∷ bits "B" 4 ∷ []))
    ∷ put_stops pair 2 (given (rest_new ∷ [])) 34
    ∷ puts_with 3000 (stored (fields_of 127)) 127 new_record (refused 34 0) (nines 3000)
    -- an index over four bytes cut to them; the greatest of eight taken for the end
    ∷ put_to pair 4_294_967_296 new_record new_first
    ∷ put_to pair 18_446_744_073_709_551_615 new_record new_last
    -- written before 21; 11 before 21
    ∷ puts_with 200 (numbered pair 0 0) 1 new_record (refused 21 0) (overlaid (stored new_second) (nines 200))
    ∷ puts_with 9 (old pair) 1 new_record (refused 11 0) (nines 9)
    -- a record of another kind put in as it is
    ∷ map (λ k. put_bytes pair 1 (set new_record 2 k) (set (stored new_second) 37 k))
    (2 ∷ 3 ∷ 4 ∷ 11 ∷ 13 ∷ 14 ∷ 15 ∷ 1 ∷ 5 ∷ [])

abbrev pub wrong_puts : List Claim
wrong_puts = in_puts ++ (in_old ++ (in_records ++ (in_joins ++ (in_places ++ in_large))))
