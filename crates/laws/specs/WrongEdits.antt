-- Answers of programs that are wrong about fields that are cut out of a table. [02, R-4]
use Rattle.std.specs.Prelude.{List, [], ◌∷◌, ◌++◌, map, ℕ, length, replicate, take, drop, set}
use Rattle.std.proofs.Math.Option.{none, some}
use Prim.Native.String.{String}
use Rattle.rules.specs.declared.Op.TheVariants.{And, Eq, Add}
use Rattle.rules.specs.Trees.{num, read, two, negation}
use Rattle.rules.specs.Fields.{fixed, measured, rest, Field, Description}
use Rattle.rules.specs.Stored.{stored}
use Rattle.rules.specs.Answers.{accepted, refused}
use Rattle.rules.specs.Promises.{overlaid, not_good}
use Rattle.rules.specs.Cases.{named, unnamed}
use Rattle.rules.specs.Marked.{blade_report}
use Rattle.rules.specs.Pages.{page}
use Rattle.laws.specs.Wrong.{Claim, cuts_with}
use Rattle.laws.specs.WrongNumbers.{many_times, numbered, listed, old, nines}
use Rattle.laws.specs.WrongRecords.{chained}

-- ── fields ──

-- of 8 bits: with nothing else; with a short name; present only when the field of an index is 1
abbrev pub plain : String → Field ℕ
plain label = unnamed label (fixed 8) none none

abbrev pub short : String → String → Field ℕ
short label name = named label name (fixed 8) none none

abbrev pub if_one : String → ℕ → Field ℕ
if_one label i = unnamed label (fixed 8) none (some (two Eq (read i) (num 1)))

abbrev pub flag : Field ℕ
flag = short "Flag" "F"

abbrev pub size : Field ℕ
size = short "Size" "S"

-- `M == S`; and S + M bytes, present only when F is 1; by their indexes
abbrev pub mark : ℕ → ℕ → Field ℕ
mark m s = named "Mark" "M" (fixed 8) (some (two Eq (read m) (read s))) none

abbrev pub body : ℕ → ℕ → ℕ → Field ℕ
body s m f = unnamed "Body" (measured 8 (two Add (read s) (read m))) none (some (two Eq (read f) (num 1)))

abbrev pub bits : String → ℕ → Field ℕ
bits label n = unnamed label (fixed n) none none

-- ── descriptions ──

-- F is read by two conditions, S by a constraint and a width, M by its own constraint and a width; Gap by none
abbrev pub five : Description
five = page (flag ∷ size ∷ if_one "Gap" 0 ∷ mark 3 1 ∷ body 1 3 0 ∷ [])

-- without Gap; without Mark and Body
abbrev pub four : Description
four = page (flag ∷ size ∷ mark 2 1 ∷ body 1 2 0 ∷ [])

abbrev pub first_three : Description
first_three = page (flag ∷ size ∷ if_one "Gap" 0 ∷ [])

-- two fields that nobody reads in front of two others
abbrev pub ahead : Description
ahead = page (plain "A" ∷ plain "B" ∷ flag ∷ if_one "Gap" 2 ∷ [])

-- F is read where `&&` may skip it
abbrev pub skips : Description
skips = page
    (flag ∷ unnamed "Gap" (fixed 8) none (some (two And (two Eq (num 1) (num 2)) (two Eq (read 0) (num 1)))) ∷ [])

-- F, and a field that reads it; two fields that nobody reads
abbrev pub pair : Description
pair = page (flag ∷ if_one "Gap" 0 ∷ [])

abbrev pub letters : Description
letters = page (plain "A" ∷ plain "B" ∷ [])

-- half a row each, and a row
abbrev pub halves : Description
halves = page (bits "A" 4 ∷ bits "B" 4 ∷ bits "C" 8 ∷ [])

-- the blade report without Borrower; S, read seven times 32 times
abbrev pub unlent : Description
unlent = record {
  name = blade_report.name;
  row_width = 16;
  fields = take 4 blade_report.fields ++ drop 5 blade_report.fields;
}

abbrev pub seven_times : Description
seven_times = page (take 8 many_times.fields)

-- ── short ways to write a claim ──

-- a run is cut out of a description's table: these bytes are written to an output of n, and of 200; another's table is;
-- or it is refused, and the output is as it was
abbrev pub cut_into : ℕ → Description → ℕ → ℕ → List ℕ → Claim
cut_into n d first last new = cuts_with n (stored d) first last (accepted (length new)) (overlaid new (nines n))

abbrev pub cut_bytes : Description → ℕ → ℕ → List ℕ → Claim
cut_bytes d first last new = cut_into 200 d first last new

abbrev pub cut_to : Description → ℕ → ℕ → Description → Claim
cut_to d first last new = cut_bytes d first last (stored new)

abbrev pub cut_stops : Description → ℕ → ℕ → ℕ → ℕ → Claim
cut_stops d first last number place = cuts_with 200 (stored d) first last (refused number place) (nines 200)

-- ── the answers ──

-- what is left of the fields
abbrev in_cuts : List Claim
in_cuts =
    -- indexes as they were: all, in widths, in constraints, in conditions
    cut_to five 2 2 (page (flag ∷ size ∷ mark 3 1 ∷ body 1 3 0 ∷ []))
    ∷ cut_to five 2 2 (page (flag ∷ size ∷ mark 2 1 ∷ body 1 3 0 ∷ []))
    ∷ cut_to five 2 2 (page (flag ∷ size ∷ mark 3 1 ∷ body 1 2 0 ∷ []))
    ∷ cut_to ahead 0 1 (page (flag ∷ if_one "Gap" 2 ∷ []))
    -- those before the run made less too; those behind it by one, whatever the run
    ∷ cut_to five 2 2 (page (flag ∷ size ∷ mark 2 0 ∷ body 0 2 0 ∷ []))
    ∷ cut_to ahead 0 1 (page (flag ∷ if_one "Gap" 1 ∷ []))
    -- the table as it was; the number of fields alone changed, or left; another field cut, indexes from 1
    ∷ cut_to five 2 2 five
    ∷ cut_bytes five 2 2 (set (stored five) 6 4)
    ∷ cut_bytes five 2 2 (set (stored four) 6 5)
    ∷ cut_to letters 1 1 (page (plain "B" ∷ []))
    ∷ cut_to five 2 2 (page (flag ∷ size ∷ if_one "Gap" 0 ∷ mark 3 1 ∷ []))
    -- the last one not cut; the fields behind it cut too
    ∷ cut_to ahead 0 1 (page (plain "B" ∷ flag ∷ if_one "Gap" 1 ∷ []))
    ∷ cut_to five 2 2 (page (flag ∷ size ∷ []))
    -- without the last record; with another row width
    ∷ cut_bytes letters 0 0 (take 31 (stored (page (plain "B" ∷ []))))
    ∷ cut_bytes letters 0 0 (set (stored (page (plain "B" ∷ []))) 4 16)
    -- how often a field is read: as it was, where a cut field read it; at its old index; 0 for all
    ∷ cut_bytes five 2 2 (listed four (2 ∷ 2 ∷ 1 ∷ 0 ∷ []))
    ∷ cut_bytes five 3 4 (listed first_three (2 ∷ 2 ∷ 0 ∷ []))
    ∷ cut_bytes five 2 2 (listed four (1 ∷ 2 ∷ 0 ∷ 1 ∷ []))
    ∷ cut_bytes five 2 2 (listed four [])
    ∷ []

-- a cut field that is still read
abbrev in_readers : List Claim
in_readers =
    -- accepted, and the neighbour read: in a constraint and a width, in a width, in conditions
    cut_to five 1 1 (page (flag ∷ if_one "Gap" 0 ∷ mark 2 1 ∷ body 1 2 0 ∷ []))
    ∷ cut_to five 1 1 (page (flag ∷ if_one "Gap" 0 ∷ mark 2 0 ∷ body 0 2 0 ∷ []))
    ∷ cut_to five 3 3 (page (flag ∷ size ∷ if_one "Gap" 0 ∷ body 1 3 0 ∷ []))
    ∷ cut_to five 3 3 (page (flag ∷ size ∷ if_one "Gap" 0 ∷ body 1 2 0 ∷ []))
    ∷ cut_to five 0 0 (page (size ∷ if_one "Gap" 0 ∷ mark 2 0 ∷ body 0 2 0 ∷ []))
    ∷ cut_to pair 0 0 (page (if_one "Gap" 0 ∷ []))
    -- and the readers cut too
    ∷ cut_to five 3 3 first_three
    -- 34 in its place: of a constraint, a width, a condition; 30; 21
    ∷ map (λ n. cut_stops five 1 1 n 0) (34 ∷ 30 ∷ 21 ∷ [])
    ++ (cut_stops five 3 3 34 0
    ∷ cut_stops pair 0 0 34 0
    -- no place; by the new numbering; from 0; the cut field's; the last that reads
    ∷ map (λ p. cut_stops five 1 2 31 p) (0 ∷ 2 ∷ 3 ∷ 5 ∷ [])
    ++ (map (λ p. cut_stops five 0 0 31 p) (0 ∷ 1 ∷ 2 ∷ 5 ∷ [])
    ++ (map (λ p. cut_stops five 1 1 31 p) (0 ∷ 2 ∷ 3 ∷ 5 ∷ [])
    -- the first that reads any field; one that is cut itself
    ++ (cut_stops five 3 3 31 3
    ∷ cut_stops five 3 3 31 4
    ∷ cut_stops five 1 3 31 4
    -- conditions passed over; constraints passed over
    ∷ cut_stops five 0 1 31 4
    ∷ cut_stops five 1 1 31 5
    -- a reference that `&&` may skip
    ∷ cut_to skips 0 0 (page (drop 1 skips.fields))
    ∷ cut_stops skips 0 0 34 0
    -- 31 where none is left that reads: by its own constraint, by a cut field, for any field that reads another
    ∷ cut_stops five 3 4 31 4
    ∷ cut_stops five 3 4 31 5
    ∷ cut_stops five 2 2 31 3
    ∷ cut_stops five 2 2 31 4
    ∷ cut_stops ahead 0 1 31 4
    ∷ []))))

-- which runs there are, and which results are good
abbrev in_runs : List Claim
in_runs =
    -- an empty run: the table as it was, or a field cut; an index beyond taken as the last, passed over, cut to a byte
    cut_to letters 1 0 letters
    ∷ cut_to letters 1 0 (page (plain "B" ∷ []))
    ∷ cut_to letters 1 2 (page (plain "A" ∷ []))
    ∷ cut_to letters 2 2 letters
    ∷ cut_to letters 1 257 (page (plain "A" ∷ []))
    ∷ cut_to letters 256 256 (page (plain "B" ∷ []))
    -- 30 for the last field, for the first, for all of them; another number for 30; a place
    ∷ cut_stops letters 1 1 30 0
    ∷ cut_stops letters 0 0 30 0
    ∷ cut_stops letters 0 1 30 0
    ∷ map (λ n. cut_stops letters 1 2 n 0) (34 ∷ 31 ∷ 21 ∷ 11 ∷ [])
    ++ (map (λ p. cut_stops letters 1 2 30 p) (1 ∷ 2 ∷ 3 ∷ [])
    -- 31 before 30
    ++ (cut_stops pair 0 2 31 2
    -- all fields: an empty table, the table as it was, the first one left
    ∷ cut_to letters 0 1 (page [])
    ∷ cut_to letters 0 1 letters
    ∷ cut_to letters 0 1 (page (plain "A" ∷ []))
    ∷ cut_stops letters 0 1 34 1
    -- rows that end inside, or that a field crosses
    ∷ cut_to halves 0 0 (page (bits "B" 4 ∷ bits "C" 8 ∷ []))
    ∷ cut_to halves 1 1 (page (bits "A" 4 ∷ bits "C" 8 ∷ []))
    ∷ cut_to halves 1 2 (page (bits "A" 4 ∷ []))
    ∷ cut_stops halves 0 0 31 2
    ∷ cut_stops halves 0 0 30 0
    ∷ cut_stops halves 0 1 34 0
    -- 21 for a good table; one that is not good cut: with another number, an old one; 30 before 21
    ∷ cut_stops letters 0 0 21 0
    ∷ cuts_with 200 (numbered pair 0 0) 1 1 (accepted 39) (overlaid (stored (page (flag ∷ []))) (nines 200))
    ∷ cuts_with 200 (old letters) 0 0 (accepted 35) (overlaid (stored (page (plain "B" ∷ []))) (nines 200))
    ∷ cuts_with 200 (numbered pair 0 0) 1 0 (refused 30 0) (nines 200)
    ∷ cuts_with 200 [] 0 0 (refused 30 0) (nines 200)
    ∷ []))

-- A is cut out of A and B: the output
abbrev cut_table : List ℕ
cut_table = stored (page (plain "B" ∷ []))

abbrev in_outputs : List Claim
in_outputs =
    -- accepted, and nothing written; the output's length, or the old table's; what lies beyond cleared
    cuts_with 40 (stored letters) 0 0 (accepted 35) (nines 40)
    ∷ cuts_with 40 (stored letters) 0 0 (accepted 40) (overlaid cut_table (nines 40))
    ∷ cuts_with 40 (stored letters) 0 0 (accepted 52) (overlaid cut_table (nines 40))
    ∷ cuts_with 40 (stored letters) 0 0 (accepted 35) (cut_table ++ replicate 5 0)
    ∷ cuts_with 60 (stored letters) 0 0 (accepted 35) (overlaid cut_table (overlaid (stored letters) (nines 60)))
    ∷ cuts_with 40 (stored letters) 0 0 (accepted 35) cut_table
    -- at the output's end
    ∷ cuts_with 40 (stored letters) 0 0 (accepted 35) (nines 5 ++ cut_table)
    -- 11 with room; the old table's length asked for; a byte short accepted; written before 11
    ∷ cuts_with 35 (stored letters) 0 0 (refused 11 0) (nines 35)
    ∷ cuts_with 51 (stored letters) 0 0 (refused 11 0) (nines 51)
    ∷ cuts_with 34 (stored letters) 0 0 (accepted 34) (take 34 cut_table)
    ∷ cuts_with 34 (stored letters) 0 0 (refused 11 0) (take 34 cut_table)
    ∷ cuts_with 34 (stored letters) 0 0 (refused 11 0) (overlaid (take 14 cut_table) (nines 34))
    ∷ cuts_with 34 (stored letters) 0 0 (refused 11 35) (nines 34)
    ∷ cuts_with 34 (stored letters) 0 0 (refused 34 0) (nines 34)
    -- written before 34, 31, 30 and 21
    ∷ cuts_with 200 (stored letters) 0 1 (refused 34 0) (overlaid (stored (page [])) (nines 200))
    ∷ cuts_with 200 (stored halves) 0 0 (refused 34 0) (overlaid (take 14 (stored letters)) (nines 200))
    ∷ cuts_with 200 (stored pair) 0 0 (refused 31 2) (overlaid (stored (page (if_one "Gap" 0 ∷ []))) (nines 200))
    ∷ cuts_with 200 (stored letters) 1 0 (refused 30 0) (overlaid (stored letters) (nines 200))
    ∷ cuts_with 60 (old letters) 0 0 not_good (replicate 60 0)
    -- 11 before 34, 31, 30 and 21
    ∷ cuts_with 9 (stored letters) 0 1 (refused 11 0) (nines 9)
    ∷ cuts_with 9 (stored pair) 0 0 (refused 11 0) (nines 9)
    ∷ cuts_with 9 (stored letters) 1 0 (refused 11 0) (nines 9)
    ∷ cuts_with 9 (old letters) 0 0 (refused 11 0) (nines 9)
    ∷ []

-- of longer tables
abbrev in_large : List Claim
in_large =
    -- the blade report without Borrower: the number of On Loan as it was; the number of fields alone changed
    cut_into 300 blade_report 4 4 (listed unlent (0 ∷ 1 ∷ 1 ∷ []))
    ∷ cut_into 300 blade_report 4 4 (set (stored blade_report) 6 6)
    -- 31 for Blade, which nobody reads; 34 before 31
    ∷ cuts_with 300 (stored blade_report) 3 3 (refused 31 5) (nines 300)
    ∷ cuts_with 300 (stored blade_report) 1 1 (refused 34 0) (nines 300)
    -- a number that falls below 256: its high byte as it was
    ∷ cut_into 1000 many_times 8 8 (listed seven_times (480 ∷ []))
    -- 18 fields: the last one's references as they were; the place cut to four bits
    ∷ cut_into 400 (chained 16) 0 0 (stored (page (drop 1 (chained 16).fields)))
    ∷ cuts_with 400 (stored (chained 16)) 16 16 (refused 31 2) (nines 400)
    ∷ []

-- the rest of a packet, present only when the field of an index is 1; and Gap, when it is not, or is n
abbrev pub tail : ℕ → Field ℕ
tail i = unnamed "Tail" rest none (some (two Eq (read i) (num 1)))

abbrev pub unless_one : ℕ → Field ℕ
unless_one i = unnamed "Gap" (fixed 8) none (some (negation (two Eq (read i) (num 1))))

abbrev pub if_is : ℕ → ℕ → Field ℕ
if_is i n = unnamed "Gap" (fixed 8) none (some (two Eq (read i) (num n)))

-- indexes alone
abbrev in_indexes : List Claim
in_indexes =
    -- as they were, or less by one whatever the run, with the true numbers
    cut_bytes five 2 2 (listed (page (flag ∷ size ∷ mark 3 1 ∷ body 1 3 0 ∷ [])) (1 ∷ 2 ∷ 1 ∷ 0 ∷ []))
    ∷ cut_bytes ahead 0 1 (listed (page (flag ∷ if_one "Gap" 2 ∷ [])) (1 ∷ []))
    ∷ cut_bytes ahead 0 1 (listed (page (flag ∷ if_one "Gap" 1 ∷ [])) (1 ∷ []))
    -- as it was in a rest field's condition, and behind `!`; a number's bytes taken for a field's code and index
    ∷ cut_bytes (page (plain "A" ∷ flag ∷ tail 1 ∷ [])) 0 0 (listed (page (flag ∷ tail 1 ∷ [])) (1 ∷ []))
    ∷ cut_bytes (page (plain "A" ∷ flag ∷ unless_one 1 ∷ [])) 0 0 (listed (page (flag ∷ unless_one 1 ∷ [])) (1 ∷ []))
    ∷ cut_to (page (plain "A" ∷ plain "B" ∷ flag ∷ if_is 2 514 ∷ [])) 0 1 (page (flag ∷ if_is 0 2 ∷ []))
    -- a rest field's condition not looked at
    ∷ cut_to (page (flag ∷ size ∷ tail 0 ∷ [])) 0 0 (page (size ∷ tail 0 ∷ []))
    -- an index over four bytes cut to them; the greatest of eight taken for the last field's
    ∷ cut_to letters 4_294_967_296 4_294_967_296 (page (plain "B" ∷ []))
    ∷ cut_to letters 0 18_446_744_073_709_551_615 letters
    ∷ []

abbrev pub wrong_edits : List Claim
wrong_edits = in_cuts ++ (in_indexes ++ (in_readers ++ (in_runs ++ (in_outputs ++ in_large))))
