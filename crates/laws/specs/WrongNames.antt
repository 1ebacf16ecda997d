-- Answers of programs that are wrong about which names may be read, and which names clash. [02, R-2]
use Rattle.std.specs.Prelude.{List, [], ◌∷◌, ◌++◌, map, ℕ, length}
use Rattle.std.proofs.Math.Option.{none, some}
use Prim.Native.String.{String}
use Rattle.base.specs.Bytes.{bytes}
use Rattle.rules.specs.declared.Op.TheVariants.{Add, Eq}
use Rattle.rules.specs.Trees.{Tree, num, read, two}
use Rattle.rules.specs.Fields.{fixed, measured, rest, Field, Description}
use Rattle.rules.specs.Editions.{current, earlier}
use Rattle.rules.specs.Stored.{stored}
use Rattle.rules.specs.Reading.{absent}
use Rattle.rules.specs.Answers.{accepted, refused}
use Rattle.rules.specs.Promises.{not_good}
use Rattle.rules.specs.Cases.{lent_run, named, unnamed, entry}
use Rattle.rules.specs.Pages.{page, many_fields}
use Rattle.laws.specs.Wrong.{Claim, checks, checks_in, checks_bytes, reads_in, reads, finds, finds_in, run_of}

-- ── tables ──

-- a field of a byte with a label alone, and with a short name too
abbrev pub plain : String → Field ℕ
plain label = unnamed label (fixed 8) none none

abbrev pub both : String → String → Field ℕ
both label short = named label short (fixed 8) none none

-- the field of an index is 1
abbrev is_one : ℕ → Tree ℕ
is_one i = two Eq (read i) (num 1)

-- a field that is present only where this holds, and one whose constraint it is
abbrev pub tail_by : ℕ → Field ℕ
tail_by i = unnamed "Tail" (fixed 8) none (some (is_one i))

abbrev pub end_by : String → ℕ → Field ℕ
end_by label i = unnamed label (fixed 8) (some (is_one i)) none

-- the last depends on the first field, which has a label alone
abbrev pub by_label : String → Description
by_label label = page (plain label ∷ plain "Other" ∷ tail_by 0 ∷ [])

-- on the first, whose label and short name are one word
abbrev pub one_word : Description
one_word = page (both "L" "L" ∷ plain "Other" ∷ tail_by 0 ∷ [])

-- the first depends on the last; the last on itself; a constraint reads its own field
abbrev pub by_later : Description
by_later = page (tail_by 1 ∷ plain "Mine" ∷ [])

abbrev pub by_itself : Description
by_itself = page (plain "Other" ∷ tail_by 1 ∷ [])

abbrev pub own_read : String → Description
own_read label = page (end_by label 0 ∷ [])

-- the last reads the rest field, and a measured one
abbrev pub by_rest : Description
by_rest = page (unnamed "Mine" rest none none ∷ end_by "End" 0 ∷ [])

abbrev pub by_measured : Description
by_measured = page (unnamed "Mine" (measured 8 (two Add (num 1) (num 1))) none none ∷ end_by "End" 0 ∷ [])

-- a label is the short name of a later field, and of an earlier one
abbrev pub label_first : Description
label_first = page (plain "L" ∷ both "Long" "L" ∷ [])

abbrev pub short_first : Description
short_first = page (both "Long" "L" ∷ plain "L" ∷ [])

-- each is the other's
abbrev pub crossed : Description
crossed = page (both "A" "X" ∷ both "X" "A" ∷ [])

-- 9 letters, of which 8 are the other's short name; large and small letters
abbrev pub longer : Description
longer = page (plain "Ninebytes" ∷ both "Long" "Ninebyte" ∷ [])

abbrev pub other_case : Description
other_case = page (plain "L" ∷ both "Long" "l" ∷ [])

-- one word as both names of two fields
abbrev pub two_words : Description
two_words = page (both "L" "L" ∷ both "M" "M" ∷ [])

-- a width by a label
abbrev pub sized_by : String → Description
sized_by label = page (plain label ∷ unnamed "Body" (measured 8 (read 0)) none none ∷ [])

-- a field that may be absent, and one that reads it by its label
abbrev pub absent_read : Description
absent_read = page (plain "Flag" ∷ unnamed "Mine" (fixed 8) none (some (is_one 0)) ∷ tail_by 1 ∷ [])

-- labels that are short names of others: not of neighbours, of long fields, of the last of many
abbrev pub far_clashes : List Description
far_clashes =
    page (plain "L" ∷ plain "Other" ∷ both "Long" "L" ∷ [])
    ∷ page (both "Long" "L" ∷ plain "Other" ∷ plain "L" ∷ [])
    ∷ page (unnamed "Mine" rest none none ∷ both "Sum" "Mine" ∷ [])
    ∷ page (named "Body" "Sum" rest none none ∷ plain "Sum" ∷ [])
    ∷ page (many_fields 0 127 ++ (both "Last" "F0" ∷ []))
    ∷ []

-- the table is accepted
abbrev accepts : Description → Claim
accepts d = checks_bytes (stored d) (accepted (length (stored d)))

-- ── the answers ──

abbrev in_labels : List Claim
in_labels =
    -- an index to a field with a readable label refused: of some letters, of one, of 8, with a digit; reserved words
    -- without their case
    checks (by_label "Mine") not_good
    ∷ checks (by_label "M") not_good
    ∷ checks (by_label "Eightlet") not_good
    ∷ checks (by_label "M1") not_good
    ∷ checks (by_label "Present") not_good
    ∷ checks_in earlier (stored (by_label "Mine")) not_good
    -- in a width, in its own constraint; where its names are one word
    ∷ checks (sized_by "Size") not_good
    ∷ checks (own_read "Mine") not_good
    ∷ checks one_word not_good
    -- a label that is not readable read: with a space, a hyphen, a digit in front, 9 letters, a reserved word
    ∷ accepts (by_label "My Own")
    ∷ accepts (by_label "My-Own")
    ∷ accepts (by_label "1st")
    ∷ accepts (by_label "Ninebytes")
    ∷ accepts (by_label "bit")
    ∷ accepts (by_label "bits")
    ∷ accepts (by_label "byte")
    ∷ accepts (by_label "bytes")
    ∷ accepts (by_label "variable")
    ∷ accepts (by_label "present")
    ∷ accepts (sized_by "My Own")
    ∷ accepts (own_read "My Own")
    -- the readable label of a later field read, of the field itself in its condition, of a rest or measured field
    ∷ accepts by_later
    ∷ accepts by_itself
    ∷ accepts by_rest
    ∷ accepts by_measured
    ∷ []

abbrev in_clashes : List Claim
in_clashes =
    -- a label that is another's short name accepted, either way round, and read by
    accepts label_first
    ∷ accepts short_first
    ∷ accepts crossed
    ∷ checks_in earlier (stored crossed) (accepted (length (stored crossed)))
    ∷ reads_in current 30 (stored short_first) (5 ∷ 6 ∷ []) (accepted 16) (run_of (entry 0 8 5 ∷ entry 8 8 6 ∷ []))
    ∷ reads_in current 30 (stored label_first) (5 ∷ 6 ∷ []) (accepted 16) (run_of (entry 0 8 5 ∷ entry 8 8 6 ∷ []))
    ∷ finds_in (stored label_first) (bytes "L") (accepted 0)
    ∷ finds_in (stored label_first) (bytes "L") (refused 30 0)
    -- a field refused because its names are one word; a label cut to 8 bytes, or letters without their case, taken for
    -- a clash; labels no longer compared
    ∷ checks two_words not_good
    ∷ checks longer not_good
    ∷ checks other_case not_good
    ∷ checks (page (plain "Eightlet One" ∷ plain "Eightlet Two" ∷ [])) not_good
    ∷ accepts (page (plain "My Own" ∷ plain "My Own" ∷ []))
    -- compared with the neighbour alone, with fixed fields alone, with the first 64 alone
    ∷ map accepts far_clashes

abbrev in_readings : List Claim
in_readings =
    -- the neighbour of the field that is read by its label; the condition passed over
    reads (by_label "Mine") (0 ∷ 1 ∷ 7 ∷ []) (accepted 24) (run_of (entry 0 8 0 ∷ entry 8 8 1 ∷ entry 16 8 7 ∷ []))
    ∷ reads (by_label "Mine") (1 ∷ 0 ∷ 7 ∷ []) (refused 28 0) lent_run
    ∷ reads one_word (1 ∷ 0 ∷ []) (accepted 16) (run_of (entry 0 8 1 ∷ entry 8 8 0 ∷ absent ∷ []))
    -- an absent field that is read by its label: taken for 0, or the fault at the absent field
    ∷ reads absent_read (0 ∷ []) (accepted 8) (run_of (entry 0 8 0 ∷ absent ∷ absent ∷ []))
    ∷ reads absent_read (0 ∷ 5 ∷ []) (refused 26 2) lent_run
    -- a field whose names are one word found twice, or not at all; one by a label that cannot be read not found
    ∷ finds two_words (bytes "M") (accepted 2)
    ∷ finds two_words (bytes "M") (refused 30 0)
    ∷ finds (page (plain "My Own" ∷ [])) (bytes "My Own") (refused 30 0)
    ∷ []

abbrev pub wrong_names : List Claim
wrong_names = in_labels ++ (in_clashes ++ in_readings)
