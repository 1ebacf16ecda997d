-- Answers of programs that are wrong about some records alone: of one kind, of 256 bytes and more, of many fields.
-- [02, R-5]
use Rattle.std.specs.Prelude.{List, [], ◌∷◌, ◌++◌, map, ℕ, suc, ◌+◌, take, drop, set, get_or}
use Rattle.std.proofs.Math.Option.{none, some}
use Rattle.base.specs.Bytes.{bytes, decimal}
use Rattle.rules.specs.declared.Op.TheVariants.{Eq, Div, Rem, Pow}
use Rattle.rules.specs.Trees.{Tree, num, read, two}
use Rattle.rules.specs.Fields.{fixed, measured, Field, Description}
use Rattle.rules.specs.Editions.{without_readers}
use Rattle.rules.specs.Stored.{stored_in, stored}
use Rattle.rules.specs.Answers.{accepted}
use Rattle.rules.specs.Promises.{not_good}
use Rattle.rules.specs.Cases.{named, unnamed}
use Rattle.rules.specs.Marked.{blade_report, tag_table}
use Rattle.rules.specs.Pages.{page, with_rest, many_fields, old_tag_table, one_is_one, not_times, long}
use Rattle.laws.specs.Wrong.{Claim, checks, counts_readers}
use Rattle.laws.specs.WrongLimits.{fields_of}
use Rattle.laws.specs.WrongOperators.{both_give, required_by, present_by, sized}
use Rattle.laws.specs.WrongNumbers.{doubled, numbered, alike, old, accepts, becomes, keeps_old}

-- ── descriptions ──

-- a byte behind n fields, that depends on the last of them, of the index i, and whose constraint reads itself
abbrev pub reads_last : ℕ → ℕ → Field ℕ
reads_last n i = record {
  label = bytes "F" ++ decimal n;
  short = none;
  width = fixed 8;
  constraint = some (two Eq (read n) (num 1));
  condition = some (two Eq (read i) (num 1));
}

-- i + 2 fields, of which the last reads the one before, of the index i
abbrev pub chained : ℕ → Description
chained i = page (many_fields 0 (suc i) ++ (reads_last (suc i) i ∷ []))

-- S, and as many bytes as 32 times S, with a constraint and a condition: the old record of Body has 246 + n bytes
abbrev pub long_record : ℕ → Description
long_record n = page
    (named "Size" "S" (fixed 8) none none
    ∷ unnamed "Body" (measured 8 (doubled 5)) (some (long 1)) (some (not_times n one_is_one))
    ∷ [])

-- ── tables ──

-- the record from a place on has one byte more, in front of another place
abbrev pub longer : ℕ → ℕ → List ℕ → List ℕ
longer from to table = set (take to table ++ (0 ∷ drop to table)) from (1 + get_or table from 0)

-- the kind of Readings; of with_rest's Body
abbrev pub readings_kind : ℕ → List ℕ
readings_kind k = set (stored blade_report) 166 k

abbrev pub old_readings_kind : ℕ → List ℕ
old_readings_kind k = set (old blade_report) 156 k

abbrev pub rest_kind : ℕ → List ℕ
rest_kind k = set (stored with_rest) 36 k

abbrev pub old_rest_kind : ℕ → List ℕ
old_rest_kind k = set (old with_rest) 34 k

-- a wrong high byte of the length of Body's record
abbrev pub cut_length : ℕ → List ℕ
cut_length n = set (stored (long_record n)) 36 0

-- ── the answers ──

-- of kinds
abbrev in_kinds : List Claim
in_kinds =
    -- a measured field of kind 3 with a number, and a rest field of kind 4; another one's kind
    map (λ k. accepts (readings_kind k)) (3 ∷ 2 ∷ 12 ∷ 14 ∷ [])
    ++ (map (λ k. accepts (rest_kind k)) (4 ∷ 2 ∷ 12 ∷ 13 ∷ [])
    -- old records of 65 fields, and with `/`, `%` and `^`
    ++ (accepts (stored_in without_readers (fields_of 65))
    ∷ map (λ o. accepts (stored_in without_readers (sized o))) (Div ∷ Rem ∷ Pow ∷ [])
    -- converted: a record of kind 13 or 14 without a number
    ++ (becomes 250 (old_readings_kind 13) (stored blade_report)
    ∷ becomes 250 (old_readings_kind 13) (readings_kind 23)
    ∷ becomes 100 (old_rest_kind 14) (stored with_rest)
    ∷ becomes 100 (old_rest_kind 14) (rest_kind 24)
    -- a kind with a high byte; a field's record of the kind 1, 5 or 0; the kind set to 12, or 10 more
    ∷ becomes 50 (set old_tag_table 16 1) tag_table
    ∷ becomes 50 (set old_tag_table 16 1) (set tag_table 16 1)
    ∷ map (λ k. becomes 50 (set old_tag_table 15 k) tag_table) (1 ∷ 5 ∷ 0 ∷ [])
    ++ map (λ k. becomes 50 (set old_tag_table 15 k) (set tag_table 15 (10 + k))) (1 ∷ 5 ∷ 0 ∷ []))))

-- `A / B == 1`, `A % B == 1`, `A ^ B == 1`
abbrev added : List (Tree ℕ)
added = both_give Div 1 ∷ both_give Rem 1 ∷ both_give Pow 1 ∷ []

-- of operators that old tables have not, in a constraint and in a condition
abbrev in_operators : List Claim
in_operators =
    map (λ t. becomes 100 (old (required_by t)) (stored (required_by t))) added
    ++ map (λ t. becomes 100 (old (present_by t)) (stored (present_by t))) added

-- of many fields: references to a high index, or from one, left out; the own one counted there
abbrev in_many : List Claim
in_many =
    map (λ i. counts_readers (chained i) i (accepted 0)) (15 ∷ 16 ∷ 63 ∷ 64 ∷ 126 ∷ [])
    ++ (map (λ i. counts_readers (chained i) (suc i) (accepted 1)) (15 ∷ 63 ∷ 126 ∷ [])
    ++ (map (λ i. accepts (numbered (chained i) i 0)) (15 ∷ 16 ∷ 63 ∷ 64 ∷ 126 ∷ [])
    ++ (map (λ i. accepts (numbered (chained i) (suc i) 1)) (15 ∷ 63 ∷ 126 ∷ [])
    ++ (map (λ i. checks (chained i) not_good) (15 ∷ 63 ∷ 126 ∷ [])
    -- converted
    ++ (map (λ i. becomes 1300 (old (chained i)) (alike (chained i) 0)) (15 ∷ 16 ∷ 62 ∷ [])
    ++ (map (λ i. becomes 1300 (old (chained i)) (numbered (chained i) (suc i) 1)) (15 ∷ 62 ∷ [])
    ++ (keeps_old 1300 (old (chained 62)) 21
    -- one field more than an old table has
    ∷ becomes 1300 (old (chained 63)) (stored (chained 63))
    ∷ [])))))))

-- of a record of 256 bytes and more
abbrev in_lengths : List Claim
in_lengths =
    -- 2 added to the low byte of 254, of 255; the high byte of 256 left out
    map (λ n. becomes 300 (old (long_record n)) (cut_length n)) (8 ∷ 9 ∷ 10 ∷ [])
    -- refused; the high byte passed over; references in a long record left out
    ++ (map (λ n. keeps_old 300 (old (long_record n)) 21) (8 ∷ 9 ∷ 10 ∷ [])
    ++ (map (λ n. checks (long_record n) not_good) (8 ∷ 9 ∷ 10 ∷ [])
    ++ (map (λ n. accepts (cut_length n)) (8 ∷ 9 ∷ 10 ∷ [])
    ++ (becomes 300 (old (long_record 10)) (alike (long_record 10) 0)
    ∷ counts_readers (long_record 10) 0 (accepted 0)
    -- a byte too many inside a record: of the field, of the first, of the last; left out, or kept
    ∷ becomes 50 (longer 13 40 old_tag_table) tag_table
    ∷ becomes 50 (longer 0 13 old_tag_table) tag_table
    ∷ becomes 50 (longer 40 44 old_tag_table) tag_table
    ∷ becomes 50 (longer 13 40 old_tag_table) (longer 13 42 tag_table)
    ∷ becomes 50 (longer 0 13 old_tag_table) (longer 0 13 tag_table)
    ∷ becomes 50 (longer 40 44 old_tag_table) (longer 42 46 tag_table)
    ∷ accepts (longer 13 42 tag_table)
    ∷ []))))

abbrev pub wrong_records : List Claim
wrong_records = in_kinds ++ (in_operators ++ (in_many ++ in_lengths))
