-- Answers of programs that are wrong about the limits in force, or about those of the earlier edition. [02, R-10]
use Rattle.std.specs.Prelude.{List, [], ◌∷◌, ◌++◌, ℕ, zero, suc, ◌*◌, length, replicate, set, take}
use Rattle.base.specs.Bytes.{bytes, decimal}
use Rattle.base.specs.Lists.{joined}
use Rattle.rules.specs.Limits.{limits}
use Rattle.rules.specs.Fields.{Description}
use Rattle.rules.specs.Editions.{earlier}
use Rattle.rules.specs.Stored.{stored}
use Rattle.rules.specs.Reading.{Entry, numbers_of, part_from}
use Rattle.rules.specs.Answers.{accepted, refused}
use Rattle.rules.specs.Promises.{overlaid, not_good}
use Rattle.rules.specs.Cases.{lent_run, entry}
use Rattle.rules.specs.Pages.{page, many_fields, with_rest}
use Rattle.laws.specs.Wrong.{
  Claim,
  checks,
  checks_in,
  checks_bytes,
  reads_in,
  reads_with,
  reads,
  lists_with,
  lists,
  partly_with,
  reads_partly,
  hands,
  places_part,
  finds,
  places_label,
  tells_limits,
  counts,
  tells_kind,
  run_of,
  output_of,
}

-- n fields of a byte, and the entries that a packet of as many 5s has by them
abbrev pub fields_of : ℕ → Description
fields_of n = page (many_fields 0 n)

abbrev pub fives : ℕ → List ℕ
fives n = replicate n 5

unfoldable pub entries_of : ℕ → ℕ → List Entry
entries_of i zero = []
entries_of i (suc n) = entry (8 * i) 8 5 ∷ entries_of (suc i) n

-- and their lines in its listing
unfoldable pub lines_of : ℕ → ℕ → List ℕ
lines_of i zero = []
lines_of i (suc n) =
    bytes "F" ++ (decimal i ++ (bytes ": " ++ (decimal (8 * i) ++ (bytes " 8 5\n" ++ lines_of (suc i) n))))

abbrev pub listing_of : ℕ → List ℕ → List ℕ
listing_of n last = lines_of 0 n ++ last

-- what the limits of document 01 would answer, or none at all [02, R-10]
abbrev in_reading : List Claim
in_reading =
    -- 65 fields refused; 129 accepted
    checks (fields_of 65) not_good
    ∷ checks_bytes (stored (fields_of 129)) (accepted (length (stored (fields_of 129))))
    -- the 65th field's numbers left out of the run; its run refused as too short; 65 fields not read
    ∷ reads_with 260 (fields_of 65) (fives 65) (accepted 520) (joined numbers_of (entries_of 0 64) ++ replicate 4 9)
    ∷ reads_with 260 (fields_of 65) (fives 65) (refused 23 0) (replicate 260 9)
    ∷ reads_with 260 (fields_of 65) (fives 65) not_good (replicate 260 9)
    -- a packet of 2,049 bytes refused; one of 8,192 accepted
    ∷ reads with_rest (fives 2049) (refused 22 0) lent_run
    ∷ reads with_rest (fives 8192) (accepted 65536) (run_of (entry 0 8 5 ∷ entry 8 65520 0 ∷ entry 65528 8 5 ∷ []))
    -- 2,049 bytes refused by a listing, a part, and what is read as far as it goes
    ∷ lists with_rest (fives 2049) (accepted 16) (output_of (bytes "refused 22 at 0\n"))
    ∷ places_part with_rest (fives 2049) 1 (part_from 0 0)
    ∷ reads_partly with_rest (fives 2049) (refused 22 0) lent_run 0
    -- 128 fields refused, or 8,191 bytes; a place of 14 bits
    ∷ checks (fields_of 128) not_good
    ∷ reads with_rest (fives 8191) (refused 22 0) lent_run
    ∷ reads with_rest (fives 8191) (accepted 65528) (run_of (entry 0 8 5 ∷ entry 8 65512 0 ∷ entry 16368 8 5 ∷ []))
    -- the first 64 fields alone read: bits left over; a run of 64; a packet of 64 bytes; written before 24 at the 65th
    ∷ reads_with 260 (fields_of 65) (fives 65) (refused 28 0) (replicate 260 9)
    ∷ reads_with 256 (fields_of 65) (fives 65) (accepted 520) (joined numbers_of (entries_of 0 64))
    ∷ reads_with 260 (fields_of 65) (fives 64) (accepted 512) (joined numbers_of (entries_of 0 64) ++ replicate 4 9)
    ∷ reads_with 260 (fields_of 65) (fives 64) (refused 24 65) (joined numbers_of (entries_of 0 64) ++ replicate 4 9)
    ∷ []

-- the same of what is read as far as it goes, of a listing, and of what is looked up
abbrev in_others : List Claim
in_others =
    -- as far as it goes: 64 fields of 65; 21, and their numbers written; 23 for a run that is long enough
    partly_with 260 (fields_of 65) (fives 65) (accepted 520) (joined numbers_of (entries_of 0 64) ++ replicate 4 9) 64
    ∷ partly_with 260 (fields_of 65) (fives 65) not_good (joined numbers_of (entries_of 0 64) ++ replicate 4 9) 64
    ∷ partly_with 260 (fields_of 65) (fives 65) (refused 23 0) (replicate 260 9) 0
    -- a listing cut off after 64 lines, with the bit total or without; 21 listed
    ∷ lists_with 1000 (fields_of 65) (fives 65) (accepted (length (listing_of 64 (bytes "bits 520\n"))))
    (overlaid (listing_of 64 (bytes "bits 520\n")) (replicate 1000 9))
    ∷ lists_with 1000 (fields_of 65) (fives 65) (accepted (length (listing_of 64 [])))
    (overlaid (listing_of 64 []) (replicate 1000 9))
    ∷ lists_with 1000 (fields_of 65) (fives 65) (accepted 16) (overlaid (bytes "refused 21 at 0\n") (replicate 1000 9))
    -- the 65th field not counted, not found, without a kind, a label or a part; the first one's for it
    ∷ counts (fields_of 65) (accepted 64)
    ∷ finds (fields_of 65) (bytes "F64") (refused 30 0)
    ∷ tells_kind (fields_of 65) 64 (refused 30 0)
    ∷ places_label (fields_of 65) 64 (part_from 0 0)
    ∷ places_part (fields_of 65) (fives 65) 64 (part_from 0 0)
    ∷ hands (fields_of 65) (fives 65) 64 (5 ∷ []) 0
    -- the limits of document 01 told; one byte more for a packet
    ∷ tells_limits (set limits 1 64)
    ∷ tells_limits (set limits 2 2048)
    ∷ tells_limits (set limits 2 8192)
    -- one byte more for a line, one less, its LF counted or none told [02, R-9]
    ∷ tells_limits (set limits 11 1025)
    ∷ tells_limits (set limits 11 1023)
    ∷ tells_limits (take 11 limits)
    ∷ []

-- the same of the limits that a depot had before [02, R-10]
abbrev before : List Claim
before =
    -- 64 fields refused; 65 accepted
    checks_in earlier (stored (fields_of 64)) not_good
    ∷ checks_in earlier (stored (fields_of 65)) (accepted 1243)
    -- a part of 65 fields read: all; 64 and bits left over; 64, where the packet has no more
    ∷ reads_in earlier 260 (stored (fields_of 65)) (fives 65) (accepted 520) (joined numbers_of (entries_of 0 65))
    ∷ reads_in earlier 260 (stored (fields_of 65)) (fives 65) (refused 28 0) (replicate 260 9)
    ∷ reads_in earlier 260 (stored (fields_of 65)) (fives 64) (accepted 512)
    (joined numbers_of (entries_of 0 64) ++ replicate 4 9)
    -- 22 or 23 before 21; the run changed
    ∷ reads_in earlier 260 (stored (fields_of 65)) (fives 2049) (refused 22 0) (replicate 260 9)
    ∷ reads_in earlier 256 (stored (fields_of 65)) (fives 65) (refused 23 0) (replicate 256 9)
    ∷ reads_in earlier 260 (stored (fields_of 65)) (fives 65) not_good (replicate 260 0)
    -- 2,048 bytes refused; 2,049 accepted
    ∷ reads_in earlier 30 (stored with_rest) (fives 2048) (refused 22 0) lent_run
    ∷ reads_in earlier 30 (stored with_rest) (fives 2049) (accepted 16392)
    (run_of (entry 0 8 5 ∷ entry 8 16376 0 ∷ entry 16384 8 5 ∷ []))
    ∷ []

abbrev pub wrong_limits : List Claim
wrong_limits = in_reading ++ (in_others ++ before)
