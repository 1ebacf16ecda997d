-- How often each field is read by the records of a table, and the test of the numbers that they keep.
-- This mirrors the code of src/tables.rt: no public promise rests on this file.
use Rattle.std.specs.Prelude.{◌≡◌, Bool, true, cond, ◌&&◌, List, ◌++◌, ℕ, zero, suc, ◌+◌, ◌%◌, ◌<◌, eqb, length, get_or}
use Rattle.laws.specs.Places.{two_at}
use Rattle.rules.specs.References.{times}
use Rattle.references.specs.Scans.{references}
use Rattle.references.specs.Tallies.{tallied}
use Rattle.packets.specs.declared.records.Parts.{Parts}
use Rattle.packets.specs.Parts.{parts_at}
use Rattle.packets.specs.FieldTest.{bytes_in}
use Rattle.packets.specs.NamesTest.{places_from}

-- what the three expressions of a record read
abbrev pub part_reads : List ℕ → Parts → List ℕ
part_reads s p =
    references (bytes_in s p.tree)
    ++ (references (bytes_in s p.constraint) ++ references (bytes_in s p.condition))

-- the counts behind a record, whose index is the own one
unfoldable pub record_tallied : List ℕ → Parts → ℕ → List ℕ → List ℕ
record_tallied s p own counts =
    tallied own (tallied own (tallied own counts (references (bytes_in s p.tree)))
    (references (bytes_in s p.constraint))) (references (bytes_in s p.condition))

-- the references to i in the n records from a place on, of which the first has the index k; each one's own are left out
unfoldable pub reads_from : List ℕ → ℕ → ℕ → ℕ → ℕ → ℕ
reads_from s k zero at i = 0
reads_from s k (suc n) at i =
    cond (eqb i k) 0 (times i (part_reads s (parts_at s at))) + reads_from s (suc k) n (parts_at s at).next i

-- nothing is counted yet
abbrev pub Zeros : List ℕ → Type 0
Zeros counts = (i : ℕ) → get_or counts i 0 ≡ 0

-- counts of the references in the n records from a place on
abbrev pub Tallied : List ℕ → ℕ → ℕ → List ℕ → Type 0
Tallied s n from counts = (i : ℕ) → i < length counts → get_or counts i 0 ≡ reads_from s 0 n from i % 65536

-- the records at the places from the index i on keep the counts
unfoldable pub kept_from : List ℕ → List ℕ → (ℕ → ℕ) → ℕ → ℕ → Bool
kept_from s places counts i zero = true
kept_from s places counts i (suc n) =
    eqb (two_at s (get_or places i 0 + 4)) (counts i) && kept_from s places counts (i + 1) n

-- the n records from a place on keep how often each field is read
abbrev pub numbers_test : List ℕ → ℕ → ℕ → Bool
numbers_test s n at = kept_from s (places_from s n at) (λ i. reads_from s 0 n at i % 65536) 0 n
