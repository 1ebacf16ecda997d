-- What stands in the expressions of a record, and the first record of a table that has it.
-- This mirrors the code of src/expressions.rt: no public promise rests on this file.
use Rattle.std.specs.Prelude.{◌≡◌, ◌<◌, Option, MatchOption, Bool, false, cond, ◌&&◌, ◌||◌, not}
use Rattle.std.specs.Prelude.{List, ℕ, zero, suc, ◌+◌, ltb, take, drop}
use Rattle.base.specs.Lists.{between}
use Rattle.references.specs.declared.scans.Wanted.{Wanted}
use Rattle.references.specs.declared.scans.Wanted.TheVariants.{Added, Run}
use Rattle.references.specs.Scans.{has_code}
use Rattle.writing.specs.declared.spans.Span.{Span}
use Rattle.packets.specs.declared.records.Parts.{Parts}
use Rattle.packets.specs.Parts.{table_most, parts_at}
use Rattle.packets.specs.Lookups.{is_missing}
use Rattle.laws.specs.Places.{two_at}

unfoldable pub part_has : Wanted → List ℕ → Span → Bool
part_has wanted s p = cond (is_missing s p) false (has_code wanted (take p.len (drop p.at s)))

abbrev pub record_has : Wanted → List ℕ → Parts → Bool
record_has wanted s p =
    part_has wanted s p.tree || (part_has wanted s p.constraint || part_has wanted s p.condition)

-- a record of the run that is looked for is passed over
abbrev pub is_passed : Wanted → ℕ → Bool
is_passed Added k = false
is_passed (Run first last) k = between first k last

unfoldable pub has_it : Wanted → List ℕ → Parts → ℕ → Bool
has_it wanted s p k = not (is_passed wanted k) && record_has wanted s p

-- the index of the first of n records from a place on, the first of which has the index k; or the one behind them
unfoldable pub having_from : Wanted → List ℕ → ℕ → ℕ → ℕ → ℕ
having_from wanted s k zero place = k
having_from wanted s k (suc n) place =
    cond (ltb table_most place) (k + suc n)
    (cond (has_it wanted s (parts_at s place) k) k (having_from wanted s (k + 1) n (parts_at s place).next))

-- the index of the first record of a table that has it
abbrev pub FirstHaving : Wanted → List ℕ → Option ℕ → Type 0
FirstHaving wanted s o =
    let n = two_at s 6 in
    let k = having_from wanted s 0 n (two_at s 0) in
    MatchOption o (k ≡ n) (λ i. (k ≡ i) × (i < n))
