-- Other indexes put into the expressions of records.
-- This mirrors the code of src/shifts.rt: no public promise rests on this file.
use Rattle.std.specs.Prelude.{cond, List, ◌++◌, ℕ, zero, suc, ◌+◌, ltb, take, drop}
use Rattle.references.specs.Renumbered.{renumbered_bytes}
use Rattle.writing.specs.declared.spans.Span.{Span}
use Rattle.packets.specs.declared.records.Parts.{Parts}
use Rattle.packets.specs.Parts.{table_most, parts_at}
use Rattle.packets.specs.Lookups.{is_missing}

unfoldable pub part_shifted : (ℕ → ℕ) → Span → List ℕ → List ℕ
part_shifted g p s =
    cond (is_missing s p) s
    (take p.at s ++ (renumbered_bytes g (take p.len (drop p.at s)) ++ drop (p.at + p.len) s))

abbrev pub record_shifted : (ℕ → ℕ) → Parts → List ℕ → List ℕ
record_shifted g p s = part_shifted g p.condition (part_shifted g p.constraint (part_shifted g p.tree s))

-- n records from a place on
unfoldable pub shifted_from : (ℕ → ℕ) → ℕ → ℕ → List ℕ → List ℕ
shifted_from g zero place s = s
shifted_from g (suc n) place s =
    cond (ltb table_most place) s (shifted_from g n (parts_at s place).next (record_shifted g (parts_at s place) s))
