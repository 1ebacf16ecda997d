-- Records by index, and fields by name. This mirrors the code: no public promise rests on this file.
use Rattle.std.specs.Prelude.{Bool, false, cond, ◌||◌, List, [], ◌∷◌, ℕ, zero, suc, ◌+◌, ◌-◌}
use Rattle.std.specs.Prelude.{ltb, eqb, length, take, drop, Ok, Err}
use Rattle.base.specs.Lists.{same}
use Rattle.rules.specs.declared.FieldRefusal.{FieldRefusal}
use Rattle.writing.specs.declared.spans.Span.{Span}
use Rattle.packets.specs.declared.records.Parts.{Parts}
use Rattle.packets.specs.Parts.{table_most, parts_at}
use Rattle.rules.specs.Answers.{FieldAnswer}

-- the place behind n records
unfoldable pub place_from : List ℕ → ℕ → ℕ → ℕ
place_from s zero place = place
place_from s (suc n) place = cond (ltb table_most place) place (place_from s n (parts_at s place).next)

-- the parts of n records from a place on, as far as they begin where those of a table can
unfoldable pub records_from : List ℕ → ℕ → ℕ → List Parts
records_from s zero place = []
records_from s (suc n) place =
    cond (ltb table_most place) [] (parts_at s place ∷ records_from s n (parts_at s place).next)

-- the part is empty or not inside the table
abbrev pub is_missing : List ℕ → Span → Bool
is_missing s p = eqb p.len 0 || (ltb (length s) p.at || ltb (length s - p.at) p.len)

unfoldable pub is_named_in : List ℕ → Span → List ℕ → Bool
is_named_in s p name = cond (is_missing s p) false (same name (take p.len (drop p.at s)))

unfoldable pub has_name : List ℕ → Parts → List ℕ → Bool
has_name s p name = is_named_in s p.label name || is_named_in s p.short name

unfoldable pub find_from : List ℕ → List ℕ → ℕ → ℕ → ℕ → FieldAnswer
find_from s name i zero place = Err FieldRefusal.Unknown
find_from s name i (suc n) place =
    cond (ltb table_most place) (Err FieldRefusal.Unknown)
    (cond (has_name s (parts_at s place) name) (Ok i) (find_from s name (i + 1) n (parts_at s place).next))
