-- How often each field is read, counted field by field. [02, R-5]
use Rattle.std.specs.Prelude.{◌≡◌, List, ℕ, ◌%◌, ◌<◌, length, get_or}
use Rattle.rules.specs.Fields.{Field}
use Rattle.rules.specs.References.{readers}

-- at each index the references to the field of that index in other fields' expressions, as two bytes have them
pub record Counted (fs : List (Field ℕ)) (counts : List ℕ) : Type 0 where
  pub each : (i : ℕ) → i < length counts → get_or counts i 0 ≡ readers fs i % 65536
