-- What writing a listing leaves in a buffer. No public promise rests on this file.
use Rattle.std.specs.Prelude.{◌≡◌, List, ℕ, ◌≤◌, length}
use Rattle.rules.specs.Fields.{Description}
use Rattle.rules.specs.Within.{Within}
use Rattle.rules.specs.Stored.{stored, Good}
use Rattle.rules.specs.Listing.{lines_text}
use Rattle.rules.specs.Promises.{not_good, by_table, refusal, listing}
use Rattle.writing.specs.Writes.{Writes}

-- by each description that the table stores
pub record ListsStored (table packet before after : List ℕ) (next : ℕ) : Type 0 where
  pub text : (d : Description) → Within d → stored d ≡ table → Writes before 0 (listing d packet) after next
  pub inside : next ≤ length before

-- by a table, good or not
pub record ListsInto (table packet before after : List ℕ) (next : ℕ) : Type 0 where
  pub text : (good : Dec (Good table))
      → Writes before 0 (by_table good (λ d. listing d packet) (lines_text (refusal not_good))) after next
  pub inside : next ≤ length before
