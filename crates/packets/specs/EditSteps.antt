-- What the code that cuts fields out and puts them in goes by. No public promise rests on this file.
use Rattle.std.specs.Prelude.{◌≡◌, true, false, List, ◌++◌, ℕ, ◌+◌, ◌-◌, ◌≤◌, length, take, drop}
use Rattle.std.specs.Prelude.{Option, Some, None}
use Rattle.std.proofs.Math.Option.{none}
use Rattle.base.specs.Lists.{is_empty}
use Rattle.laws.specs.Records.{whole}
use Rattle.rules.specs.Limits.{fields_most}
use Rattle.rules.specs.Trees.{le2}
use Rattle.rules.specs.Editions.{current}
use Rattle.rules.specs.Fields.{Description}
use Rattle.rules.specs.Edits.{first_reader}
use Rattle.rules.specs.Within.{Within}
use Rattle.rules.specs.Stored.{stored_with, stored, Good}
use Rattle.rules.specs.Answers.{refused}
use Rattle.rules.specs.Promises.{Outcome, leaves, delivered, is_run}
use Rattle.packets.specs.Parts.{table_most}

-- the start of a table, up to a place behind its first record, with another number of fields
abbrev pub start_with : List ℕ → ℕ → ℕ → List ℕ
start_with s end count = take 6 s ++ (le2 count ++ take (end - 8) (drop 8 s))

-- bytes that were judged: the table of their description, with the true numbers, or 34 where they have none
pub data Judged (bytes out : List ℕ) : Outcome → Type 0 where
  right : (numbers : ℕ → ℕ) (d : Description) → Within d → stored_with current numbers d ≡ bytes
      → Judged bytes out (delivered (stored d) out)
  wrong : ((numbers : ℕ → ℕ) (d : Description) → Within d → stored_with current numbers d ≡ bytes → ⊥)
      → Judged bytes out (leaves (refused 34 0) out)

-- a run that is there, and is read by no other field
pub record MayCut (table : List ℕ) (first last : ℕ) : Type 0 where
  pub good : Good table
  pub run : is_run first last good.description.fields ≡ true
  pub unread : first_reader first last good.description.fields ≡ none

-- the number of records, at most so many; or there is no such number
abbrev pub CountsTo : List ℕ → ℕ → Option ℕ → Type 0
CountsTo s most (Some k) = (whole k s ≡ true) × (k ≤ most)
CountsTo s most None = (k : ℕ) → k ≤ most → whole k s ≡ true → ⊥

-- k records and a place for them
pub record MayPut (table : List ℕ) (at k : ℕ) (bytes : List ℕ) : Type 0 where
  pub good : Good table
  pub inside : at ≤ length good.description.fields
  pub given : is_empty bytes ≡ false
  pub records : whole k bytes ≡ true
  pub few : length good.description.fields + k ≤ fields_most
  pub short : length table + length bytes ≤ table_most
