-- All worked cases hold: a list for each section of 01, for rows of several lines [02, R-1], for names [02, R-2], for
-- fields that are cut out and put in [02, R-4], for how often a field is read [02, R-5], for quotients, remainders and
-- powers [02, R-7] and for lines of a limited length [02, R-9], of what M1 to M10 leave open, so that no definition is
-- hollow.
use Rattle.rules.specs.Cases.{AllHold}
use Rattle.cases.specs.LinesOfAText.{lines_of_a_text}
use Rattle.cases.specs.Rows.{rows}
use Rattle.cases.specs.LineLengths.{line_lengths}
use Rattle.cases.specs.Expressions.{expressions}
use Rattle.cases.specs.Fields.{fields}
use Rattle.cases.specs.Names.{names}
use Rattle.cases.specs.Quotients.{quotients}
use Rattle.cases.specs.StoredTable.{stored_table}
use Rattle.cases.specs.Readers.{readers}
use Rattle.cases.specs.Edits.{edits}
use Rattle.cases.specs.Spelling.{spelling}
use Rattle.cases.specs.ReadingAPacket.{reading_a_packet}
use Rattle.cases.specs.RefusalNumbers.{refusal_numbers}
use Rattle.cases.specs.Listing.{listings}
use Rattle.cases.specs.Promised.{promised, AllSo}

pub record Worked : Type 0 where
  pub lines : AllHold lines_of_a_text
  pub rows : AllHold rows
  pub lengths : AllHold line_lengths
  pub expressions : AllHold expressions
  pub fields : AllHold fields
  pub names : AllHold names
  pub quotients : AllHold quotients
  pub tables : AllHold stored_table
  pub readers : AllHold readers
  pub edits : AllHold edits
  pub spelling : AllHold spelling
  pub packets : AllHold reading_a_packet
  pub refusals : AllHold refusal_numbers
  pub listings : AllHold listings
  pub promises : AllSo promised
