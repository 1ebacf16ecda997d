-- WithinTest    within the limits, by one test
-- Readers       what a stored table stores, read from its bytes
-- ReadsNumbers  numbers and counted lists are read again
-- ReadsTrees    stored trees are read again
-- ReadsFields   the records of fields are read again
-- OperatorLaws  what an edition knows, a wider one knows and evaluates alike
-- NameLaws      a name is that of one field only
-- NamesStay     what R-2 left as it was
-- Unique        a stored table stores one description
-- Decidable     whether a table is good is decidable
-- Earlier       what an edition with narrower limits accepts is accepted by one with wider ones
-- Without       what an edition without the operators of codes 0x13 to 0x15 gives stays
-- Counting      how often a field is read fits into two bytes, and may be counted field by field
-- Numbers       a record keeps the true number, an old table none
-- Delivered     what an output holds where it was accepted
-- Converted     what converting an old table gives
-- Renumbering     indexes of fields cut out and put in, and back
-- Runs            fields before, in and behind a run
-- RenumberedLaws  a field with other indexes has the form and the sizes that it had
-- RunReads        which fields read a run
-- CutPut          descriptions: cutting what was put in, and putting in what was cut, give the old one
-- Joining         whether records can be put in is decidable, and their fields are the only ones
-- CutRefers       what the fields outside a run read without it
-- EditsDone       what accepted cuts and accepted records come from, and that what is written is good
-- EditsSettled    cutting and putting in have one outcome each
-- EditsTold       what they give, by tests of the bytes
-- Undone          tables: cutting what was put in, and putting in what was cut, give the old bytes
-- RenumberedReads  a field with other indexes reads to the same entry
-- RenumberedTypes  a field with other indexes keeps its types
-- ReadSteps       in an accepted packet each field was read to its entry
-- SpreadLaws      entries at the indexes that their fields had before a run was cut
-- CutReads        a cut never changes what the remaining fields mean
-- FieldSizes      how long a field's record is
-- RecordsJoined   records one behind the other, and with numbers that are alike
-- Whole           records that stand in bytes: where they end, and whose they are
-- ReadsBelow      the fields read indexes of the description's fields only
-- CutCandidate    the bytes that cutting builds
-- CutLimits       what is left after a cut keeps the limits, where fields are left and the rows fit
-- PutCandidate    the bytes that putting in builds
-- Powers        a power by at most 32 products
-- GoodTest      good, by one test of a table's bytes
-- Readings      what an accepted packet's entries come from
-- Cover         an accepted packet's bits lie in one present field each
-- Conditions    presence goes by conditions, and constraints are kept
-- PlacesOfNumbers  numbers that stand in two bytes and in four
-- Settled       the promises settle each answer and buffer
-- RunCover      the entries in the run after an accepted packet cover it
-- Allowed         all that a promise allows
-- RuledOut        the answers of wrong programs (specs/Wrong) are ruled out
-- RuledOutAlways  what is ruled out for all inputs
-- RuledOutRefusals  the numbers and places of wrong programs (specs/WrongRefusals) are ruled out
-- Places        where bytes stand: joined, split, the byte in front, the end
pub mod WithinTest
pub mod Readers
pub mod ReadsNumbers
pub mod ReadsTrees
pub mod ReadsFields
pub mod OperatorLaws
pub mod NameLaws
pub mod NamesStay
pub mod Unique
pub mod Decidable
pub mod Earlier
pub mod Without
pub mod Counting
pub mod Numbers
pub mod Delivered
pub mod Converted
pub mod Renumbering
pub mod Runs
pub mod RenumberedLaws
pub mod RunReads
pub mod CutPut
pub mod Joining
pub mod CutRefers
pub mod EditsDone
pub mod EditsSettled
pub mod EditsTold
pub mod Undone
pub mod RenumberedReads
pub mod RenumberedTypes
pub mod ReadSteps
pub mod SpreadLaws
pub mod CutReads
pub mod FieldSizes
pub mod RecordsJoined
pub mod Whole
pub mod ReadsBelow
pub mod CutCandidate
pub mod CutLimits
pub mod PutCandidate
pub mod Powers
pub mod GoodTest
pub mod Readings
pub mod Cover
pub mod Conditions
pub mod PlacesOfNumbers
pub mod Settled
pub mod RunCover
pub mod Allowed
pub mod RuledOut
pub mod RuledOutAlways
pub mod RuledOutRefusals
pub mod Places
