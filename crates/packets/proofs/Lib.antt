-- Products                          a product of two 32-bit numbers
-- TreeSteps, TreeTypes              one step of checking, skipping and evaluating a stored tree
-- TreeSound, TreeComplete           what the check finds is stored, and what is stored is found
-- TreeValues                        a stored tree's value
-- PartsLaws, RecordLaws             the parts of a record and the field stored there
-- FieldBounds, TableHead            sizes of a field within the limits; a stored table's first record
-- FieldSteps, WalkSteps, NameSteps, CountSteps   what the code that checks a table's fields is told at its steps
-- TableSteps, RightSteps            and the code that checks a whole table
-- PartBytes, FieldParts, FieldTests, FieldOrder  a field's record: tests and rules
-- WalkLaws, NameLaws, CountLaws, TableParts, TableLaws   all fields, names, numbers, the whole table: tests and rules
-- BitLaws, StepLaws, PacketWalk     bits, one field of a packet, and all
-- RunEntries, FieldReads, FieldMatches, HeadReads, WalkReads   what a stored table's walk reads
-- PacketPromises, PartPromises, PartlyPromises   from the walk to the promises
-- WriteLaws, LinesWritten           writing one byte, and one line, behind the other
-- LinesStored, ListingTexts, ListingStored   what is written by a table is its description's listing
-- LookupSteps, LookupStored, LookupPromises   records by index and fields by name
-- HavingLaws, ShiftSteps, ShiftLaws   what is looked for in a table's expressions, and other indexes put into them
-- PlainLaws, WidenLaws, WidenSteps, NumberedLaws, ConvertPromises   old tables converted
pub mod Products
pub mod TreeSteps
pub mod TreeTypes
pub mod TreeSound
pub mod TreeComplete
pub mod TreeValues
pub mod PartsLaws
pub mod RecordLaws
pub mod FieldBounds
pub mod TableHead
pub mod FieldSteps
pub mod WalkSteps
pub mod NameSteps
pub mod CountSteps
pub mod PartBytes
pub mod FieldParts
pub mod FieldTests
pub mod FieldOrder
pub mod WalkLaws
pub mod NameLaws
pub mod CountLaws
pub mod TableSteps
pub mod RightSteps
pub mod TableParts
pub mod TableLaws
pub mod BitLaws
pub mod StepLaws
pub mod PacketWalk
pub mod RunEntries
pub mod FieldReads
pub mod FieldMatches
pub mod HeadReads
pub mod WalkReads
pub mod PacketPromises
pub mod PartPromises
pub mod PartlyPromises
pub mod WriteLaws
pub mod LinesWritten
pub mod LinesStored
pub mod ListingTexts
pub mod ListingStored
pub mod LookupSteps
pub mod LookupStored
pub mod LookupPromises
pub mod HavingLaws
pub mod ShiftSteps
pub mod ShiftLaws
pub mod CutPromises
pub mod EditWrites
pub mod EditBytes
pub mod CutBytes
pub mod PutBytes
pub mod PutPromises
pub mod PlainLaws
pub mod WidenLaws
pub mod WidenSteps
pub mod NumberedLaws
pub mod ConvertPromises
