-- OptionLaws               what stands in equal options is equal
-- OperatorRows             the columns of an operator's row, and a byte of no operator
-- FirstSymbol              the first operator in front of a text, by its first two bytes
-- ExprSigns, ExprLeaves    operators and words at a place of a text, as the code reads them
-- ShortWords               words of letters and digits that are short names
-- ExprSteps                expressions at a place of a text
-- TakenSteps, AtomSteps    operators that may stand at a level, and what an atom begins with
-- StoredBytes, StoredSteps, StoredExprs   expressions in their stored form, as the code makes them
-- ChainLaws, ChainReads, ChainSteps, ChainGoes   operators that group to the right and wait for their right operand
-- FieldWords, FieldNames   phrases, units, labels and short names at a place of a text
-- FieldClauses             constraint and condition at a place of a text
-- FirstPlaces              the first byte that passes a test, as the library finds it
-- FrameLeaves              pieces, rulers and the opening line, as the code reads them
-- TrimLaws                 blanks taken off both ends of a text
-- RowLeaves                long rows, as the code reads them
-- DrawnLines               the lines of a drawn row, and one more line of it
-- TreeTypes                the types of a line's expressions, by the stored forms that the code makes
-- HeldClashes              a field's names held against those of earlier fields
-- LineSearches             searches over the field lines that the code holds
-- NameLengths              the lengths of held names
-- NameAreas                entries of one size in bytes, and the names of a line put in
-- StartLaws, LookLaws      where a walk over the held names begins, and what it finds
-- AreaLaws, FormAreas, LineAreas   parts of the bytes that hold what is kept, lent and back
-- FirstBreaks              the first line that breaks a rule, by a search over indexes
-- LineRules                what the code tests of the lines says which rule their forms break
-- LineTypes                the types that the code tests are those that rule 9 asks of the forms
-- NumberWords              the value of a number word, digit by digit
-- NumberTrees              where the number of a tree that is a single number stands
-- FieldWidths              widths at a place of a text
-- ClauseTrees              constraint and condition in their stored form, at a place of a text
-- WidthTrees               widths with their expressions in stored form, at a place of a text
-- FieldEnds                what stands behind the width, at a place of a text
-- FieldParts               the parts of a whole field line
-- PartSteps                the parts of a field line with their expressions in stored form
-- PartSlots                a kept cell held against the parts of a field line
-- PartRules                what is tested of the expressions of a field line is what the rules ask
-- PartBytes                the bytes that are written of the parts of a field line are its record
-- LineCounts               what the expressions of a field line read is counted
-- SplitSteps               the pieces of a text from a place on
-- LineEnds                 the first byte that is not printable, and the line feed
-- RowTests                 the row of a line, as the code tests it
-- SlotLaws                 a cell as it is kept, and whether it is one for the field of a line
-- SlotRows                 the cells of a row that is read, and cells put one behind the other
-- CellNames                a cell held against a field line
-- CellSteps                the text of a cell, line by line
-- RowShown                 the cells of a row by its kept lines
-- RecordSizes              the lengths of what is stored of a line, by its parts
-- RecordLaws               what is written of a line is its record
-- RecordNumbers            the records of fields get their numbers
-- TableLaws                what is written of all lines is the table, and its length
-- HeldNames                names held by value: rule 9 of a line, and the record that is written of it
-- Holding                  what the code writes of a field line stands in for the field that the fold keeps
-- StateSteps               what the code keeps behind a right line and behind a wrong one
-- HeldArrays               names held in arrays, and one more
-- RowSteps                 what the code keeps behind a row
-- RowLines                 the lines of a row as they are kept
-- MoreSteps                what the code keeps behind a line in a row
-- FormRules                the rules 7 to 10 of a line, by what the code tests of it
-- SlotPlaces               where the kept cells stand
-- LineForms                one field line: its form, its names as they are held, room for it
-- EndSteps                 the end of a text: the lowest refusal, and the table
-- StateBytes, CountBytes   the numbers of a reading, and how often each field is read, as bytes of a state
-- StateChanges             bytes that differ only between two places: what changes them so, and what it leaves
-- FillLaws  bytes set to one value
-- KeptStates, BegunStates  states cut, stored, with a part more, and before the first byte
-- ClearedStates  states in which no line is held
-- LeftStates  what a state holds stands in its first bytes
-- LineWalk                 the lines of a text, one by one: what is left decides
-- JoinLaws                 a line of which the first bytes are held in a state, put together and ended
-- PieceLaws, PieceWalks    bytes one behind the other; the lines of a piece behind a held line
-- TakenPieces, JoinedPieces  a piece taken into a state, that of the text and the piece
-- EndPieces                the end of a text that came in pieces
-- FieldSteps               what the code keeps behind a field line
-- HeadSteps                what the code keeps behind the lines that hold NAME, W and cells
pub mod OperatorRows
pub mod FirstSymbol
pub mod ExprSigns
pub mod ExprLeaves
pub mod ShortWords
pub mod ExprSteps
pub mod TakenSteps
pub mod AtomSteps
pub mod StoredBytes
pub mod StoredSteps
pub mod StoredExprs
pub mod ChainLaws
pub mod ChainReads
pub mod ChainSteps
pub mod ChainGoes
pub mod FieldWords
pub mod FieldNames
pub mod FieldClauses
pub mod FrameLeaves
pub mod FirstPlaces
pub mod TrimLaws
pub mod RowLeaves
pub mod TreeTypes
pub mod LineSearches
pub mod NameAreas
pub mod StartLaws
pub mod LookLaws
pub mod AreaLaws
pub mod FormAreas
pub mod LineAreas
pub mod CutLines
pub mod NameLengths
pub mod FirstBreaks
pub mod LineRules
pub mod HeldClashes
pub mod LineTypes
pub mod NumberWords
pub mod NumberTrees
pub mod FieldWidths
pub mod FieldEnds
pub mod ClauseTrees
pub mod WidthTrees
pub mod FieldParts
pub mod PartSteps
pub mod SplitSteps
pub mod LineEnds
pub mod DrawnLines
pub mod RowTests
pub mod CellNames
pub mod CellSteps
pub mod RowShown
pub mod SlotLaws
pub mod SlotRows
pub mod RecordSizes
pub mod RecordLaws
pub mod PartSlots
pub mod PartRules
pub mod OptionLaws
pub mod PartBytes
pub mod LineCounts
pub mod TableLaws
pub mod HeldNames
pub mod Holding
pub mod StateSteps
pub mod HeadSteps
pub mod HeldArrays
pub mod RowSteps
pub mod RowLines
pub mod MoreSteps
pub mod FieldSteps
pub mod RecordNumbers
pub mod EndSteps
pub mod StateBytes
pub mod CountBytes
pub mod LineWalk
pub mod JoinLaws
pub mod EndPieces
pub mod StateChanges
pub mod KeptStates
pub mod FillLaws
pub mod ClearedStates
pub mod LeftStates
pub mod BegunStates
pub mod PieceLaws
pub mod PieceWalks
pub mod TakenPieces
pub mod JoinedPieces
pub mod LineForms
pub mod SlotPlaces
pub mod FormRules
