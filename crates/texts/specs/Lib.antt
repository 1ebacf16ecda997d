-- ExprPlaces  what the reader of expressions answers, at places of a text
-- FieldPlaces  what the reader of field lines answers, at places of a text
-- FramePlaces  what the reader of frames answers, at places of a text
-- LineEnds  where a line ends
-- PartPlaces  widths and what stands behind them, at places of a text
-- HeldNames  the names of fields as the code holds them
-- NameStarts  where the walk over the held names begins
-- Fills  bytes set to one value
-- HeldAreas  where what is kept of a text stands in the bytes that hold it
-- Noted  a refusal as the code notes it
-- RowPlaces  the lines of a row as the code keeps them, and its cells at their columns
-- Slots  the cells of rows as the code keeps them
-- StoredTrees  expressions in their stored form, with their types, as the code makes them
-- Kinds  the width of a field line
-- HeldParts  the parts of a field line, each expression in its stored form
-- HeldRecords  the record of a field line by the parts that the code holds
-- Resolved  a field line whose names are looked up among the held ones
-- StoredPlaces  how stored expressions are made, and what is promised of them at places of a text
-- Chains  operators that group to the right and wait for their right operand
-- Changes  what a line changes in the numbers that the code keeps
-- States  what the code keeps of a text between two lines
-- StateNumbers  the numbers of it as bytes of a state
-- WalkSteps  the lines of a text, one by one
-- PieceStates  what a state holds of a text that comes in pieces
pub mod ExprPlaces
pub mod FieldPlaces
pub mod FramePlaces
pub mod LineEnds
pub mod PartPlaces
pub mod HeldNames
pub mod NameStarts
pub mod Fills
pub mod HeldAreas
pub mod Noted
pub mod RowPlaces
pub mod Slots
pub mod StoredTrees
pub mod Kinds
pub mod HeldParts
pub mod HeldRecords
pub mod Resolved
pub mod StoredPlaces
pub mod Chains
pub mod Changes
pub mod States
pub mod StateNumbers
pub mod WalkSteps
pub mod PieceStates
