-- Reader       a reader of expressions as a function
-- LineReader   a reader of one field line
-- FrameReader  a text into lines, a line into cells, and a frame line by line
-- Bars         the bars of two lines, compared column by column
-- Resolving    names resolved to indexes
-- Lowest       the lowest number so far, at its first line
-- Judging      what is kept of field lines, and what a line does to it
-- Fold         one fold over the bytes of a text
-- Steady       what is true of what is kept, behind any lines
-- WrongTexts   answers of wrong programs to texts, of which the promise is false
-- WrongTextNames  of those that are wrong about names
-- WrongTextOperators  of those that are wrong about quotients, remainders and powers
-- WrongTextNumbers  of those that are wrong about how often a field is read
-- WrongTextRows  of those that are wrong about rows of several lines
-- WrongTextLines  of those that are wrong about how long a line may be
-- WrongPieces  answers of programs that are wrong about texts in pieces
-- The readers are helpers of code and proofs; no public promise rests on them.
pub mod Reader
pub mod LineReader
pub mod FrameReader
pub mod Bars
pub mod Resolving
pub mod Lowest
pub mod Judging
pub mod Fold
pub mod Steady
pub mod WrongTexts
pub mod WrongTextNames
pub mod WrongTextOperators
pub mod WrongTextNumbers
pub mod WrongTextRows
pub mod WrongTextLines
pub mod WrongPieces
