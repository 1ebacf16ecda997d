-- Classes    the table of byte classes
-- LentNames  labels and short names by the classes of a lent table
-- Repeats    the first thing that is like an earlier one, and names held as arrays
-- Keys       a number that like words share
-- Wrong      answers of wrong programs, of which the promises are false
pub mod Classes
pub mod LentNames
pub mod Repeats
pub mod Keys
pub mod Wrong
