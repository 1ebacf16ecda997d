-- ClassRules, Spaces, Ends  what the tests of bytes and names need
-- LentLaws                  labels and short names by the table of the classes
-- RepeatLaws                searches for the first repeated thing
-- PairLaws                  loops over pairs that look for it
-- PadLaws                   names held as arrays
-- KeyLaws                   words told apart by their keys
-- KeyNumbers                the key of a held name is that of no other
-- ClashLaws                 names that are held meet where those of two fields do
-- RuledOut                  no promise allows an answer of specs/Wrong
pub mod ClassRules
pub mod Spaces
pub mod Ends
pub mod LentLaws
pub mod RepeatLaws
pub mod PairLaws
pub mod PadLaws
pub mod KeyLaws
pub mod KeyNumbers
pub mod ClashLaws
pub mod RuledOut
