-- PutLaws    what is put where there is room, and where there is none
-- FitsLaws   texts written one behind the other
-- DigitLaws  a number's digits, from the last to the first
-- RuledOut   no promise allows an answer of specs/Wrong
-- Writing      bytes written one behind the other
pub mod PutLaws
pub mod FitsLaws
pub mod DigitLaws
pub mod RuledOut
pub mod Writing
