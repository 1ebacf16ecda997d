-- ScanLaws    from one code to the next, and stored trees scanned
-- RenumberLaws  stored expressions with other indexes
-- TallyLaws   what is counted at each index
-- NumberLaws  numbers in two bytes, and numbers put into records
-- Counted     fields counted one by one, and the numbers that are put by the counts
-- RuledOut    no promise allows an answer of specs/Wrong
pub mod ScanLaws
pub mod RenumberLaws
pub mod TallyLaws
pub mod NumberLaws
pub mod Counted
pub mod RuledOut
