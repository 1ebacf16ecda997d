-- Scans    stored expressions, scanned from one code to the next
-- Renumbered  stored expressions with other indexes
-- Tallies  indexes counted
-- Numbers  numbers put into records
-- Counted  how often each field is read, counted: no public promise rests on it
-- Wrong    answers of wrong programs, of which the promises are false
pub mod Scans
pub mod Renumbered
pub mod Tallies
pub mod Numbers
pub mod Counted
pub mod Wrong
