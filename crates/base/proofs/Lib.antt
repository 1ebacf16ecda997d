-- Lists    laws of tests over lists and of equal lists
-- Decimal  numbers in decimal
-- Breaks   what follows where no element breaks a rule
-- Tables   a rule proved at every number below a bound by one test
-- Lookups  tests and first breaks over joined and related lists
-- Scans    tests over a list, one index after the other
-- Joined   parts one after the other
-- Also     facts one behind the other
-- Library  the library's words for tests, equal lists and ends
pub mod Lists
pub mod Decimal
pub mod Breaks
pub mod Tables
pub mod Lookups
pub mod Scans
pub mod Joined
pub mod Also
pub mod Library
