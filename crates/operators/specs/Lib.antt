-- Rows     an operator's row, by the table of the rules
-- Codes    what the first byte of a stored expression says, by that table
-- Symbols  the operator with whose symbol a text begins, by that table
-- Wrong    answers of wrong programs, of which the promises are false
pub mod Rows
pub mod Codes
pub mod Symbols
pub mod Wrong
