-- Puts      a text put at a place of a buffer
-- Fits      what is left where texts are written one behind the other; no public promise rests on it
-- Delivery  a text delivered at the start of an output
-- Wrong     answers of wrong programs, of which the promises are false
-- Writes    what writing into a buffer with room leaves in it: a helper of code and proofs
pub mod Puts
pub mod Fits
pub mod Delivery
pub mod Wrong
pub mod Writes
