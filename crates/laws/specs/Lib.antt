-- Wrong  answers of wrong programs, of which the promises are false
-- WrongLimits  of those that are wrong about the limits
-- WrongNames  of those that are wrong about names
-- WrongOperators  of those that are wrong about quotients, remainders and powers
-- WrongNumbers  of those that are wrong about how often a field is read, and about old tables
-- WrongRecords  of those that are wrong about some records: their kinds, their lengths, what is read in many fields
-- WrongEdits  of those that are wrong about fields that are cut out
-- WrongPuts  of those that are wrong about fields that are put in
-- WrongRefusals  of those that are wrong about what is refused, by its number and place
-- Places  where bytes stand in a list: a helper of code and proofs; no public promise rests on it
-- Records  records one behind the other, by their lengths: a helper too
pub mod Wrong
pub mod WrongLimits
pub mod WrongNames
pub mod WrongOperators
pub mod WrongNumbers
pub mod WrongRecords
pub mod WrongEdits
pub mod WrongPuts
pub mod WrongRefusals
pub mod Places
pub mod Records
