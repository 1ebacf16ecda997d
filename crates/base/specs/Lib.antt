-- Bytes   quoted text as bytes, and numbers in decimal
-- Lists   tests over lists, equal lists, a list from a rule, the first place
pub mod Bytes
pub mod Lists
