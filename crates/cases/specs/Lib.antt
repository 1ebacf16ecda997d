-- Worked           all worked cases hold: a list for each section of 01
-- LinesOfAText     frames, labels and short names
-- Rows             rows of several lines
-- LineLengths      lines of a limited length
-- Expressions      trees: spelling, values, limits
-- Fields           how many fields, their names, widths and rows
-- Names            which names may be read, and which clash
-- Quotients        quotients, remainders and powers, everywhere
-- StoredTable      tables, and what is looked up in them
-- Readers          how often a field is read by others, and old tables
-- Edits            fields that are cut out and put in
-- Spelling         texts that spell a description
-- ReadingAPacket   packets, and what is handed out
-- RefusalNumbers   numbers and places of refusals
-- Listing          listings
-- Promised         right answers, one for each sort of claim
pub mod LinesOfAText
pub mod Rows
pub mod LineLengths
pub mod Expressions
pub mod Fields
pub mod Names
pub mod Quotients
pub mod StoredTable
pub mod Readers
pub mod Edits
pub mod Spelling
pub mod ReadingAPacket
pub mod RefusalNumbers
pub mod Listing
pub mod Promised
pub mod Worked
