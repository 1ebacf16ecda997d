-- Exports       what an export's reply says
-- WrongReplies  what an export hands out with the answer of a wrong program
pub mod Exports
pub mod WrongReplies
