-- CodeLaws     from a code to its byte, and back
-- SymbolLaws   operators by the length of their symbols
-- RuledOut     no promise allows an answer of specs/Wrong
pub mod CodeLaws
pub mod SymbolLaws
pub mod RuledOut
