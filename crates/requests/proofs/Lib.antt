-- WordLaws  a byte looked for, and numbers, one digit after the other
-- HexLaws   bytes in hex, one pair of digits after the other
-- RuledOut  the answers of wrong programs (specs/Wrong) are ruled out
pub mod WordLaws
pub mod HexLaws
pub mod RuledOut
