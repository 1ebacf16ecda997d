-- BarLaws   bars at the same columns, as the code compares them
-- RuledOut  no promise allows an answer of specs/Wrong
pub mod BarLaws
pub mod RuledOut
