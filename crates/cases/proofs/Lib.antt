-- SameTree, CaseTests, ClaimTests  a case, and a claim of the promises, holds where its test passes
-- WorkedTexts                      the worked cases of texts hold
-- Worked                           M1 to M10 and the worked cases hold
pub mod SameTree
pub mod CaseTests
pub mod ClaimTests
pub mod WorkedTexts
pub mod Worked
