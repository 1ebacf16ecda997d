use Rattle.std.proofs.Common.{◌+◌, ◌-◌, ℕ, eqb, length, take, drop, ap, ◌∙◌, rules}
use Rattle.std.proofs.lemmas.Iterator.{YieldsList-from_slice}
use Rattle.std.proofs.lemmas.Iterator.Search.{position_from_yields_List}
use borrow.Author.Tests.{tests}
use Rattle.texts.proofs.FirstPlaces.{place_from, up_to_place}
use Rattle.texts.proofs.text_bytes.part_end.Goals as goal

pub returns-clause-first : goal.returns-clause-first
returns-clause-first c =
    let a = c.args in
    let s = a.s.now in
    let q = position_from_yields_List (λ b. eqb b a.e) _ _ c.position.result c.position.ensures.ran
    (YieldsList-from_slice (take (length s - a.at) (drop a.at s)) cc) (λ x b q k. search (rules, tests)) in
    ap (λ (n : ℕ). a.at + n)
    (c.unwrap_or.ensures ∙ place_from (λ b. eqb b a.e) s a.at c.position.result q ∙ up_to_place a.e (drop a.at s))
