use Rattle.std.proofs.Common.{◌+◌, ◌-◌, ℕ, not, length, take, drop, ap, ◌∙◌, rules}
use Rattle.std.proofs.lemmas.Iterator.{YieldsList-from_slice}
use Rattle.std.proofs.lemmas.Iterator.Search.{position_from_yields_List}
use borrow.Author.Tests.{tests}
use Rattle.rules.specs.Names.{is_printable}
use Rattle.texts.proofs.FirstPlaces.{place_from, printable_place}
use Rattle.texts.proofs.text_bytes.byte_end.Goals as goal

pub returns-clause-first : goal.returns-clause-first
returns-clause-first c =
    let a = c.args in
    let s = a.text.now in
    let q = position_from_yields_List (λ b. not (is_printable b)) _ _ c.position.result c.position.ensures.ran
    (YieldsList-from_slice (take (length s - a.at) (drop a.at s)) cc) (λ x b q k. search (rules, tests)) in
    ap (λ (n : ℕ). a.at + n)
    (c.unwrap_or.ensures ∙ place_from (λ b. not (is_printable b)) s a.at c.position.result q
    ∙ printable_place (drop a.at s))
