use Rattle.std.proofs.Common.{ℕ, not, drop, ap, ◌∙◌, arith, rules}
use Rattle.std.proofs.lemmas.Iterator.{YieldsList-from_slice}
use Rattle.std.proofs.lemmas.Iterator.Search.{position_from_yields_List}
use borrow.Author.Tests.{tests}
use Rattle.rules.specs.Names.{is_space}
use Rattle.texts.proofs.FirstPlaces.{within, place_is, left_place}
use Rattle.texts.proofs.rows.spaces_end.Goals as goal

pub returns : goal.returns
returns c =
    let s = c.args.s.now in
    let q = position_from_yields_List (λ b. not (is_space b)) _ _ c.position.result
    c.position.ensures.ran (YieldsList-from_slice s cc) (λ x b q k. search (rules, tests)) in
    let e = c.unwrap_or.ensures ∙ place_is (λ b. not (is_space b)) s c.position.result q in (
      omega (arith, e, within (λ b. not (is_space b)) s),
      ap (λ (n : ℕ). drop n s) e ∙ left_place s,
    )
