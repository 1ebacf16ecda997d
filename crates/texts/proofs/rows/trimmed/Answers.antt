use Rattle.std.proofs.Common.{ℕ, ◌-◌, not, reverse, unwrap_or, length, take, sym, ap, ◌∙◌, arith, rules}
use Rattle.std.proofs.lemmas.Iterator.Adapters.{YieldsList-from_rev_slice}
use Rattle.std.proofs.lemmas.Iterator.Search.{position_from_yields_List}
use Rattle.std.proofs.lemmas.List.{length-reverse}
use borrow.Author.Tests.{tests}
use Rattle.rules.specs.Names.{is_space}
use Rattle.texts.proofs.FirstPlaces.{place_is, right_place}
use Rattle.texts.proofs.rows.trimmed.Goals as goal

pub returns : goal.returns
returns c =
    let s = c.args.s.now in
    let q = position_from_yields_List (λ b. not (is_space b)) _ _ c.position.result
    c.position.ensures.ran (YieldsList-from_rev_slice s cc) (λ x b q k. search (rules, tests)) in
    let e = c.unwrap_or-spaces.ensures ∙ ap (unwrap_or c.position.result) (sym (length-reverse s))
    ∙ place_is (λ b. not (is_space b)) (reverse s) c.position.result q in (
      omega arith,
      ap (λ (n : ℕ). take (length s - n) s) e ∙ right_place s,
    )
