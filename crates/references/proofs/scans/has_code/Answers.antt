use Rattle.std.proofs.Common.{◌∙◌, refl, rules, tests}
use Rattle.std.proofs.lemmas.Iterator.Consumers.{YieldsList-from_first}
use Rattle.std.proofs.lemmas.Iterator.Search.{any_from_yields_List}
use Rattle.base.proofs.Library.{any-list_any}
use Rattle.references.specs.Scans.{codes_from, is_wanted, has_code}
use Rattle.references.proofs.scans.has_code.Goals as goal

pub returns : goal.returns
unfolding has_code
returns c =
    let w = c.args.wanted in
    let codes = codes_from 0 c.args.expression.now in
    any_from_yields_List (is_wanted w) c.any.new.self _ c.any.result c.any.ensures.ran
    (YieldsList-from_first (λ x. x.now) (λ s. codes_from 0 s.rest.now) {s = record { rest = c.args.expression }}
    codes refl)
    (λ x b q k. search (rules, tests))
    ∙ any-list_any (is_wanted w) codes
