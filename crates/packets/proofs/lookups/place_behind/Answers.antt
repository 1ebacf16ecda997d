use Rattle.std.proofs.Common.{◌∙◌, rules, tests}
use Rattle.std.proofs.lemmas.Iterator.Consumers.{YieldsList-from_first, fold_from_yields_List}
use Rattle.packets.specs.Lookups.{records_from}
use Rattle.packets.proofs.LookupSteps.{place_is}
use Rattle.packets.proofs.lookups.place_behind.Goals as goal

pub returns : goal.returns
returns c =
    let a = c.args in
    let r = c.of.ensures in
    rw (← c.two_at.ensures.0)
    (fold_from_yields_List _ (λ _ p. p.next) c.two_at.result c.fold.result c.fold.ensures.ran
    (YieldsList-from_first (λ x. x) (λ r. records_from r.table.now r.left r.place) {s = c.of.result}
    (records_from a.table.now a.n c.two_at.result) (rw (r.0, r.1, r.2, ← c.two_at.ensures.0)))
    (λ b x r q k. search (rules, tests))
    ∙ place_is a.table.now a.n c.two_at.result)
