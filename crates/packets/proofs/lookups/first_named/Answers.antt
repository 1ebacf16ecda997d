use Rattle.std.proofs.Common.{inl, arith, rules, tests}
use Rattle.std.proofs.lemmas.Iterator.Consumers.{YieldsList-from_first}
use Rattle.std.proofs.lemmas.Iterator.Search.{position_from_yields_List}
use Rattle.packets.specs.Lookups.{records_from, has_name}
use Rattle.packets.proofs.LookupSteps.{records_few, found}
use Rattle.packets.proofs.lookups.first_named.Goals as goal

pub position-requires-clause-fits : goal.position-requires-clause-fits
position-requires-clause-fits c =
    let r = c.of.result in
    let few = records_few r.table.now r.left r.place in
    inl (omega (arith, few, c.of.ensures.2, c.two_at.ensures))

pub returns : goal.returns
returns c =
    let a = c.args in
    let r = c.of.ensures in
    rw (c.ok_or.ensures.value, ← c.two_at.ensures.0)
    (found a.table.now a.name.now c.two_at.result _ c.position.result
    (position_from_yields_List (λ p. has_name a.table.now p a.name.now) c.position.new.self _ _ c.position.ensures.ran
    (YieldsList-from_first (λ x. x) (λ r. records_from r.table.now r.left r.place) {s = c.of.result} _
    (rw (r.0, r.1, r.2)))
    (λ x b q k. search (rules, tests))))
