use Rattle.std.proofs.Common.{inl, arith, rules, tests}
use Rattle.std.proofs.lemmas.Iterator.Consumers.{YieldsList-from_first, YieldsList-from_enumerate}
use Rattle.std.proofs.lemmas.Iterator.Search.{position_from_yields_List}
use Rattle.packets.specs.Lookups.{records_from}
use Rattle.packets.specs.Expressions.{has_it}
use Rattle.packets.proofs.LookupSteps.{records_few}
use Rattle.packets.proofs.HavingLaws.{first_is}
use Rattle.packets.proofs.expressions.first_having.Goals as goal

pub position-requires-clause-can : goal.position-requires-clause-can
position-requires-clause-can c =
    let r = c.of.result in
    let few = records_few r.table.now r.left r.place in (
      tt,
      tt,
      inl (rw (c.enumerate.ensures.count, c.enumerate.ensures.source)
          (omega (arith, few, c.of.ensures.2, c.two_at-n.ensures))),
    )

pub position-requires-clause-fits : goal.position-requires-clause-fits
position-requires-clause-fits c =
    let r = c.of.result in
    let few = records_few r.table.now r.left r.place in
    inl (rw c.enumerate.ensures.source (omega (arith, few, c.of.ensures.2, c.two_at-n.ensures)))

pub returns : goal.returns
returns c =
    let a = c.args in
    let r = c.of.ensures in
    first_is a.wanted a.table.now c.position.result
    (rw (← c.two_at-n.ensures.0) (
    position_from_yields_List (λ e. has_it a.wanted a.table.now e.1 e.0) c.position.new.self _ c.position.result
    c.position.ensures.ran
    (YieldsList-from_enumerate
    (YieldsList-from_first (λ x. x) (λ r. records_from r.table.now r.left r.place) {s = c.enumerate.result.iter} _
    (rw (c.enumerate.ensures.source, r.0, r.1, r.2)))
    c.enumerate.ensures.count)
    (λ x b q k. search (rules, tests))))
