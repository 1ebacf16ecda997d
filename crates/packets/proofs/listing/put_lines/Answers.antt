use Rattle.std.proofs.Common.{◌≡◌, ◌+◌, ◌<◌, ◌∙◌, inl, length, arith, ap}
use Rattle.std.proofs.lemmas.Iterator.Consumers.{YieldsList-from_first, YieldsList-from_enumerate}
use Rattle.std.proofs.lemmas.Iterator.Consumers.{YieldsList-turn, YieldsList-end}
use Rattle.std.proofs.lemmas.List.{map-id}
use Rattle.std.proofs.lemmas.List.FromFn.{length-enumerate_from, get_or-enumerate_from}
use Rattle.laws.specs.Places.{two_at}
use Rattle.packets.specs.Lookups.{records_from}
use Rattle.packets.proofs.LookupSteps.{records_few}
use Rattle.packets.proofs.LinesWritten.{texts_more, texts_are}
use Rattle.writing.proofs.FitsLaws.{fits_none, fits_join}
use Rattle.packets.proofs.listing.put_lines.Goals as goal

pub loop-i-init : goal.loop-i-init
loop-i-init c = fits_none c.args.out.now 0

pub loop-i-init-derived : goal.loop-i-init-derived
loop-i-init-derived c =
    let r = c.of.result in
    let few = records_few r.table.now r.left r.place in
    let e = c.enumerate-i-items.ensures in (
      (
        tt,
        tt,
        inl (rw (c.into_iter-i-iterator.ensures.into_iter_gives, e.count, e.source)
            (omega (arith, few, c.of.ensures.2, c.two_at.ensures))),
      ),
      tt,
    )

pub put_line-next-requires : goal.put_line-next-requires
put_line-next-requires c =
    let s = c.args.table.now in
    let r = c.of.ensures in
    let all = records_from s (two_at s 6) (two_at s 0) in
    let it = c.into_iter-i-iterator.ensures.into_iter_gives in
    let e = c.enumerate-i-items.ensures in
    let t = YieldsList-turn (YieldsList-from_enumerate
    (YieldsList-from_first (λ x. x) (λ r. records_from r.table.now r.left r.place)
    {s = c.into_iter-i-iterator.result.iter} all (rw (it, e.source, r.0, r.1, r.2, c.two_at.ensures.0)))
    (rw it e.count)) c.loop-i.yielded c.loop-i.i-iterator
    c.loop-i.yielded_by _ c.next.new.self _ c.in-Some.is c.next.ensures.steps in
    let k = length c.loop-i.yielded in
    let lt : k < length all = rw (length-enumerate_from 0 all) at t.0 in
    let i : c.in-Some.i ≡ 0 + k = ap (λ x. x.0) (t.1 ∙ get_or-enumerate_from 0 all k _ lt) in
    let few = records_few s (two_at s 6) (two_at s 0) in
    (omega arith, omega (arith, few, lt, i))

pub loop-i-preserved : goal.loop-i-preserved
loop-i-preserved c =
    rw (texts_more c.args.table.now c.args.run.now c.loop-i.yielded (c.in-Some.i, c.in-Some.parts))
    (fits_join c.loop-i.invariant c.put_line-next.ensures)

pub returns : goal.returns
returns c =
    let s = c.args.table.now in
    let run = c.args.run.now in
    let r = c.of.ensures in
    let all = records_from s (two_at s 6) (two_at s 0) in
    let it = c.into_iter-i-iterator.ensures.into_iter_gives in
    let e = c.enumerate-i-items.ensures in
    let t = YieldsList-end (YieldsList-from_enumerate
    (YieldsList-from_first (λ x. x) (λ r. records_from r.table.now r.left r.place)
    {s = c.into_iter-i-iterator.result.iter} all (rw (it, e.source, r.0, r.1, r.2, c.two_at.ensures.0)))
    (rw it e.count)) c.loop-i.yielded c.loop-i.i-iterator
    c.loop-i.yielded_by _ c.next.new.self c.in-None.is c.next.ensures.steps in
    rw (← texts_are s run 0 (two_at s 6) (two_at s 0), ← t.0, map-id) c.loop-i.invariant
