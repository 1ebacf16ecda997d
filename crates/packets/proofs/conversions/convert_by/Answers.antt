use Rattle.packets.proofs.ConvertPromises.{by_bad, widened_part}
use Rattle.packets.proofs.conversions.convert_by.Goals as goal

pub returns-in_default : goal.returns-in_default
returns-in_default c =
    by_bad c.args.table.now c.args.out.now c.widen.new.out c.widen.ensures c.in_default.is

pub slice_bounds-finish-end : goal.slice_bounds-finish-end
slice_bounds-finish-end c =
    (widened_part c.args.table.now c.widen.new.out _ c.widen.ensures c.in-Some.is).1

pub finish-requires : goal.finish-requires
finish-requires c =
    let p = c.requires in
    let part = widened_part c.args.table.now c.widen.new.out _ c.widen.ensures c.in-Some.is in
    (p.0, p.1, p.2, part.0)

pub returns : goal.returns
returns c =
    c.finish.ensures
