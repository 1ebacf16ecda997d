use mathlib.Core.Path.{refl}
use native.Mathlib.Omega.{arith}
use Rattle.packets.proofs.CutPromises.{judged_cut}
use Rattle.packets.proofs.CutBytes.{cut_bounds, cut_room, cut_ready}
use Rattle.packets.proofs.edits.cut_by.Goals as goal

pub overflow_add-by : goal.overflow_add-by
overflow_add-by c =
    let b = cut_bounds c.args.table.now
    c.args.first c.args.last
    c.requires.0 in
    omega (arith, b)

pub overflow_sub-by : goal.overflow_sub-by
overflow_sub-by c =
    let b = cut_bounds c.args.table.now
    c.args.first c.args.last
    c.requires.0 in
    omega (arith, b)

pub overflow_add-last : goal.overflow_add-last
overflow_add-last c =
    let b = cut_bounds c.args.table.now
    c.args.first c.args.last c.requires.0 in
    omega (arith, b)

pub overflow_sub-n : goal.overflow_sub-n
overflow_sub-n c =
    let b = cut_bounds c.args.table.now c.args.first c.args.last c.requires.0 in
    omega (arith, b, c.two_at-n.ensures.0)

pub put_start-to-requires : goal.put_start-to-requires
put_start-to-requires c =
    let r = cut_room c.args.table.now c.args.first c.args.last c.requires.0 _ _ _
    c.place_behind-start.ensures c.place_behind-next.ensures refl in
    (r.0, omega (arith, r.1, r.2), omega (arith, r, c.requires.1))

pub slice_bounds-put-count : goal.slice_bounds-put-count
slice_bounds-put-count c =
    let r = cut_room c.args.table.now
    c.args.first c.args.last
    c.requires.0 _ _ _ c.place_behind-start.ensures c.place_behind-next.ensures refl in
    omega (arith, r.2)

pub slice_bounds-put-start : goal.slice_bounds-put-start
slice_bounds-put-start c =
    let r = cut_room c.args.table.now
    c.args.first c.args.last
    c.requires.0 _ _ _ c.place_behind-start.ensures c.place_behind-next.ensures refl in
    omega (arith, r.2)

pub overflow_sub-n-2 : goal.overflow_sub-n-2
overflow_sub-n-2 c =
    let b = cut_bounds c.args.table.now c.args.first c.args.last
    c.requires.0 in
    omega (arith, b, c.two_at-n.ensures.0)

pub slice_bounds-deliver_new-end : goal.slice_bounds-deliver_new-end
slice_bounds-deliver_new-end c =
    let ready = cut_ready c.args.table.now
    c.args.first c.args.last
    c.requires.0 _ _ _ _ _ _ _ _ _ _ c.two_at-n.ensures.0
    c.two_at-head.ensures.0
    c.place_behind-start.ensures
    c.place_behind-next.ensures
    c.requires.1 c.put_start-to.ensures
    c.put-size.ensures c.renumber_from.ensures in
    ready.2

pub returns : goal.returns
returns c =
    let ready = cut_ready c.args.table.now c.args.first
    c.args.last c.requires.0 _ _ _ _ _ _ _ _ _ _
    c.two_at-n.ensures.0
    c.two_at-head.ensures.0
    c.place_behind-start.ensures
    c.place_behind-next.ensures
    c.requires.1 c.put_start-to.ensures
    c.put-size.ensures c.renumber_from.ensures in
    judged_cut c.args.table.now c.args.out.now
    c.args.first c.args.last
    c.requires.0 ready.0 _ ready.1 _ c.deliver_new.ensures
