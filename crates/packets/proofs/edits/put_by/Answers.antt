use native.Mathlib.Omega.{arith}
use Rattle.packets.proofs.PutPromises.{judged_put}
use Rattle.packets.proofs.PutBytes.{put_bounds, place_room, put_ready}
use Rattle.packets.proofs.edits.put_by.Goals as goal

pub overflow_add-n : goal.overflow_add-n
overflow_add-n c =
    let b = put_bounds c.args.table.now c.args.index c.args.k c.args.records.now c.requires.0 in
    omega (arith, b, c.two_at-n.ensures.0)

pub put_start-to-requires : goal.put_start-to-requires
put_start-to-requires c =
    let r = place_room c.args.table.now c.args.index c.args.k c.args.records.now c.requires.0
    _ c.place_behind-place.ensures in
    (r.0, r.1, omega (arith, r, c.requires.1))

pub slice_bounds-put-count : goal.slice_bounds-put-count
slice_bounds-put-count c =
    let r = place_room c.args.table.now c.args.index c.args.k c.args.records.now
    c.requires.0 _ c.place_behind-place.ensures in
    omega (arith, r.1)

pub slice_bounds-put-start : goal.slice_bounds-put-start
slice_bounds-put-start c =
    let r = place_room c.args.table.now c.args.index c.args.k c.args.records.now
    c.requires.0 _ c.place_behind-place.ensures in
    omega (arith, r.1)

pub overflow_sub-n : goal.overflow_sub-n
overflow_sub-n c =
    let b = put_bounds c.args.table.now c.args.index c.args.k
    c.args.records.now c.requires.0 in
    omega (arith, b, c.two_at-n.ensures.0)

pub slice_bounds-deliver_new-end : goal.slice_bounds-deliver_new-end
slice_bounds-deliver_new-end c =
    let ready = put_ready c.args.table.now
    c.args.index c.args.k
    c.args.records.now c.requires.0 _ _ _ _ _
    _ _ _ _ _ _ _ c.two_at-n.ensures.0
    c.two_at-head.ensures.0
    c.place_behind-place.ensures c.requires.1
    c.put_start-to.ensures c.put-next.ensures c.put-size.ensures c.renumber_from.ensures c.renumber_from-2.ensures in
    ready.1

pub returns : goal.returns
returns c =
    let ready = put_ready c.args.table.now c.args.index c.args.k c.args.records.now c.requires.0 _
    _ _ _ _ _ _ _ _ _ _ _ c.two_at-n.ensures.0
    c.two_at-head.ensures.0
    c.place_behind-place.ensures c.requires.1
    c.put_start-to.ensures c.put-next.ensures
    c.put-size.ensures c.renumber_from.ensures
    c.renumber_from-2.ensures in
    judged_put c.args.table.now c.args.records.now c.args.out.now c.args.index
    c.args.k
    c.requires.0 _ ready.0
    _ c.deliver_new.ensures
