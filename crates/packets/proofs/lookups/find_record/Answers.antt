use native.Mathlib.Omega.{arith}
use Rattle.std.proofs.lemmas.Result.{err_from_is_err_and}
use Prim.Native.Nat.{◌<◌}
use Rattle.laws.specs.Places.{two_at}
use Rattle.packets.proofs.PacketPromises.{good_from, bad_from}
use Rattle.packets.proofs.LookupPromises.{placed}
use Rattle.packets.proofs.lookups.find_record.Goals as goal

pub returns-in_err-check_table : goal.returns-in_err-check_table
returns-in_err-check_table c =
    let p = err_from_is_err_and c.from_residual.result c.from_residual.ensures.1 in
    rw (p.1, p.2) (bad_from _ _ _ c.check_table.ensures c.in_err-check_table.was)

pub returns-then-two_at-index : goal.returns-then-two_at-index
returns-then-two_at-index c =
    (good_from _ _ _ c.check_table.ensures c.in_ok-check_table.was, omega (arith, c.two_at.ensures.0))

pub returns-then-place-gt-TABLE_MOST : goal.returns-then-place-gt-TABLE_MOST
returns-then-place-gt-TABLE_MOST c =
    let s = c.args.table.now in
    let g = good_from _ _ _ c.check_table.ensures c.in_ok-check_table.was in
    let lt : c.args.index < two_at s 6 = omega (arith, c.two_at.ensures.0) in
    let low = rw (← c.place_behind-place.ensures) at (placed s c.args.index g lt).is_low in
    absurd (omega (arith, low))

pub returns : goal.returns
returns c =
    let s = c.args.table.now in
    let g = good_from _ _ _ c.check_table.ensures c.in_ok-check_table.was in
    let lt : c.args.index < two_at s 6 = omega (arith, c.two_at.ensures.0) in
    (g, lt, rw (← c.place_behind-place.ensures) c.parts_at.ensures)
