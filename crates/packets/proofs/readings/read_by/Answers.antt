use mathlib.Core.Path.{refl}
use native.Mathlib.Omega.{arith}
use Rattle.std.specs.Prelude.{Ok}
use Rattle.std.proofs.lemmas.Result.{err_from_is_err_and}
use Rattle.packets.proofs.WalkReads.{walks_read}
use Rattle.packets.proofs.PacketPromises.{packet_accepted, packet_refused}
use Rattle.packets.proofs.readings.read_by.Goals as goal

pub returns-in_err-total : goal.returns-in_err-total
returns-in_err-total c =
    let a = c.args in
    let p = c.requires in
    let w = c.walk_fields in
    let reads = walks_read a.table.now a.packet.now _ p.1 p.2 w.ensures in
    let e = err_from_is_err_and c.from_residual.result c.from_residual.ensures.1 in λ good.
    rw (e.1, e.2) (packet_refused a.table.now a.packet.now a.run.now _ w.new.run good p.2 p.0
    (rw c.in_err-total.was at reads) refl)

pub copy_numbers-requires : goal.copy_numbers-requires
copy_numbers-requires c =
    let p = c.requires in
    let n = c.two_at.ensures.0 in
    (omega (arith, n, p.0), omega (arith, n, p.1, c.walk_fields.auto.run))

pub returns : goal.returns
returns c =
    let a = c.args in
    let p = c.requires in
    let w = c.walk_fields in
    let reads = walks_read a.table.now a.packet.now _ p.1 p.2 w.ensures in λ good.
    rw (c.copy_numbers.ensures, c.two_at.ensures.0)
    (packet_accepted a.table.now a.packet.now a.run.now (Ok c.in_ok-total.total) w.new.run good p.2 p.0
    (rw c.in_ok-total.was at reads) refl)
