use native.Mathlib.Omega.{arith}
use Rattle.std.proofs.lemmas.Result.{err_from_is_err_and}
use Rattle.packets.proofs.PacketPromises.{
  good_from,
  bad_from,
  good_few,
  packet_not_good,
  packet_too_long,
  packet_short_run,
}
use Rattle.packets.proofs.readings.read_packet.Goals as goal

pub returns-in_err-check_table : goal.returns-in_err-check_table
returns-in_err-check_table c =
    let p = err_from_is_err_and c.from_residual.result c.from_residual.ensures.1 in
    rw (p.1, p.2) (packet_not_good _ _ _ (bad_from _ _ _ c.check_table.ensures c.in_err-check_table.was))

pub returns-then-packet-gt-PACKET_MOST : goal.returns-then-packet-gt-PACKET_MOST
returns-then-packet-gt-PACKET_MOST c =
    let a = c.args in
    let good = good_from a.table.now _ _ c.check_table.ensures c.in_ok-check_table.was in
    packet_too_long a.table.now a.packet.now a.run.now good c.if-packet-gt-PACKET_MOST.true

pub returns-then-run-n : goal.returns-then-run-n
returns-then-run-n c =
    let a = c.args in
    let good = good_from a.table.now _ _ c.check_table.ensures c.in_ok-check_table.was in
    packet_short_run a.table.now a.packet.now a.run.now good (omega (
      arith,
      c.if-packet-gt-PACKET_MOST.false,
    ))
    (omega (arith, c.two_at-n.ensures.0, c.if-run-n.true))

pub read_by-requires : goal.read_by-requires
read_by-requires c =
    let a = c.args in
    let good = good_from a.table.now _ _ c.check_table.ensures c.in_ok-check_table.was in
    let few = good_few a.table.now good in
    let n = c.two_at-n.ensures.0 in (
      omega (arith, n, c.if-run-n.false),
      omega (arith, n, few, c.if-n-le-FEW_NUMBERS.true),
      omega (arith, c.if-packet-gt-PACKET_MOST.false),
      few,
    )

pub returns-then-n-le-FEW_NUMBERS : goal.returns-then-n-le-FEW_NUMBERS
returns-then-n-le-FEW_NUMBERS c =
    let a = c.args in
    let good = good_from a.table.now _ _ c.check_table.ensures c.in_ok-check_table.was in
    c.read_by.ensures good

pub read_by-requires-2 : goal.read_by-requires-2
read_by-requires-2 c =
    let a = c.args in
    let good = good_from a.table.now _ _ c.check_table.ensures c.in_ok-check_table.was in
    let few = good_few a.table.now good in
    let n = c.two_at-n.ensures.0 in (
      omega (arith, n, c.if-run-n.false),
      omega (arith, n, few),
      omega (
        arith,
        c.if-packet-gt-PACKET_MOST.false,
      ),
      few,
    )

pub returns : goal.returns
returns c =
    let a = c.args in
    let good = good_from a.table.now _ _ c.check_table.ensures c.in_ok-check_table.was in
    c.read_by-2.ensures good
