use mathlib.Core.Path.{sym}
use native.Mathlib.Omega.{arith}
use Rattle.packets.proofs.PacketPromises.{good_unless, bad_from, good_few}
use Rattle.packets.proofs.PartlyPromises.{
  partly_not_good,
  partly_too_long,
  partly_short_run,
  partly_most,
  partly_read,
}
use Rattle.packets.proofs.readings.read_partly.Goals as goal

pub returns-in-Err : goal.returns-in-Err
returns-in-Err c =
    rw c.into.ensures (partly_not_good _ _ _ (bad_from _ _ _ c.check_table.ensures c.in-Err.is))

pub returns-then-packet-gt-PACKET_MOST : goal.returns-then-packet-gt-PACKET_MOST
returns-then-packet-gt-PACKET_MOST c =
    let table = c.args.table.now in
    let packet = c.args.packet.now in
    let good = good_unless table _ c.check_table.ensures c.in_default.not-Err in
    partly_too_long table packet c.args.run.now good c.if-packet-gt-PACKET_MOST.true

pub returns-then-run-n : goal.returns-then-run-n
returns-then-run-n c =
    let table = c.args.table.now in
    let packet = c.args.packet.now in
    let good = good_unless table _ c.check_table.ensures c.in_default.not-Err in
    partly_short_run table packet c.args.run.now good (omega arith) (omega (
      arith,
      c.two_at-n.ensures.0,
    ))

pub walk_fields-answer-requires : goal.walk_fields-answer-requires
walk_fields-answer-requires c =
    let table = c.args.table.now in
    let packet = c.args.packet.now in
    let good = good_unless table _ c.check_table.ensures c.in_default.not-Err in
    let few = good_few table good in
    (omega (arith, few), omega arith, few)

pub slice_bounds-copy_numbers-end : goal.slice_bounds-copy_numbers-end
slice_bounds-copy_numbers-end c = sym c.walk_fields-answer.auto.run

pub overflow_mul-count : goal.overflow_mul-count
overflow_mul-count c =
    let table = c.args.table.now in
    let packet = c.args.packet.now in
    let good = good_unless table _ c.check_table.ensures c.in_default.not-Err in
    let is = rw c.two_at-n.ensures.0 at c.count_of-count.ensures in
    let most = partly_most table packet c.args.run.now _ c.walk_fields-answer.result c.walk_fields-answer.new.run _ good
    (omega arith) (omega (arith, good_few table good)) c.walk_fields-answer.ensures is in
    record { fits = omega (arith, most, c.two_at-n.ensures) }

pub copy_numbers-requires : goal.copy_numbers-requires
copy_numbers-requires c =
    let table = c.args.table.now in
    let packet = c.args.packet.now in
    let good = good_unless table _ c.check_table.ensures c.in_default.not-Err in
    let is = rw c.two_at-n.ensures.0 at c.count_of-count.ensures in
    let most = partly_most table packet c.args.run.now _ c.walk_fields-answer.result c.walk_fields-answer.new.run _ good
    (omega arith) (omega (arith, good_few table good)) c.walk_fields-answer.ensures is in
    let few = good_few table good in (
      omega (arith, most, c.two_at-n.ensures.0),
      omega
          (arith, most, few, c.walk_fields-answer.auto.run),
    )

pub returns : goal.returns
returns c =
    let table = c.args.table.now in
    let packet = c.args.packet.now in
    let good = good_unless table _ c.check_table.ensures c.in_default.not-Err in
    let is = rw c.two_at-n.ensures.0 at c.count_of-count.ensures in
    rw c.copy_numbers.ensures
    (partly_read table packet c.args.run.now _ c.walk_fields-answer.result c.walk_fields-answer.new.run _ good
    (omega arith) (omega (arith, good_few table good)) c.walk_fields-answer.ensures is
    (omega (arith, c.two_at-n.ensures.0)))
