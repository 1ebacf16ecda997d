use mathlib.Core.Path.{refl}
use native.Mathlib.Omega.{arith}
use Rattle.packets.proofs.WalkReads.{run_long, walks_read}
use Rattle.packets.proofs.readings.read_run.Goals as goal

pub returns-then-packet-gt-PACKET_MOST : goal.returns-then-packet-gt-PACKET_MOST
returns-then-packet-gt-PACKET_MOST c =
    let a = c.args in
    let if1 = c.if-packet-gt-PACKET_MOST in
    λ d within stored.
    run_long d a.table.now a.packet.now a.run.now _ _ if1.true refl

pub returns : goal.returns
returns c =
    let a = c.args in
    walks_read a.table.now a.packet.now a.run.now (omega arith) (omega arith) c.walk_fields.ensures
