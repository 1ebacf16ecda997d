use native.Mathlib.Omega.{arith}
use Rattle.packets.proofs.BitLaws.{bits_taken}
use Rattle.packets.proofs.bits.bits_at.Goals as goal

pub returns : goal.returns
returns c =
    let a = c.args in
    let bytes_at = c.bytes_at-v in
    bits_taken a.packet.now a.place a.n bytes_at.result (omega arith) bytes_at.ensures
