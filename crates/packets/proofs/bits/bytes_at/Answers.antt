use mathlib.Core.Path.{◌≡◌, refl}
use Prim.Native.Nat.{◌+◌, ◌-◌, ◌*◌, ◌<◌}
use lib.ListN.{get_or, drop, length-take, length-drop}
use native.Mathlib.Omega.{arith}
use Rattle.std.proofs.lemmas.List.Edits.{get_or-between}
use Rattle.rules.specs.Reading.{bits_at}
use Rattle.packets.proofs.BitLaws.{bits_below, bytes_step}
use Rattle.packets.proofs.bits.bytes_at.Goals as goal

pub loop-b-init : goal.loop-b-init
unfolding bits_at
loop-b-init c = refl

pub overflow_mul-v : goal.overflow_mul-v
overflow_mul-v c =
    let a = c.args in
    let l = c.loop-b in
    let n = length-take (a.first + a.m - a.first) (drop a.first a.packet.now) in
    let below = bits_below a.packet.now (8 * a.first) (8 * l.b-index) 32 (omega arith) in
    omega (arith, l.invariant)

pub overflow_add-v : goal.overflow_add-v
overflow_add-v c =
    let a = c.args in
    let l = c.loop-b in
    let n = length-take (a.first + a.m - a.first) (drop a.first a.packet.now) in
    let byte = get_or-between a.packet.now a.first (a.first + a.m) l.b-index 0 (omega arith) in
    let below = bits_below a.packet.now (8 * a.first) (8 * l.b-index) 32 (omega arith) in
    omega (arith, l.invariant, c.from.ensures, byte, c.type_inv.packet (a.first + l.b-index))

pub loop-b-preserved : goal.loop-b-preserved
loop-b-preserved c =
    let a = c.args in
    let l = c.loop-b in
    let n = length-take (a.first + a.m - a.first) (drop a.first a.packet.now) in
    let byte = get_or-between a.packet.now a.first (a.first + a.m) l.b-index 0 (omega arith) in
    let fits : get_or a.packet.now (a.first + l.b-index) 0 < 256 =
    omega (arith, c.type_inv.packet (a.first + l.b-index)) in
    rw (l.invariant, c.from.ensures, byte, bytes_step a.packet.now a.first l.b-index fits)

pub returns : goal.returns
returns c =
    let a = c.args in
    let l = c.loop-b in
    let n = length-take (a.first + a.m - a.first) (drop a.first a.packet.now) in
    let e : l.b-index ≡ a.m = omega (arith, length-drop a.first a.packet.now) in
    rw e at l.invariant
