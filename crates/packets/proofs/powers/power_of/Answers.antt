use mathlib.Core.Path.{◌≡◌}
use Prim.Native.Nat.{◌^◌, ◌<◌, min}
use native.Mathlib.Omega.{arith}
use Rattle.rules.specs.Limits.{number_most}
use Rattle.rules.specs.Values.{products_most, power}
use Rattle.laws.proofs.Powers.{stays_over}
use Rattle.packets.proofs.powers.power_of.Goals as goal

pub returns-after-loop : goal.returns-after-loop
unfolding power
returns-after-loop c =
    let l = c.loop in
    let e : l.counter ≡ min c.args.y products_most = omega (arith, c.min-end.ensures) in
    rw (l.invariant, e)

pub returns-then-v : goal.returns-then-v
unfolding power
returns-then-v c =
    let a = c.args in
    let l = c.loop in
    let over : number_most < a.x ^ l.counter = rw l.invariant at c.if-v.true in
    rw l.invariant (stays_over a.x l.counter (min a.y products_most) (omega (arith, c.min-end.ensures)) over)
