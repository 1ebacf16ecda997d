use mathlib.Core.Path.{◌≡◌, refl, ◌∙◌}
use native.Mathlib.Omega.{arith}
use borrow.Author.Tests.{eq-eqb, ne_eqb}
use Prim.Native.Nat.{◌-◌}
use Rattle.packets.specs.Steps.{field_step}
use Rattle.packets.specs.Walks.{walk_all, walk_answer}
use native.Mathlib.Nat.{sub-zero}
use Rattle.packets.proofs.PacketWalk.{length_with, walk_to, walk_stop, walk_end, step_inside}
use Rattle.packets.proofs.walks.walk_fields.Goals as goal

pub loop-i-init : goal.loop-i-init
unfolding walk_all
loop-i-init c =
    (omega arith, refl, rw (← c.two_at-n.ensures.0, ← c.two_at-at.ensures.0, sub-zero))

pub returns-in_default : goal.returns-in_default
unfolding walk_answer
returns-in_default c =
    let a = c.args in
    let l = c.loop-i in
    let h =
    l.invariant.2
    ∙ walk_stop a.table.now a.packet.now l.run c.two_at-n.result l.i l.place l.at
    c.record_at-p.result c.one_field-found.result c.one_field-found.new.run c.loop-i-test.true c.record_at-p.ensures
    c.one_field-found.ensures.0 _
    c.one_field-found.ensures.1 c.in_default.is in
    (rw h (c.refused.ensures ∙ rw c.in_default.is), rw h refl)

pub loop-i-preserved : goal.loop-i-preserved
loop-i-preserved c =
    let a = c.args in
    let l = c.loop-i in
    let one = c.one_field-found in
    let later = c.two_at-n.result - l.i - 1 in
    let st = field_step a.table.now a.packet.now l.run c.record_at-p.result later l.place in
    let h =
    walk_to a.table.now a.packet.now l.run c.two_at-n.result l.i l.place l.at
    c.record_at-p.result one.result one.new.run
    c.loop-i-test.true c.record_at-p.ensures one.ensures.0
    _ _ one.ensures.1 c.in-Ok.is in
    let inside =
    step_inside a.table.now a.packet.now l.run l.i c.record_at-p.result later l.place one.result
    _ _ l.invariant.0 one.ensures.0 c.in-Ok.is in (
      inside,
      rw one.ensures.1 (length_with l.run l.i st) ∙ l.invariant.1,
      l.invariant.2 ∙ h,
    )

pub returns-then-place-total : goal.returns-then-place-total
unfolding walk_answer
returns-then-place-total c =
    let a = c.args in
    let l = c.loop-i in
    let e : l.i ≡ c.two_at-n.result = omega arith in
    let h =
    rw e at l.invariant.2 ∙ walk_end a.table.now a.packet.now l.run c.two_at-n.result l.place l.at in
    (rw (h, eq-eqb _ _ c.if-place-total.true), rw h refl)

pub returns : goal.returns
unfolding walk_answer
returns c =
    let a = c.args in
    let l = c.loop-i in
    let e : l.i ≡ c.two_at-n.result = omega arith in
    let h =
    rw e at l.invariant.2 ∙ walk_end a.table.now a.packet.now l.run c.two_at-n.result l.place l.at in
    (rw (h, ne_eqb _ _ c.if-place-total.false), rw h refl)
