use mathlib.Core.Path.{sym, ◌∙◌}
use native.Mathlib.Omega.{arith}
use Rattle.texts.proofs.SlotRows.{end_is, one_put, label_there}
use Rattle.texts.proofs.SlotRows.{putting_start, putting_open, putting_wrong, putting_next}
use Rattle.texts.proofs.SlotRows.{putting_end}
use Rattle.texts.proofs.slots.put_row.Goals as goal

pub loop-from-init : goal.loop-from-init
loop-from-init c =
    let a = c.args in
    (omega arith, omega arith, putting_start _ a.row.now a.at a.n a.size)

pub returns-then-to-size : goal.returns-then-to-size
returns-then-to-size c =
    let a = c.args in
    let to = c.part_end-to.result in
    let e = end_is a.row.now a.size c.loop-from.from to (omega arith)
    c.part_end-to.ensures.first in
    putting_open c.loop-from.invariant.2 (omega arith) to (omega arith) e (omega arith)
    (omega arith) (omega arith)

pub returns-then-not-is_label : goal.returns-then-not-is_label
returns-then-not-is_label c =
    let a = c.args in
    let l = c.loop-from in
    let v = l.invariant.2 in
    let one = one_put a.row.now a.n a.size l.from c.part_end-to.result (omega arith)
    (omega arith) c.part_end-to.ensures.first (omega arith)
    (omega (arith, v.near, v.writes.kept)) c.put_slot-end.ensures.writes in
    let labelled = sym (label_there one) ∙ sym c.is_label.ensures in
    putting_wrong v (omega arith) one (labelled ∙ c.if-not-is_label.true)

pub loop-from-preserved : goal.loop-from-preserved
loop-from-preserved c =
    let a = c.args in
    let l = c.loop-from in
    let v = l.invariant.2 in
    let one = one_put a.row.now a.n a.size l.from c.part_end-to.result (omega arith)
    (omega arith) c.part_end-to.ensures.first (omega arith)
    (omega (arith, v.near, v.writes.kept)) c.put_slot-end.ensures.writes in
    let labelled = sym (label_there one) ∙ sym c.is_label.ensures in (
      omega arith,
      omega arith,
      putting_next v (omega arith) one (labelled ∙ c.if-not-is_label.false) (omega arith),
    )

pub returns : goal.returns
returns c = putting_end c.loop-from.invariant.2 (omega arith) (omega arith)
