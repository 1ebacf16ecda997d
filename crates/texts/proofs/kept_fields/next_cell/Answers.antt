use mathlib.Core.Path.{sym, ◌∙◌}
use native.Mathlib.Omega.{arith}
use Rattle.texts.proofs.SlotPlaces.{none_next, slot_here}
use Rattle.texts.proofs.kept_fields.next_cell.Goals as goal

pub returns-then-r : goal.returns-then-r
returns-then-r c =
    let a = c.args in
    (c.requires.0.cell, (λ f n s. none_next f a.r a.cells.now n s c.if-r.true))

pub slot_end-end-requires : goal.slot_end-end-requires
slot_end-end-requires c = let k = c.requires.0 in omega
    (arith, k.cell, k.slots, k.cells, c.requires.1)

pub returns-then-r-end : goal.returns-then-r-end
returns-then-r-end c =
    let a = c.args in (
      c.requires.0.cell,
      (λ f n s.
          let h = slot_here f a.r a.cells.now n s (omega (arith, c.if-r.false)) in
          let e = c.slot_end-end.ensures.end h.slot h.behind h.stands in
          absurd (omega (arith, e, h.within, c.if-r-end.true))),
    )

pub returns : goal.returns
returns c =
    let a = c.args in (
      omega (arith, c.if-r-end.false),
      (λ f n s.
          let h = slot_here f a.r a.cells.now n s (omega (arith, c.if-r.false)) in
          c.slot_end-end.ensures.end h.slot h.behind h.stands ∙ sym h.next),
    )
