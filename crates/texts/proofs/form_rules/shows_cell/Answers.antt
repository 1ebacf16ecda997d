use mathlib.Core.Path.{◌∙◌}
use native.Mathlib.Omega.{arith}
use borrow.Author.Tests.{le-ltb}
use Rattle.texts.proofs.SlotPlaces.{none_shown, slot_here, here_label, here_shown}
use Rattle.texts.proofs.form_rules.shows_cell.Goals as goal

pub part_shows-requires : goal.part_shows-requires
part_shows-requires c =
    let k = c.requires.0 in (
      omega (arith, k.cell, k.slots, k.cells, c.requires.2),
      c.requires.1,
    )

pub returns-then-r : goal.returns-then-r
returns-then-r c =
    let a = c.args in
    λ f x names v k n s p.
    let h = slot_here f a.r a.cells.now n s (omega (arith, c.if-r.true)) in
    c.part_shows.ensures h.slot h.behind names a.r.fields x v h.stands
    (here_label f a.r a.cells.now n s k h) p
    ∙ here_shown f a.r a.cells.now n s h x

pub returns-else-r : goal.returns-else-r
returns-else-r c =
    let a = c.args in
    λ f x names v k n s p.
    rw (le-ltb a.r.fields a.r.cells (omega (arith, c.if-r.false)))
    (none_shown f a.r a.cells.now n s (omega (arith, c.if-r.false)) x)
