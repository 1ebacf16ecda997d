use mathlib.Core.Path.{◌∙◌}
use borrow.Author.Tests.{eq-eqb, ne_eqb}
use Rattle.texts.proofs.CellSteps.{text_start, line_room, text_next, bare_down, bare_along}
use native.Mathlib.Omega.{arith}
use Prim.Native.Nat.{◌-◌}
use Rattle.rules.specs.Rows.{cell_text}
use Rattle.texts.specs.RowPlaces.{cell_at}
use Rattle.texts.proofs.cell_texts.put_text.Goals as goal
use Rattle.texts.proofs.cell_texts.put_text.Goals.{then-down, else-down}

pub loop-j-init : goal.loop-j-init
loop-j-init c = let a = c.args in text_start a.row.now a.a a.b _ a.at

pub add_line-end-requires : goal.add_line-end-requires
add_line-end-requires c =
    let a = c.args in
    line_room a.row.now _ a.a a.b c.loop-j.invariant (omega arith) (omega arith) (omega arith) (omega arith)
    (omega arith)

pub loop-j-preserved : goal.loop-j-preserved
loop-j-preserved c =
    let a = c.args in
    let row = a.row.now in
    let w = c.loop-j.invariant in
    let t = cell_text (cell_at row c.loop-j.j a.a (a.b - a.a)) in
    let e = c.add_line-end.ensures in
    elim c.if-down.branch [
      | then-down v ↦
          let down = eq-eqb _ _ v.if-down.true in text_next row _ a.a a.b w (bare_down t down (v.bare-is ∙ down)) e
      | else-down v ↦ text_next row _ a.a a.b w (bare_along _ t w.end (ne_eqb _ _ v.if-down.false) v.bare-is) e
    ]
