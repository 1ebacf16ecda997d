use Prim.Native.Nat.{◌-◌}
use Rattle.writing.specs.Writes.{Writes}
use Rattle.rules.specs.Rows.{cell_text}
use Rattle.texts.specs.RowPlaces.{cell_at}
use Rattle.texts.proofs.cell_texts.put_text.Given as goal

abbrev pub invariant-loop-j : goal.invariant-loop-j
invariant-loop-j l = Writes l.initial.cells l.at (cell_text (cell_at l.row l.j l.a (l.b - l.a))) l.cells l.end
