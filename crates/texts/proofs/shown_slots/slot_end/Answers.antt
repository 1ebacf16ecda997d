use native.Mathlib.Omega.{arith}
use Rattle.texts.proofs.SlotLaws.{end_none, end_some}
use Rattle.texts.proofs.shown_slots.slot_end.Goals as goal

pub returns-then-cells-from-clause-end : goal.returns-then-cells-from-clause-end
returns-then-cells-from-clause-end c =
    end_none c.args.cells.now c.args.at _ (omega arith) c.from-len.ensures c.if-cells-from.true

pub returns-clause-end : goal.returns-clause-end
returns-clause-end c = end_some c.args.cells.now c.args.at _ (omega arith) c.from-len.ensures
