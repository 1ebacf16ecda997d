use native.Mathlib.Omega.{arith}
use Rattle.texts.proofs.SlotLaws.{text_byte, slot_put}
use Rattle.texts.proofs.slots.put_slot.Goals as goal

pub overflow_cast-head-2 : goal.overflow_cast-head-2
overflow_cast-head-2 c =
    let a = c.args in
    let q = text_byte a.row.now a.n a.a a.b (omega arith) (omega arith) (omega arith) (omega arith)
    c.put_text-end.ensures in
    omega (arith, q)

pub returns-clause-writes : goal.returns-clause-writes
returns-clause-writes c =
    let a = c.args in
    slot_put a.row.now a.n a.a a.b a.long (omega arith) c.put_text-end.ensures c.from.ensures c.put.ensures
