use Rattle.texts.proofs.PartSlots.{part_not, part_yes}
use Rattle.texts.proofs.part_slots.part_shows.Goals as goal

pub returns-then-is_name_in : goal.returns-then-is_name_in
returns-then-is_name_in c =
    part_yes c.args.cells.now c.args.line.now c.args.at c.slot_end-end.result c.args.p c.slot_end-end.ensures.end
    c.is_name_in.result c.is_place_in.result c.is_name_in.ensures c.if-is_name_in.true
    (rw c.from.ensures at c.is_place_in.ensures)

pub returns-else-is_name_in : goal.returns-else-is_name_in
returns-else-is_name_in c =
    rw c.if-is_name_in.false (part_not c.args.cells.now c.args.line.now c.args.at c.slot_end-end.result c.args.p
    c.slot_end-end.ensures.end
    c.is_name_in.result c.is_name_in.ensures c.if-is_name_in.false)
