use mathlib.Core.Path.{refl}
use Rattle.packets.proofs.EditWrites.{judged_not, judged_room, judged_full}
use Rattle.packets.proofs.edits.deliver_new.Goals as goal

pub returns-then-not-number_table : goal.returns-then-not-number_table
returns-then-not-number_table c =
    judged_not c.args.new.now _
    c.args.out.now
    c.number_table.result c.number_table.ensures
    (c.if-not-number_table.true)

pub returns-then-deliver : goal.returns-then-deliver
returns-then-deliver c =
    judged_room c.args.new.now _
    c.args.out.now c.number_table.result
    c.number_table.ensures
    (c.if-not-number_table.false)
    c.deliver.result _ c.deliver.ensures c.if-deliver.true _ refl

pub returns : goal.returns
returns c =
    judged_full c.args.new.now _
    c.args.out.now c.number_table.result
    c.number_table.ensures
    (c.if-not-number_table.false)
    c.deliver.result _ c.deliver.ensures c.if-deliver.false
