use Rattle.packets.proofs.EditWrites.{start_put}
use Rattle.packets.proofs.edits.put_start.Goals as goal

pub returns : goal.returns
returns c =
    start_put c.args.out.now c.args.table.now c.args.end c.args.count c.requires.0
    c.requires.1 c.requires.2
    c.put-row.ensures c.put_two-name.ensures c.put.ensures
