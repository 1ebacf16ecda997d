use Rattle.std.proofs.lemmas.Result.{err_from_is_err_and}
use Rattle.packets.proofs.PacketPromises.{good_from, bad_from}
use Rattle.packets.proofs.LookupPromises.{index_bad, index_found}
use Rattle.packets.proofs.lookups.field_index.Goals as goal

pub returns-in_err-check_table : goal.returns-in_err-check_table
returns-in_err-check_table c =
    let p = err_from_is_err_and c.from_residual.result c.from_residual.ensures.1 in
    rw (p.1, p.2) (index_bad _ _ (bad_from _ _ _ c.check_table.ensures c.in_err-check_table.was))

pub returns : goal.returns
returns c =
    let g = good_from _ _ _ c.check_table.ensures c.in_ok-check_table.was in
    rw c.first_named.ensures (index_found c.args.table.now c.args.name.now g)
