use Rattle.std.proofs.lemmas.Result.{err_from_is_err_and}
use Rattle.packets.proofs.PacketPromises.{good_from, bad_from}
use Rattle.packets.proofs.LookupPromises.{count_bad, count_told}
use Rattle.packets.proofs.lookups.count_fields.Goals as goal

pub returns-in_err-check_table : goal.returns-in_err-check_table
returns-in_err-check_table c =
    let p = err_from_is_err_and c.from_residual.result c.from_residual.ensures.1 in
    rw p.1 (count_bad _ _ (bad_from _ _ _ c.check_table.ensures c.in_err-check_table.was))

pub returns : goal.returns
returns c =
    let g = good_from _ _ _ c.check_table.ensures c.in_ok-check_table.was in
    rw c.two_at.ensures.0 (count_told c.args.table.now g)
