use Rattle.std.proofs.lemmas.Result.{err_from_is_err_and}
use Rattle.packets.proofs.LookupPromises.{readers_told}
use Rattle.packets.proofs.lookups.count_readers.Goals as goal

pub returns-in_err-find_record : goal.returns-in_err-find_record
returns-in_err-find_record c =
    let p = err_from_is_err_and c.from_residual.result c.from_residual.ensures.1 in
    rw (p.1, p.2) (rw c.in_err-find_record.was at (readers_told c.args.table.now c.args.index _ c.find_record.ensures))

pub returns : goal.returns
returns c = rw c.in_ok-find_record.was at (readers_told c.args.table.now c.args.index _ c.find_record.ensures)
