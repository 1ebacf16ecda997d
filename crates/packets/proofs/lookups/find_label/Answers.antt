use Rattle.std.proofs.Common.{rules}
use Rattle.packets.proofs.LookupPromises.{span_told, label_on}
use Rattle.packets.proofs.lookups.find_label.Goals as goal

pub returns : goal.returns
returns c =
    rw (span_told (λ p. p.label) c.find_record.result c.map_or.result (search rules))
    (label_on c.args.table.now c.args.index c.find_record.result c.find_record.ensures)
