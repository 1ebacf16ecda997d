use Rattle.std.proofs.Common.{rules}
use Rattle.packets.specs.Found.{filled_span}
use Rattle.packets.proofs.LookupPromises.{span_told, short_on}
use Rattle.packets.proofs.lookups.find_short.Goals as goal

pub returns : goal.returns
returns c =
    rw (span_told (λ p. filled_span p.short) c.find_record.result c.map_or.result (search rules))
    (short_on c.args.table.now c.args.index c.find_record.result c.find_record.ensures)
