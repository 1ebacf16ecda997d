use Rattle.writing.proofs.FitsLaws.{fits_join}
use mathlib.Core.List.{append-nil}
use Rattle.packets.proofs.lines.put_entry.Goals as goal

pub returns-then-fixed : goal.returns-then-fixed
returns-then-fixed c =
    rw c.if-fixed.true
    (fits_join c.put_number-offset.ensures (fits_join c.put_number-width.ensures c.put_number.ensures))

pub returns : goal.returns
returns c =
    rw c.if-fixed.false (fits_join c.put_number-offset.ensures (rw append-nil c.put_number-width.ensures))
