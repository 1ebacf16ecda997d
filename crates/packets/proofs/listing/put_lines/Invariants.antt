use Rattle.writing.specs.Fits.{Fits}
use Rattle.packets.proofs.LinesWritten.{texts}
use Rattle.packets.proofs.listing.put_lines.Given as goal

abbrev pub invariant-loop-i : goal.invariant-loop-i
invariant-loop-i l = Fits l.initial.out 0 (texts l.table l.run l.yielded) l.out l.next
