use native.Mathlib.Omega.{arith}
use mathlib.Core.List.{append_assoc}
use Rattle.writing.proofs.FitsLaws.{put_fits, fits_join}
use Rattle.packets.proofs.listing.put_refusal.Goals as goal

pub returns : goal.returns
returns c =
    simp append_assoc (fits_join (put_fits (omega arith) c.put-word.ensures)
    (fits_join (put_fits (omega arith) (rw c.from.ensures at c.put_decimal-first.ensures))
    (fits_join (put_fits (omega arith) c.put-between.ensures)
    (fits_join (put_fits (omega arith) c.put_decimal-second.ensures) (put_fits (omega arith) c.put.ensures)))))
