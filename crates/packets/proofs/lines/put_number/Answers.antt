use native.Mathlib.Omega.{arith}
use Rattle.writing.proofs.FitsLaws.{put_fits, fits_join}
use Rattle.packets.proofs.lines.put_number.Goals as goal

pub returns : goal.returns
returns c =
    fits_join (put_fits (omega arith) c.put-next.ensures) (put_fits
    (omega arith) c.put_decimal.ensures)
