use native.Mathlib.Omega.{arith}
use mathlib.Core.List.{append_assoc}
use Rattle.writing.proofs.FitsLaws.{put_fits, fits_join}
use Rattle.packets.proofs.listing.put_bits.Goals as goal

pub returns : goal.returns
returns c =
    rw append_assoc (fits_join (put_fits (omega arith) c.put-word.ensures)
    (fits_join (put_fits (omega arith) c.put_decimal-number.ensures) (put_fits (omega arith) c.put.ensures)))
