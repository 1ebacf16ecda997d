use native.Mathlib.Omega.{arith}
use Rattle.writing.proofs.Writing.{writes_inside}
use Rattle.writing.proofs.FitsLaws.{fits_join}
use Rattle.packets.proofs.LinesWritten.{listing_inside, refusal_inside}
use Rattle.packets.proofs.ListingStored.{listed_accepted, listed_refused}
use Rattle.packets.proofs.listing.put_listing.Goals as goal

pub put_bits-requires : goal.put_bits-requires
put_bits-requires c = omega (arith, c.put_lines-lines.ensures.kept)

pub returns-in-Ok : goal.returns-in-Ok
returns-in-Ok c =
    let j = listing_inside _ _ _ _ _ (omega arith) (omega arith)
    (fits_join c.put_lines-lines.ensures c.put_bits.ensures) in
    record {
      text = λ d w is. rw (← listed_accepted _ _ d w is _ _ (c.read_run.ensures d w is) _ c.in-Ok.is) j;
      inside = writes_inside j (omega arith);
    }

pub returns-in-Err : goal.returns-in-Err
returns-in-Err c =
    let j = refusal_inside _ _ (omega arith) c.put_refusal.ensures in
    record {
      text = λ d w is. rw (← listed_refused _ _ d w is _ _ (c.read_run.ensures d w is) _ _ c.in-Err.is
          c.from.ensures) j;
      inside = writes_inside j (omega arith);
    }
