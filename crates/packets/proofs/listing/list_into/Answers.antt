use native.Mathlib.Omega.{arith}
use Rattle.writing.proofs.Writing.{writes_inside}
use Rattle.packets.proofs.LinesWritten.{refusal_inside}
use Rattle.packets.proofs.PacketPromises.{good_from, bad_from, good_few}
use Rattle.packets.proofs.ListingStored.{into_good, into_bad}
use Rattle.packets.proofs.listing.list_into.Goals as goal

pub put_listing-requires : goal.put_listing-requires
put_listing-requires c =
    (omega arith, omega arith, good_few _ (good_from _ _ _ c.check_table.ensures c.in-Ok.is))

pub returns-in-Ok : goal.returns-in-Ok
returns-in-Ok c = into_good _ _ _ _ _ (good_from _ _ _ c.check_table.ensures c.in-Ok.is) c.put_listing.ensures

pub returns-in-Err : goal.returns-in-Err
returns-in-Err c =
    let j = refusal_inside _ _ (omega arith) c.put_refusal.ensures in
    into_bad _ _ _ _ _ _ _ (bad_from _ _ _ c.check_table.ensures c.in-Err.is) c.from.ensures j
    (writes_inside j (omega arith))
