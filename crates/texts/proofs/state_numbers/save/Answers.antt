use native.Mathlib.Omega.{arith}
use Rattle.texts.proofs.StateBytes.{put_saved}
use Rattle.texts.proofs.state_numbers.save.Goals as goal

pub returns : goal.returns
returns c =
    let behind = c.saturating_add.ensures in
    let least = c.min.ensures in
    put_saved c.args.r c.min.result (omega (arith, behind, least)) c.requires
    c.number_bytes-bytes.ensures c.put.ensures
