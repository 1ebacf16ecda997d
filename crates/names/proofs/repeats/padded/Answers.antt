use native.Mathlib.Omega.{arith}
use Rattle.names.proofs.PadLaws.{pad_copied}
use Rattle.names.proofs.repeats.padded.Goals as goal

pub returns : goal.returns
returns g c =
    let after = c.copy_from_slice.ensures.after in
    let least = c.min-n.ensures in
    rw after (pad_copied g.row.N c.args.w.now c.min-n.result (omega (arith, least)))
