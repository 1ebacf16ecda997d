use native.Mathlib.Omega.{arith}
use lib.ListN.{length}
use Rattle.rules.specs.Trees.{le2}
use Rattle.writing.proofs.PutLaws.{put_join, counted_length}
use Rattle.writing.proofs.puts.put_counted.Goals as goal

pub returns : goal.returns
returns c =
    let w = c.args.word.now in
    put_join c.args.out.now c.args.at (le2 (length w)) w (omega (arith, counted_length w)) c.put_two-next.ensures
    c.put.ensures
