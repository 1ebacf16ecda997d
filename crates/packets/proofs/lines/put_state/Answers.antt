use native.Mathlib.Omega.{arith}
use Prim.Native.Nat.{◌*◌}
use lib.ListN.{get_or}
use borrow.Author.Tests.{eq-eqb, ne_eqb}
use Rattle.packets.specs.LineTexts.{state_text}
use Rattle.writing.proofs.FitsLaws.{put_fits}
use Rattle.packets.proofs.lines.put_state.Goals as goal

pub returns-then-run-i-eq1 : goal.returns-then-run-i-eq1
unfolding state_text
returns-then-run-i-eq1 c =
    rw (eq-eqb (get_or c.args.run.now (4 * c.args.i) 0) 1 c.if-run-i-eq1.true)
    c.put_entry.ensures

pub returns : goal.returns
unfolding state_text
returns c =
    rw (ne_eqb (get_or c.args.run.now (4 * c.args.i) 0) 1 c.if-run-i-eq1.false) (put_fits (omega arith) c.put.ensures)
