use native.Mathlib.Omega.{arith}
use Rattle.texts.proofs.KeptStates.{stored_states}
use Rattle.texts.proofs.pieces.store.Goals as goal

pub returns : goal.returns
returns c =
    let counts = c.save_counts in
    let both =
    stored_states c.args.s.now c.save.new.s c.put.new.out counts.new.s
    c.args.row.now c.args.counts.now c.requires.0 (omega arith) c.save.ensures c.put.ensures
    counts.auto.s c.clear_parts.ensures counts.ensures.twos in record {
      around = both.0;
      stored = both.1;
    }
