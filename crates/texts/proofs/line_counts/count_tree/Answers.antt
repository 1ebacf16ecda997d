use native.Mathlib.Nat.{sub-zero}
use Rattle.texts.proofs.line_counts.count_tree.Goals as goal

pub slice_bounds-tally-end : goal.slice_bounds-tally-end
slice_bounds-tally-end c = c.requires

pub returns : goal.returns
returns c = rw (sub-zero c.args.len) at c.tally.ensures
