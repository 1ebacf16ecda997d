use native.Mathlib.Omega.{arith}
use Rattle.texts.proofs.line_counts.count_line.Goals as goal

pub count_tree-requires : goal.count_tree-requires
count_tree-requires c = rw (c.form_length.ensures, c.tree.ensures) (omega (arith, c.requires.0))

pub count_tree-requires-2 : goal.count_tree-requires-2
count_tree-requires-2 c = rw c.form_length-2.ensures (omega (arith, c.requires.1))

pub count_tree-requires-3 : goal.count_tree-requires-3
count_tree-requires-3 c = rw c.form_length-3.ensures (omega (arith, c.requires.2))

pub returns : goal.returns
returns c = rw (
  ← c.tree.ensures,
  ← c.form_length.ensures,
  ← c.form_length-2.ensures,
  ← c.form_length-3.ensures,
  ← c.count_tree.ensures,
  ← c.count_tree-2.ensures,
) c.count_tree-3.ensures
