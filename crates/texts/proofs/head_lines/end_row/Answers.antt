use mathlib.Core.Path.{sym, ◌∙◌}
use native.Mathlib.Omega.{arith}
use Rattle.texts.proofs.RowSteps.{ended_over, ended_few}
use borrow.Author.Rules.{rules}
use Rattle.texts.proofs.head_lines.end_row.Goals as goal

pub overflow_sub-most : goal.overflow_sub-most
overflow_sub-most c = let q = c.requires.0.cells in search (rules, q)

pub too_many-requires : goal.too_many-requires
too_many-requires c = c.requires.1

pub returns-then-most-n : goal.returns-then-most-n
returns-then-most-n c =
    c.too_many.ensures ∙ sym (ended_over c.args.r c.args.next c.args.n c.if-most-n.true)

pub overflow_add-r : goal.overflow_add-r
overflow_add-r c = let q = c.requires.0.cells in let k = c.if-most-n.false in omega (arith, q, k)

pub onward-requires : goal.onward-requires
onward-requires c = c.requires.1

pub returns : goal.returns
returns c =
    c.onward.ensures ∙ sym (ended_few c.args.r c.args.next c.args.n c.if-most-n.false)
