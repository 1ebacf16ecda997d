use mathlib.Core.Path.{◌∙◌}
use borrow.Author.Tests.{ne_eqb}
use Rattle.texts.proofs.RowLeaves.{line_behind}
use Rattle.texts.proofs.RowTests.{row_empty, row_bits, row_long, row_other}
use Rattle.texts.proofs.rows.is_row.Goals as goal

pub is_bits-requires : goal.is_bits-requires
is_bits-requires c = line_behind c.in-Some.ensures.cases.0 c.requires.1

pub is_long-requires : goal.is_long-requires
is_long-requires c = (c.requires.0, line_behind c.in-Some.ensures.cases.0 c.requires.1)

pub returns-in_default : goal.returns-in_default
returns-in_default c = row_empty c.args.w c.args.line.now c.in_default.ensures.cases

pub returns-then-first-eq124 : goal.returns-then-first-eq124
returns-then-first-eq124 c =
    c.is_bits.ensures ∙ row_bits c.args.w c.in-Some.ensures.cases.0 c.if-first-eq124.true

pub returns-then-first-eq58 : goal.returns-then-first-eq58
returns-then-first-eq58 c = c.is_long.ensures ∙ row_long c.args.w c.in-Some.ensures.cases.0 c.if-first-eq58.true

pub returns-else-first-eq58 : goal.returns-else-first-eq58
returns-else-first-eq58 c =
    ne_eqb _ 58 c.if-first-eq58.false
    ∙ row_other c.args.w c.in-Some.ensures.cases.0 c.if-first-eq124.false c.if-first-eq58.false
