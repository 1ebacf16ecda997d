use native.Mathlib.Omega.{arith}
use borrow.Author.Tests.{le-ltb, lt-ltb}
use Rattle.rules.specs.Limits.{label_most}
use Rattle.packets.specs.LineTexts.{line_text}
use Rattle.packets.proofs.LookupSteps.{outside_span, inside_span}
use Rattle.writing.proofs.FitsLaws.{fits_none, put_fits, fits_join}
use Rattle.packets.proofs.lines.put_line.Goals as goal

pub returns-then-parts-gt-LABEL_MOST : goal.returns-then-parts-gt-LABEL_MOST
unfolding line_text
returns-then-parts-gt-LABEL_MOST c =
    rw (lt-ltb label_most _ c.if-parts-gt-LABEL_MOST.true) (fits_none c.args.out.now c.args.at)

pub returns-in_default : goal.returns-in_default
unfolding line_text
returns-in_default c =
    rw (
      le-ltb label_most _ c.if-parts-gt-LABEL_MOST.false,
      outside_span c.args.table.now c.args.parts.label c.in_default.ensures,
    )
    (fits_none c.args.out.now c.args.at)

pub returns : goal.returns
unfolding line_text
returns c =
    let label = c.in-Some.ensures in
    rw (
      le-ltb label_most _ c.if-parts-gt-LABEL_MOST.false,
      inside_span c.args.table.now c.args.parts.label label.0,
    )
    (fits_join (put_fits (omega arith) (rw label.1 at c.put-named.ensures))
    (fits_join (put_fits (omega arith) c.put-colon.ensures)
    (fits_join c.put_state-state.ensures (put_fits (omega arith) c.put.ensures))))
