use mathlib.Core.Path.{sym, ap, ◌∙◌}
use borrow.Author.Tests.{eqb-true, eqb-false}
use mathlib.Core.Bool.{true}
use mathlib.Core.Option.{Option}
use lib.ListN.{length}
use Rattle.rules.specs.Rows.{Row}
use Rattle.texts.specs.RowPlaces.{lines_in}
use Rattle.text_laws.specs.Fold.{lined_at}
use Rattle.texts.specs.declared.states.Stage.TheVariants as at
use Rattle.texts.proofs.StateSteps.{taken_expect, holds_onward, empty_nil, filled_nil, kept_outside}
use Rattle.texts.proofs.head_lines.take_row_or_blank.Goals as goal

pub expect-requires : goal.expect-requires
expect-requires c = c.requires.1

pub returns-then-is_empty : goal.returns-then-is_empty
unfolding lined_at
returns-then-is_empty c =
    let r = c.args.r in
    let l = c.args.line.now in
    let none = empty_nil l (eqb-true _ _ (sym c.is_empty.ensures ∙ c.if-is_empty.true)) in record {
      room = rw c.expect.ensures (taken_expect true r at.WhereLine c.requires.0);
      step = rw c.expect.ensures ((λ cells table f labels names k b o h. rw none
          (holds_onward f r h at.WhereLine)));
      row = rw c.expect.ensures (λ f o v z. rw none
          (kept_outside o (z ∙ sym (ap (λ (p : Option Row). length (lines_in p)) o))));
    }

pub take_row-requires : goal.take_row-requires
take_row-requires c = c.requires

pub returns : goal.returns
unfolding lined_at
returns c =
    let q = c.take_row.ensures in
    let full = filled_nil c.args.line.now
    (eqb-false _ _ (sym c.is_empty.ensures ∙ c.if-is_empty.false)) in record {
      room = q.room;
      step = (λ cells table f labels names k b o h. rw full (q.step cells table f labels names k b o h));
      row = λ f o v z. rw full (q.row f o v z);
    }
