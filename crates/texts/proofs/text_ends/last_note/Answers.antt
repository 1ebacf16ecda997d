use mathlib.Core.Path.{refl, ap, ◌∙◌}
use native.Mathlib.Omega.{arith}
use Prim.Native.Nat.{◌+◌, ◌*◌}
use Rattle.texts.specs.Slots.{are_labels}
use Rattle.texts.proofs.EndSteps.{row_placed, last_early}
use Rattle.texts.specs.Noted.{note_of}
use Rattle.texts.specs.States.{last_note}
use Rattle.texts.proofs.text_ends.last_note.Goals as goal

pub returns-in-InRow : goal.returns-in-InRow
unfolding last_note
returns-in-InRow c = record {
  lowest = rw c.in-InRow.is (ap note_of c.row_note.ensures);
  place = rw c.row_note.ensures (row_placed c.args.r
      (are_labels c.args.row.now c.args.r.row
      (2 * c.args.r.width + 1)));
}

pub returns-in-FieldLine-clause-lowest : goal.returns-in-FieldLine-clause-lowest
unfolding last_note
returns-in-FieldLine-clause-lowest c = rw c.in-FieldLine.is c.fields_note.ensures.lowest

pub returns-in-Lost-clause-lowest : goal.returns-in-Lost-clause-lowest
unfolding last_note
returns-in-Lost-clause-lowest c = rw c.in-Lost.is refl

pub returns-in_default : goal.returns-in_default
returns-in_default c =
    let other = c.in_default in record {
      lowest = ap note_of c.early.ensures ∙ last_early _ _ _ _ other.not-InRow other.not-FieldLine other.not-Lost;
      place = rw c.early.ensures (omega arith);
    }
