use mathlib.Core.Path.{refl}
use Rattle.rules.specs.Trees.{le2}
use Rattle.texts.proofs.StateBytes.{yes_byte}
use Rattle.texts.proofs.state_numbers.number_bytes.Goals as goal

pub returns : goal.returns
unfolding le2
returns c =
    let note = c.note_numbers-number.ensures in
    rw (
      c.two_of-lines.ensures,
      c.two_of-slots.ensures,
      c.two_of-cell.ensures,
      c.two_of-end.ensures,
      c.two_of-place.ensures,
      c.from.ensures,
      c.from-2.ensures,
      yes_byte,
      note.0,
      note.1,
    )
    refl
