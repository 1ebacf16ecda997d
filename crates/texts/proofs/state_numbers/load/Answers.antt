use mathlib.Core.Path.{refl}
use Rattle.texts.proofs.StateBytes.{least_of, note_least, numbers_loaded}
use Rattle.texts.proofs.state_numbers.load.Goals as goal

pub returns : goal.returns
returns c =
    numbers_loaded
    _
    _
    c.min-end.result
    (least_of _ c.two_at.ensures.0 c.min-lines.ensures)
    c.from-5.ensures
    (least_of _ c.from-6.ensures c.min.ensures)
    (least_of _ c.from.ensures c.min-name.ensures)
    (least_of _ c.from-7.ensures c.min-2.ensures)
    (least_of _ c.from-2.ensures c.min-cells.ensures)
    (least_of _ c.from-3.ensures c.min-count.ensures)
    (least_of _ c.from-4.ensures c.min-fields.ensures)
    refl
    (least_of _ c.two_at-2.ensures.0 c.min-slots.ensures)
    (least_of _ c.two_at-4.ensures.0 c.min-3.ensures)
    (least_of _ c.two_at-3.ensures.0 c.min-end.ensures)
    c.max.ensures
    (note_least _ _ c.two_at-5.ensures.0 c.min-4.ensures c.load_note.ensures)
