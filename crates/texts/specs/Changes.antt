-- What a line changes in the numbers that the code keeps: mirrors the code, no public promise rests on it.
use Rattle.std.specs.Prelude.{Option, Some, None, Bool, true, false, cond, ℕ, ◌+◌, ◌-◌, ltb}
use Rattle.rules.specs.Limits.{fields_most}
use Rattle.texts.specs.declared.notes.Note.{Note}
use Rattle.texts.specs.declared.notes.Note.TheVariants.{BadLine, TooMany}
use Rattle.texts.specs.declared.states.Stage.{Stage}
use Rattle.texts.specs.declared.states.Stage.TheVariants as at
use Rattle.texts.specs.declared.states.Reading.{Reading}

-- a field line must come next
abbrev pub awaits_field : Stage → Bool
awaits_field at.Opening = false
awaits_field at.Blank = false
awaits_field at.TensRuler = false
awaits_field at.UnitsRuler = false
awaits_field at.TopBorder = false
awaits_field at.FirstRow = false
awaits_field at.InRow = false
awaits_field at.RowOrBlank = false
awaits_field at.WhereLine = false
awaits_field at.LastBlank = false
awaits_field at.FirstField = true
awaits_field at.FieldLine = true
awaits_field at.Lost = false

abbrev pub begun_with : Reading
begun_with = record {
  lines = 0;
  stage = at.Opening;
  width = 0;
  name = 0;
  row = 0;
  cells = 0;
  slots = 0;
  cell = 0;
  count = 0;
  fields = 0;
  end = 0;
  rested = false;
  note = None;
}

-- with other lines, another line that must come, another refusal
abbrev pub changed : Reading → ℕ → Stage → Option Note → Reading
changed r lines s n = record {
  lines = lines;
  stage = s;
  width = r.width;
  name = r.name;
  row = r.row;
  cells = r.cells;
  slots = r.slots;
  cell = r.cell;
  count = r.count;
  fields = r.fields;
  end = r.end;
  rested = r.rested;
  note = n;
}

-- with other numbers of the head
abbrev pub with_head : Reading → ℕ → ℕ → ℕ → ℕ → ℕ → Reading
with_head r width name end cells slots = record {
  lines = r.lines;
  stage = r.stage;
  width = width;
  name = name;
  row = r.row;
  cells = cells;
  slots = slots;
  cell = r.cell;
  count = r.count;
  fields = r.fields;
  end = end;
  rested = r.rested;
  note = r.note;
}

-- with other numbers of field lines
abbrev pub with_line : Reading → ℕ → ℕ → ℕ → ℕ → Bool → Reading
with_line r cell count fields end rested = record {
  lines = r.lines;
  stage = r.stage;
  width = r.width;
  name = r.name;
  row = r.row;
  cells = r.cells;
  slots = r.slots;
  cell = cell;
  count = count;
  fields = fields;
  end = end;
  rested = rested;
  note = r.note;
}

-- with another number of lines of a row
abbrev pub with_lines : Reading → ℕ → Reading
with_lines r n = record {
  lines = r.lines;
  stage = r.stage;
  width = r.width;
  name = r.name;
  row = n;
  cells = r.cells;
  slots = r.slots;
  cell = r.cell;
  count = r.count;
  fields = r.fields;
  end = r.end;
  rested = r.rested;
  note = r.note;
}

-- behind a wrong line
abbrev pub made_wrong : Reading → Reading
made_wrong r = changed r r.lines at.Lost (Some (BadLine (r.lines + 1)))

-- behind a row with a cell whose text is no label
abbrev pub made_wrong_row : Reading → Reading
made_wrong_row r = changed r r.lines at.Lost (Some (BadLine r.lines))

-- behind the border of a row with so many cells, which are kept up to a place: 4 where they are too many
abbrev pub row_ended : Reading → ℕ → ℕ → Reading
row_ended r next n =
    cond (ltb (fields_most - r.cells) n)
    (changed (with_lines r 0) (r.lines + 1) at.RowOrBlank (Some TooMany))
    (changed (with_head (with_lines r 0) r.width r.name r.end (r.cells + n) next) (r.lines + 1) at.RowOrBlank
    r.note)

-- behind a line that is right or wrong
abbrev pub expected : Bool → Reading → Stage → Reading
expected right r s = cond right (changed r (r.lines + 1) s r.note) (made_wrong r)
