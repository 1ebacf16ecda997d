-- Where what is kept of a text stands in the bytes that hold it: mirrors the code, no public promise rests on it.
use Rattle.std.specs.Prelude.{List, ℕ, ◌+◌, ◌*◌, take, drop}
use Rattle.rules.specs.Limits.{fields_most, label_most}
use Rattle.texts.specs.HeldNames.{names_room, labels_room}
use Rattle.texts.specs.Slots.{row_most}

-- the most bytes of a stored cell and of a field's record
abbrev pub slot_most : ℕ
slot_most = 43

abbrev pub record_most : ℕ
record_most = 426

-- room for all cells and one row more, and for NAME and all records
abbrev pub slots_most : ℕ
slots_most = slot_most * fields_most + row_most

abbrev pub records_most : ℕ
records_most = label_most + record_most * fields_most

-- cells, then names, then labels, then NAME and records
abbrev pub names_at : ℕ
names_at = slots_most

abbrev pub labels_at : ℕ
labels_at = names_at + names_room

abbrev pub table_at : ℕ
table_at = labels_at + labels_room

abbrev pub held_room : ℕ
held_room = table_at + records_most

abbrev pub cell_bytes : List ℕ → List ℕ
cell_bytes held = take slots_most held

abbrev pub name_bytes : List ℕ → List ℕ
name_bytes held = take names_room (drop names_at held)

abbrev pub label_bytes : List ℕ → List ℕ
label_bytes held = take labels_room (drop labels_at held)

abbrev pub table_bytes : List ℕ → List ℕ
table_bytes held = take records_most (drop table_at held)
