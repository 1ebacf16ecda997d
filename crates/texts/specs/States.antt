-- What the code keeps of a text between two lines: mirrors the code, no public promise rests on it.
use Rattle.std.specs.Prelude.{◌≡◌, Bool, true, false, cond, ◌||◌, List, [], ◌∷◌, ◌++◌, ℕ, suc, ◌+◌, ◌-◌}
use Rattle.std.specs.Prelude.{Option as Held, Some, None, ◌*◌, ◌≤◌, ltb, leb, length, take, drop, get_or}
use Rattle.std.proofs.Math.Option.{Option, none, some}
use Rattle.std.proofs.Math.ListN.{get_elem?}
use Rattle.base.specs.Lists.{all, any, joined, is_empty}
use Rattle.writing.specs.Writes.{Writes}
use Rattle.rules.specs.Answers.{Answer, of_text, TextAnswer}
use Rattle.rules.specs.Limits.{text_most, fields_most, label_most, row_lines_most}
use Rattle.rules.specs.Fields.{Field, Form, is_rest, trees}
use Rattle.rules.specs.Trees.{le2, is_small}
use Rattle.rules.specs.Stored.{counted, record_of, field_body, stored_field}
use Rattle.rules.specs.Promises.{leaves}
use Rattle.names.specs.Repeats.{pad_to}
use Rattle.references.specs.Numbers.{numbered}
use Rattle.references.specs.Counted.{Counted}
use Rattle.rules.specs.Rows.{Row}
use Rattle.rules.specs.Frames.{Slot}
use Rattle.rules.specs.Within.{keeps_names, keeps_types, keeps_rest, name_readable}
use Rattle.text_laws.specs.Lowest.{lower, broken}
use Rattle.text_laws.specs.Judging.{faces, shows_cell, is_full}
use Rattle.text_laws.specs.Fold as fold
use Rattle.text_laws.specs.Steady.{StandIn, is_head, Steady}
use Rattle.text_laws.specs.LineReader.{read_form}
use Rattle.texts.specs.HeldNames.{Names, names_in, labels_in, NamesRoom, HeldAs}
use Rattle.texts.specs.HeldParts.{LineBytes, PartsHeld}
use Rattle.texts.specs.HeldRecords.{field_size, Writable}
use Rattle.texts.specs.Noted.{place_of, note_of}
use Rattle.texts.specs.RowPlaces.{lines_in, RowKept}
use Rattle.texts.specs.Slots.{stored_slot, are_labels}
use Rattle.texts.specs.HeldAreas.{slot_most, record_most, cell_bytes, name_bytes, label_bytes, table_bytes}
use Rattle.texts.specs.Changes.{changed, with_line}
use Rattle.texts.specs.declared.notes.Note.{Note}
use Rattle.texts.specs.declared.notes.Note.TheVariants.{BadLine, TooMany, Mismatch}
use Rattle.texts.specs.declared.line_parts.Parts.{Parts}
use Rattle.texts.specs.declared.states.Stage.{Stage}
use Rattle.texts.specs.declared.states.Stage.TheVariants as at
use Rattle.texts.specs.declared.states.Reading.{Reading}

-- ── safe ──

-- the numbers are such that one more line can be taken
pub record Room (r : Reading) : Type 0 where
  pub width : r.width ≤ 32
  pub name : r.name ≤ label_most
  pub row : r.row ≤ row_lines_most
  pub front : r.name ≤ r.end
  pub cells : r.cells ≤ fields_most
  pub slots : r.slots ≤ slot_most * r.cells
  pub cell : r.cell ≤ r.slots
  pub count : r.count ≤ fields_most
  pub fields : r.fields ≤ r.count
  pub end : r.end ≤ label_most + record_most * r.fields
  pub placed : place_of r.note ≤ r.lines + 1

-- the same behind a line that was taken
abbrev pub Taken : Reading → Reading → Type 0
Taken r q = Room q × (q.lines ≤ r.lines + 1)

-- ── what stands for what the fold keeps ──

abbrev pub stage_of : Stage → fold.Stage
stage_of at.Opening = fold.opening
stage_of at.Blank = fold.blank
stage_of at.TensRuler = fold.tens_ruler
stage_of at.UnitsRuler = fold.units_ruler
stage_of at.TopBorder = fold.top_border
stage_of at.FirstRow = fold.first_row
stage_of at.InRow = fold.in_row
stage_of at.RowOrBlank = fold.row_or_blank
stage_of at.WhereLine = fold.where_line
stage_of at.LastBlank = fold.last_blank
stage_of at.FirstField = fold.first_field
stage_of at.FieldLine = fold.field_line
stage_of at.Lost = fold.lost

-- the numbers of r are those of f
pub record Counts (f : fold.Found) (r : Reading) : Type 0 where
  pub lines : r.lines ≡ f.lines
  pub stage : stage_of r.stage ≡ f.stage
  pub width : r.width ≡ f.width
  pub name : r.name ≡ length f.name
  pub row : r.row ≡ length (lines_in f.row)
  pub cells : r.cells ≡ length f.cells
  pub count : r.count ≡ f.judged.count
  pub fields : r.fields ≡ length f.judged.fields
  pub rested : r.rested ≡ any is_rest (faces f.judged.fields)
  pub lowest : note_of r.note ≡ f.judged.lowest

-- cells, and where that of the next field stands
pub record Slots (f : fold.Found) (r : Reading) (cells : List ℕ) : Type 0 where
  pub stored : take r.slots cells ≡ joined stored_slot f.cells
  pub end : r.slots ≡ length (joined stored_slot f.cells)
  pub next : r.cell ≡ length (joined stored_slot (take (length f.judged.fields) f.cells))

-- NAME and records, and how often each field is read
pub record Area : Type 0 where
  pub bytes : List ℕ
  pub counts : List ℕ

abbrev pub area : List ℕ → List ℕ → Area
area bytes counts = record { bytes = bytes; counts = counts }

-- a record with the number 0
abbrev pub plain_field : Field ℕ → List ℕ
plain_field f = stored_field 0 f

-- its length fits into two bytes
abbrev pub is_short_record : Field ℕ → Bool
is_short_record f = ltb (6 + length (field_body f)) 65536

-- by the counts the records of fields can be numbered
pub record Numbers (fields : List (Field ℕ)) (counts : List ℕ) : Type 0 where
  pub short : all is_short_record fields ≡ true
  pub counted : Counted fields counts
  pub room : fields_most ≤ length counts

-- NAME, and records of fields that may stand in for those of the fold
pub record Records (f : fold.Found) (r : Reading) (table : Area) : Type 0 where
  pub fields : List (Field ℕ)
  pub stands : StandIn f.judged fields
  pub stored : take r.end table.bytes ≡ f.name ++ joined plain_field fields
  pub end : r.end ≡ length (f.name ++ joined plain_field fields)
  pub numbers : Numbers fields table.counts

-- the names of fields, by value
pub record Named (forms : List Form) (labels : List (List ℕ)) (names : Names) : Type 0 where
  pub label : (i : ℕ) (y : Form) → get_elem? forms i ≡ some y → get_or labels i [] ≡ pad_to label_most y.label
  pub name : (i : ℕ) (y : Form) → get_elem? forms i ≡ some y → HeldAs names i y
  pub room : (fields_most ≤ length labels) × NamesRoom fields_most names

pub record Holds (f : fold.Found) (r : Reading) (cells : List ℕ) (table : Area) (labels : List (List ℕ))
    (names : Names) : Type 0 where
  pub counts : Counts f r
  pub slots : Slots f r cells
  pub records : Records f r table
  pub named : Named (faces f.judged.fields) labels names

-- in the bytes that hold all of it but the counts
abbrev pub HoldsIn : fold.Found → Reading → List ℕ → List ℕ → Type 0
HoldsIn f r held counts =
    Holds f r (cell_bytes held) (area (table_bytes held) counts) (labels_in (label_bytes held))
    (names_in (name_bytes held))

-- one line of the head outside of rows, with the buffers of cells and of records before and behind it
abbrev pub HeadStep : (fold.Found → fold.Found) → Reading → Reading → List ℕ → List ℕ → Area → Area → Type 0
HeadStep step r q cells cells' table table' =
    (f : fold.Found) (labels : List (List ℕ)) (names : Names) → Steady f → is_head f.stage ≡ true → f.row ≡ none
    → Holds f r cells table labels names → Holds (step f) q cells' table' labels names

-- the row that is kept behind it
abbrev pub HeadRow : (fold.Found → fold.Found) → Reading → Reading → List ℕ → Type 0
HeadRow step r q row = (f : fold.Found) → f.row ≡ none → r.width ≡ f.width → r.row ≡ 0
    → RowKept (step f).row q.width q.row row

-- a line in a row, with the row's lines before and behind it
abbrev pub RowStep : List ℕ → Reading → Reading → List ℕ → List ℕ → List ℕ → List ℕ → Type 0
RowStep line r q cells cells' row row' =
    (f : fold.Found) (x : Row) (table : Area) (labels : List (List ℕ)) (names : Names) → Steady f
    → is_head f.stage ≡ true → f.row ≡ some x → RowKept (some x) r.width r.row row
    → Holds f r cells table labels names
    → Holds (fold.with_more f line (some x)) q cells' table labels names
    × RowKept (fold.with_more f line (some x)).row q.width q.row row'

-- ── a field line ──

abbrev pub is_many_as : Held Note → Bool
is_many_as (Some TooMany) = true
is_many_as a = false

-- nothing but a 3 could matter now, or a field line too many has come
abbrev pub is_full_as : Reading → Bool
is_full_as r = is_many_as r.note || leb fields_most r.count

-- behind a field line, of which no field is kept
abbrev pub line_refused : Reading → Held Note → Reading
line_refused r a = changed (with_line r r.cell (r.count + 1) r.fields r.end r.rested) (r.lines + 1)
    at.FieldLine a

-- a field is kept, whose record ends at a place and whose cell ends at one
abbrev pub line_kept : Reading → ℕ → ℕ → Bool → Held Note → Reading
line_kept r cell end rested a = changed (with_line r cell (r.count + 1) (r.fields + 1) end rested) (r.lines + 1)
    at.FieldLine a

-- the rules 7 to 10
abbrev pub later_rules : List Slot → List (List Form → Form → Bool)
later_rules cells = shows_cell cells ∷ keeps_names ∷ keeps_types name_readable ∷ keeps_rest ∷ []

-- the first of them that a line of the form x breaks
abbrev pub later_note : fold.Found → Form → Option Answer
later_note f x = broken 7 (suc f.lines) (later_rules f.cells) (faces f.judged.fields) x

-- the names of x too are held behind those of the fields
abbrev pub NamedWith : fold.Found → Form → List (List ℕ) → Names → Type 0
NamedWith f x labels names = Named (faces f.judged.fields ++ (x ∷ [])) labels names

-- the place of the cell behind that of the next field
abbrev pub NextCell : Reading → List ℕ → ℕ → Type 0
NextCell r cells n =
    (n ≤ r.slots)
    × ((f : fold.Found) → Counts f r → Slots f r cells
    → n ≡ length (joined stored_slot (take (suc (length f.judged.fields)) f.cells)))

-- there is room for a field line
abbrev pub LineRoom : Reading → List ℕ → Type 0
LineRoom r line = Room r × (r.lines ≤ text_most) × (length line ≤ text_most)

-- parts that can be written behind the records
abbrev pub PartsRoom : List ℕ → Parts → Type 0
PartsRoom line p = Writable (length line) p × (field_size p ≤ record_most)

-- behind a field line
abbrev pub FieldStep : List ℕ → Reading → Reading → List ℕ → List ℕ → List ℕ → List ℕ → Type 0
FieldStep line r q held held' counts counts' =
    (f : fold.Found) → Steady f → HoldsIn f r held counts → HoldsIn (fold.brief_field f line) q held' counts'

-- the same for a line of small expressions with the parts p, whose own names are held, where not too many lines have
-- come
abbrev pub FormStep : List ℕ → LineBytes → Parts → Reading → Reading → List ℕ → List ℕ → List ℕ → List ℕ → Type 0
FormStep line b p r q held held' counts counts' =
    (f : fold.Found) (x : Form) → Steady f → is_full f.judged ≡ false → HoldsIn f r held counts
    → read_form line ≡ some x → all is_small (trees x) ≡ true
    → PartsHeld (names_in (name_bytes held)) r.fields line x b p
    → HoldsIn (fold.brief_field f line) q held' counts'

-- a line that is too long
abbrev pub CutStep : Reading → Reading → List ℕ → Type 0
CutStep r q row = (f : fold.Found) (held counts : List ℕ) → Steady f → RowKept f.row r.width r.row row
    → HoldsIn f r held counts
    → HoldsIn (fold.cut f) q held counts × RowKept (fold.cut f).row q.width q.row row

-- ── the end ──

abbrev pub early_note : Reading → Held Note
early_note r = Some (BadLine (r.lines + 1))

-- in a row: at its last line where a cell is no label
abbrev pub row_note : Reading → List ℕ → Held Note
row_note r row = cond (are_labels row r.row (2 * r.width + 1)) (early_note r) (Some (BadLine r.lines))

-- 7 where cells remain
abbrev pub remain_note : Reading → Held Note
remain_note r = cond (ltb r.fields r.cells) (Some (Mismatch (r.lines + 1))) None

-- the lowest refusal at the end, by the line that must come next
unfoldable pub last_note : Stage → Reading → Bool → List ℕ → Option Answer
last_note at.Opening r whole row = note_of (early_note r)
last_note at.Blank r whole row = note_of (early_note r)
last_note at.TensRuler r whole row = note_of (early_note r)
last_note at.UnitsRuler r whole row = note_of (early_note r)
last_note at.TopBorder r whole row = note_of (early_note r)
last_note at.FirstRow r whole row = note_of (early_note r)
last_note at.InRow r whole row = note_of (row_note r row)
last_note at.RowOrBlank r whole row = note_of (early_note r)
last_note at.WhereLine r whole row = note_of (early_note r)
last_note at.LastBlank r whole row = note_of (early_note r)
last_note at.FirstField r whole row = note_of (early_note r)
last_note at.FieldLine r whole row = cond whole (lower (note_of r.note) (note_of (remain_note r)))
    (note_of (early_note r))
last_note at.Lost r whole row = note_of r.note

-- the table that is put into an output
abbrev pub TableStep : Reading → Area → List ℕ → List ℕ → ℕ → Type 0
TableStep r table out out' n =
    Writes out 0 (record_of 1 (le2 r.width ++ (le2 r.fields ++ counted (take r.name table.bytes)))
    ++ (numbered r.fields table.counts (take (r.end - r.name) (drop r.name table.bytes))
    ++ record_of 5 [])) out' n

-- the answer at the end
abbrev pub EndStep : Reading → Bool → List ℕ → Area → List ℕ → List ℕ → TextAnswer → Type 0
EndStep r whole row table out out' a =
    (k : fold.Kept) (cells : List ℕ) (labels : List (List ℕ)) (names : Names) → is_empty k.line ≡ whole
    → Steady k.found → RowKept k.found.row r.width r.row row
    → Holds k.found r cells table labels names → leaves (of_text a) out' ≡ fold.finish k out

-- behind a line
abbrev pub LineStep : List ℕ → Reading → Reading → List ℕ → List ℕ → List ℕ → List ℕ → List ℕ → List ℕ → Type 0
LineStep line r q held held' row row' counts counts' =
    (f : fold.Found) → Steady f → RowKept f.row r.width r.row row
    → HoldsIn f r held counts
    → HoldsIn (fold.lined f line) q held' counts' × RowKept (fold.lined f line).row q.width q.row row'

-- the counts for all fields, where there is none yet
abbrev pub NoneCounted : List ℕ → Type 0
NoneCounted counts = Numbers [] counts
