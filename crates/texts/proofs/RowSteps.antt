-- What the code keeps behind a row.
use Rattle.std.specs.Prelude.{Some}
use Rattle.texts.specs.declared.notes.Note.TheVariants.{TooMany}
use mathlib.Core.Path.{◌≡◌, refl, ap, sym, ◌∙◌, subst}
use mathlib.Core.Bool.{Bool, true, false}
use mathlib.Core.List.{List, [], ◌∷◌, ◌++◌}
use mathlib.Core.Option.{none-ne-some}
use Prim.Native.Nat.{ℕ, ◌+◌, ◌*◌, ◌-◌, ◌≤◌, ◌<◌}
use native.Mathlib.Omega.{arith}
use lib.Dec.{ltb, leb}
use lib.ListN.{length, take, drop, get_or, length-append}
use borrow.Author.Tests.{leb-true, lt-ltb, le-ltb, ltb-false}
use Rattle.base.specs.Lists.{all, is_empty, joined}
use Rattle.writing.specs.Writes.{Writes}
use Rattle.base.proofs.Joined.{joined_append}
use Rattle.base.proofs.Lists.{and_left, and_right}
use Rattle.rules.specs.Limits.{fields_most, label_most, row_lines_most}
use Rattle.rules.specs.Answers.{refused}
use Rattle.rules.specs.Names.{is_label}
use Rattle.rules.specs.Fields.{Field}
use Rattle.rules.specs.Rows.{Row, row_lines}
use Rattle.rules.specs.Frames.{Slot, slots_in}
use Rattle.text_laws.specs.FrameReader.{rest}
use Rattle.text_laws.specs.Fold as fold
use Rattle.texts.specs.HeldNames.{Names}
use Rattle.texts.specs.RowPlaces.{slots_at}
use Rattle.texts.specs.Slots.{stored_slot, RowedBy, are_labels, RowedAs}
use Rattle.std.specs.Prelude.{Option, None, Some, is_some}
use Rattle.texts.specs.Changes.{changed, with_head, with_lines, row_ended}
use Rattle.texts.specs.HeldAreas.{slot_most}
use Rattle.texts.specs.States.{Room, Area, Holds}
use Rattle.texts.specs.declared.states.Stage.TheVariants as at
use Rattle.texts.specs.declared.states.Reading.{Reading}
use Rattle.texts.proofs.SlotLaws.{slot_length}
use Rattle.texts.proofs.SlotRows.{writes_keep}
use Rattle.texts.proofs.HeadSteps.{room_row}
use Rattle.texts.proofs.StateSteps.{room_changed, records_kept, next_line}

-- ── how long stored cells are ──

pub label_most_lem : (w : List ℕ) → is_label w ≡ true → length w ≤ label_most
unfolding is_label
label_most_lem w h = leb-true (length w) label_most (and_left (leb (length w) label_most) _ h)

pub slots_length : (cs : List Slot) → all (λ c. is_label c.text) cs ≡ true
    → length (joined stored_slot cs) ≤ slot_most * length cs
unfolding joined all
slots_length [] h = omega arith
slots_length (c ∷ cs) h =
    let e = length-append (stored_slot c) (joined stored_slot cs) in
    let k = slot_length c in
    let m = label_most_lem c.text (and_left (is_label c.text) _ h) in
    let n = slots_length cs (and_right (is_label c.text) _ h) in
    omega (arith, e, k, m, n)

-- ── the code's answer ──

module _ (row : List ℕ) (n size : ℕ) (before after : List ℕ) (at : ℕ) (q : Option (ℕ × ℕ))
    (h : RowedAs row n size before at after q) where
  -- something is answered where all cells are labels
  pub row_told : is_some q ≡ are_labels row n size
  row_told = go (are_labels row n size) h
    where
      go : (b : Bool) → RowedBy b before at (slots_at row n size 1) after q → is_some q ≡ b
      go true p = ap is_some p.answer
      go false p = ap is_some p.0

  -- a cell that is no label
  pub row_wrong : q ≡ None → (are_labels row n size ≡ false) × (take at after ≡ take at before)
  row_wrong e = go (are_labels row n size) refl h
    where
      go : (b : Bool) → are_labels row n size ≡ b → RowedBy b before at (slots_at row n size 1) after q
          → (b ≡ false) × (take at after ≡ take at before)
      go true k p = let a = p.answer in cc
      go false k p = (refl, p.1)

  pub record RowPut (next count : ℕ) : Type 0 where
    pub labels : are_labels row n size ≡ true
    pub is_count : count ≡ length (slots_at row n size 1)
    pub writes : Writes before at (joined stored_slot (slots_at row n size 1)) after next

  pub row_put : (next count : ℕ) → q ≡ Some (next, count) → RowPut next count
  row_put next count e = go (are_labels row n size) refl h
    where
      go : (b : Bool) → are_labels row n size ≡ b → RowedBy b before at (slots_at row n size 1) after q
          → RowPut next count
      go false k p = let a = p.0 in cc
      go true k p =
          let i : (p.next, length (slots_at row n size 1)) ≡ (next, count) = let a = p.answer in cc in
          record {
            labels = k;
            is_count = sym (ap (λ (k : ℕ × ℕ). k.1) i);
            writes = subst (λ (m : ℕ). Writes before at (joined stored_slot (slots_at row n size 1)) after m)
                (ap (λ (k : ℕ × ℕ). k.0) i) p.writes;
          }

pub labels_all : (row : List ℕ) (n size : ℕ) → are_labels row n size ≡ true
    → all (λ c. is_label c.text) (slots_at row n size 1) ≡ true
labels_all row n size h = and_right (is_empty (rest (get_or row 0 0) (drop 1 (take size row)))) _ h

-- ── what is held ──

-- nothing that is held stands behind the kept cells
pub holds_front : (f : fold.Found) (r : Reading) {cells after : List ℕ} {table : Area} {labels : List (List ℕ)}
    {names : Names} → take r.slots after ≡ take r.slots cells → Holds f r cells table labels names
    → Holds f r after table labels names
holds_front f r e h = record {
  counts = h.counts;
  slots = record { stored = e ∙ h.slots.stored; end = h.slots.end; next = h.slots.next };
  records = h.records;
  named = h.named;
}

-- a line of a row that is kept
pub holds_line : (f : fold.Found) (r : Reading) {cells : List ℕ} {table : Area} {labels : List (List ℕ)}
    {names : Names} → Holds f r cells table labels names → (x : Row) (n : ℕ) → n ≡ length (row_lines x)
    → Holds (fold.with_line f x) (changed (with_lines r n) (r.lines + 1) at.InRow r.note) cells table labels names
holds_line f r h x n e = record {
  counts = record {
    lines = next_line f r h;
    stage = refl;
    width = h.counts.width;
    name = h.counts.name;
    row = e;
    cells = h.counts.cells;
    count = h.counts.count;
    fields = h.counts.fields;
    rested = h.counts.rested;
    lowest = h.counts.lowest;
  };
  slots = record { stored = h.slots.stored; end = h.slots.end; next = h.slots.next };
  records = records_kept h.records h.records.stands refl refl;
  named = h.named;
}

module _ (f : fold.Found) (r : Reading) {cells after : List ℕ} {table : Area} {labels : List (List ℕ)} {names : Names}
    {next : ℕ} (h : Holds f r cells table labels names) (none_yet : f.judged.fields ≡ []) (row : Row)
    (writes : Writes cells r.slots (joined stored_slot (slots_in row)) after next) where
  -- the cell of the first field stands at the start
  first_cell : (cs : List Slot) → r.cell ≡ length (joined stored_slot (take (length f.judged.fields) cs))
  unfolding joined
  first_cell cs =
      h.slots.next
      ∙ ap (λ (l : List (Field ℕ)). length (joined stored_slot (take (length l) f.cells))) none_yet
      ∙ ap (λ (l : List (Field ℕ)). length (joined stored_slot (take (length l) cs))) (sym none_yet)

  pub holds_few : (count : ℕ) → count ≡ length (slots_in row) → length f.cells + length (slots_in row) ≤ fields_most
      → Holds (fold.with_cells f (f.cells ++ slots_in row))
      (changed (with_head (with_lines r 0) r.width r.name r.end (r.cells + count) next) (r.lines + 1)
      at.RowOrBlank r.note) after table labels names
  holds_few count is few =
      let n : length (f.cells ++ slots_in row) ≡ length f.cells + length (slots_in row) =
      length-append f.cells (slots_in row) in
      let b : ltb fields_most (length (f.cells ++ slots_in row)) ≡ false =
      le-ltb fields_most (length (f.cells ++ slots_in row)) (omega (arith, n, few)) in
      let j = joined_append stored_slot f.cells (slots_in row) in
      rw b (record {
        counts = record {
          lines = next_line f r h;
          stage = refl;
          width = h.counts.width;
          name = h.counts.name;
          row = refl;
          cells = (let e = h.counts.cells in omega (arith, n, e, is));
          count = h.counts.count;
          fields = h.counts.fields;
          rested = h.counts.rested;
          lowest = h.counts.lowest;
        };
        slots = record {
          stored = writes.text ∙ ap (λ (l : List ℕ). l ++ joined stored_slot (slots_in row)) h.slots.stored ∙ sym j;
          end = (let e = h.slots.end in let q = ap length j in
              let m = length-append (joined stored_slot f.cells) (joined stored_slot (slots_in row)) in
              omega (arith, writes.end, e, q, m));
          next = first_cell (f.cells ++ slots_in row);
        };
        records = records_kept h.records h.records.stands refl refl;
        named = h.named;
      })

  -- 4
  pub holds_over : fields_most < length f.cells + length (slots_in row) → r.slots ≤ length cells
      → Holds (fold.with_cells f (f.cells ++ slots_in row))
      (changed (with_lines r 0) (r.lines + 1) at.RowOrBlank (Some TooMany)) after table labels names
  holds_over over le =
      let n : length (f.cells ++ slots_in row) ≡ length f.cells + length (slots_in row) =
      length-append f.cells (slots_in row) in
      let b : ltb fields_most (length (f.cells ++ slots_in row)) ≡ true =
      lt-ltb fields_most (length (f.cells ++ slots_in row)) (omega (arith, n, over)) in
      rw b (record {
        counts = record {
          lines = next_line f r h;
          stage = refl;
          width = h.counts.width;
          name = h.counts.name;
          row = refl;
          cells = h.counts.cells;
          count = h.counts.count;
          fields = h.counts.fields;
          rested = h.counts.rested;
          lowest = refl;
        };
        slots = record {
          stored = writes_keep le writes ∙ h.slots.stored;
          end = h.slots.end;
          next = h.slots.next;
        };
        records = records_kept h.records (record {
          seen = h.records.stands.seen;
          exact = λ e. absurd (none-ne-some (refused 4 0) (sym e));
        }) refl refl;
        named = h.named;
      })

-- ── the row's end ──

module _ (r : Reading) (next n : ℕ) where
  pub ended_over : fields_most - r.cells < n
      → row_ended r next n ≡ changed (with_lines r 0) (r.lines + 1) at.RowOrBlank (Some TooMany)
  ended_over lt = rw (lt-ltb (fields_most - r.cells) n lt) refl

  pub ended_few : n ≤ fields_most - r.cells
      → row_ended r next n
      ≡ changed (with_head (with_lines r 0) r.width r.name r.end (r.cells + n) next) (r.lines + 1)
      at.RowOrBlank r.note
  ended_few le = rw (le-ltb (fields_most - r.cells) n le) refl

-- ── safe ──

room_lines : (r : Reading) (n : ℕ) → Room r → n ≤ row_lines_most → Room (with_lines r n)
room_lines r n h le = record {
  width = h.width;
  name = h.name;
  row = le;
  front = h.front;
  cells = h.cells;
  slots = h.slots;
  cell = h.cell;
  count = h.count;
  fields = h.fields;
  end = h.end;
  placed = h.placed;
}

pub room_line : (r : Reading) (n : ℕ) → Room r → n ≤ row_lines_most
    → Room (changed (with_lines r n) (r.lines + 1) at.InRow r.note)
room_line r n h le =
    room_changed (with_lines r n) (r.lines + 1) at.InRow r.note (let q = h.placed in omega (arith, q))
    (room_lines r n h le)

-- behind the border of a row whose cells are kept
pub room_ended : (r : Reading) (next n : ℕ) (cs : List Slot) {before after : List ℕ} → Room r
    → all (λ c. is_label c.text) cs ≡ true → n ≡ length cs
    → Writes before r.slots (joined stored_slot cs) after next
    → Room (row_ended r next n) × ((row_ended r next n).lines ≤ r.lines + 1)
room_ended r next n cs h labels count w = go (ltb (fields_most - r.cells) n) refl
  where
    over : Room (changed (with_lines r 0) (r.lines + 1) at.RowOrBlank (Some TooMany))
    over = room_changed (with_lines r 0) (r.lines + 1) at.RowOrBlank (Some TooMany) (omega arith)
        (room_lines r 0 h (omega arith))

    go : (b : Bool) → ltb (fields_most - r.cells) n ≡ b
        → Room (row_ended r next n) × ((row_ended r next n).lines ≤ r.lines + 1)
    go true e = rw e (over, omega arith)
    go false e =
        let few = ltb-false (fields_most - r.cells) n e in
        let a = h.cells in
        let s = h.slots in
        let m = slots_length cs labels in
        let k = w.end in
        let room = room_row r n next h (omega (arith, few, a)) (omega (arith, s, m, k, count)) (omega (arith, k)) in
        rw e (room, omega arith)
