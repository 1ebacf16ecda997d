-- What the code keeps behind the lines of the head that hold NAME, W and cells.
use mathlib.Core.Path.{◌≡◌, refl, ap, sym, subst, ◌∙◌}
use mathlib.Core.Bool.{Bool, true, false, cond}
use mathlib.Core.List.{List, [], ◌∷◌, append-nil}
use mathlib.Core.Option.{Option, none, some}
use Prim.Native.Nat.{ℕ, ◌+◌, ◌*◌, ◌≤◌, ◌<◌}
use native.Mathlib.Omega.{arith}
use lib.ListN.{length, take, drop, length-drop}
use lib.Seq.{take_all}
use Rattle.base.specs.Bytes.{bytes}
use Rattle.base.specs.Lists.{joined, same}
use Rattle.base.proofs.Lists.{not_both}
use Rattle.base.proofs.Scans.{same_length}
use Rattle.writing.specs.Writes.{Writes}
use Rattle.rules.specs.Limits.{fields_most, label_most}
use Rattle.rules.specs.Rows.{Row}
use Rattle.text_laws.specs.Judging.{faces, Judged}
use Rattle.text_laws.specs.Steady.{StandIn}
use Rattle.rules.specs.Fields.{Field}
use Rattle.text_laws.specs.Fold as fold
use Rattle.text_laws.specs.FrameReader.{read_name}
use Rattle.texts.specs.FramePlaces.{is_some}
use Rattle.texts.specs.HeldNames.{Names}
use Rattle.texts.specs.RowPlaces.{lines_in}
use Rattle.texts.specs.Changes.{changed, with_head, with_lines}
use Rattle.texts.specs.HeldAreas.{slot_most}
use Rattle.texts.specs.States.{Room, Area, area, Numbers, Holds}
use Rattle.texts.specs.declared.states.Stage.TheVariants as at
use Rattle.texts.specs.declared.states.Reading.{Reading}
use Rattle.texts.proofs.FrameLeaves.{name_short}
use Rattle.texts.proofs.StateSteps.{records_kept, next_line}

-- ── the opening line ──

none_of : {A : Type 0} (o : Option A) → false ≡ is_some o → o ≡ none
none_of none e = refl
none_of (some a) e = absurd (not_both true refl (sym e))

-- a line that is too short names nothing
pub opening_short : (l : List ℕ) → length l < 3 → fold.opening_name l ≡ none
unfolding fold.opening_name
opening_short l lt =
    let t : take 3 l ≡ l = take_all 3 l (omega arith) in
    let q : same (take 3 l) (bytes "An ") ≡ false =
    rw t (same_length l (bytes "An ") (λ e. absurd (omega (arith, e)))) in
    rw q (go (same (take 2 l) (bytes "A ")))
  where
    go : (y : Bool) → cond y (read_name (drop 2 l)) none ≡ none
    go true = none_of (read_name (drop 2 l)) (name_short (drop 2 l) (omega (arith, lt, length-drop 2 l)))
    go false = refl

-- where no field was kept, none stands in
none_stands : (j : Judged) (fs : List (Field ℕ)) → StandIn j fs → j.fields ≡ [] → fs ≡ []
none_stands j [] h e = refl
none_stands j (y ∷ fs) h e = absurd (let n = ap length (h.seen ∙ ap faces e) in omega (arith, n))

module _ (f : fold.Found) (r : Reading) {cells : List ℕ} {table : Area} {labels : List (List ℕ)} {names : Names}
    (h : Holds f r cells table labels names) where
  -- NAME stands at the start of the table
  pub holds_name : f.judged.fields ≡ [] → (n : List ℕ) (k : ℕ) {after : List ℕ} → Writes table.bytes 0 n after k
      → Holds (fold.with_name f (some n)) (changed (with_head r r.width k k r.cells r.slots) (r.lines + 1)
      at.Blank r.note) cells (area after table.counts) labels names
  unfolding joined
  holds_name none_yet n k w = record {
    counts = record {
      lines = next_line f r h;
      stage = refl;
      width = h.counts.width;
      name = omega (arith, w.end);
      row = h.counts.row;
      cells = h.counts.cells;
      count = h.counts.count;
      fields = h.counts.fields;
      rested = h.counts.rested;
      lowest = h.counts.lowest;
    };
    slots = record { stored = h.slots.stored; end = h.slots.end; next = h.slots.next };
    records = record {
      fields = [];
      stands = record { seen = ap faces (sym none_yet); exact = λ e. sym none_yet };
      stored = (let t : take k _ ≡ n = w.text in t ∙ sym (append-nil n));
      end = (let e : k ≡ length n = omega (arith, w.end) in e ∙ ap length (sym (append-nil n)));
      numbers = subst (λ (l : List (Field ℕ)). Numbers l table.counts)
          (none_stands f.judged h.records.fields h.records.stands none_yet) h.records.numbers;
    };
    named = h.named;
  }

  -- W
  pub holds_width : f.row ≡ none → (w : ℕ)
      → Holds (fold.with_width f (some w)) (changed (with_head r w r.name r.end r.cells r.slots)
      (r.lines + 1) at.UnitsRuler r.note) cells table labels names
  holds_width outside w = record {
    counts = record {
      lines = next_line f r h;
      stage = refl;
      width = refl;
      name = h.counts.name;
      row = h.counts.row ∙ ap (λ (o : Option Row). length (lines_in o)) outside;
      cells = h.counts.cells;
      count = h.counts.count;
      fields = h.counts.fields;
      rested = h.counts.rested;
      lowest = h.counts.lowest;
    };
    slots = record { stored = h.slots.stored; end = h.slots.end; next = h.slots.next };
    records = records_kept h.records h.records.stands refl refl;
    named = h.named;
  }

-- ── safe ──

pub room_width : (r : Reading) (w : ℕ) → Room r → w ≤ 32
    → Room (changed (with_head r w r.name r.end r.cells r.slots) (r.lines + 1) at.UnitsRuler r.note)
room_width r w h le = record {
  width = le;
  name = h.name;
  row = h.row;
  front = h.front;
  cells = h.cells;
  slots = h.slots;
  cell = h.cell;
  count = h.count;
  fields = h.fields;
  end = h.end;
  placed = (let q = h.placed in omega (arith, q));
}

pub room_name : (r : Reading) (k : ℕ) → Room r → k ≤ label_most
    → Room (changed (with_head r r.width k k r.cells r.slots) (r.lines + 1) at.Blank r.note)
room_name r k h le = record {
  width = h.width;
  name = le;
  row = h.row;
  front = omega arith;
  cells = h.cells;
  slots = h.slots;
  cell = h.cell;
  count = h.count;
  fields = h.fields;
  end = omega (arith, le);
  placed = (let q = h.placed in omega (arith, q));
}

pub room_row : (r : Reading) (n next : ℕ) → Room r → r.cells + n ≤ fields_most
    → next ≤ slot_most * (r.cells + n) → r.slots ≤ next
    → Room (changed (with_head (with_lines r 0) r.width r.name r.end (r.cells + n) next) (r.lines + 1)
    at.RowOrBlank r.note)
room_row r n next h few le more = record {
  width = h.width;
  name = h.name;
  row = omega arith;
  front = h.front;
  cells = few;
  slots = le;
  cell = (let q = h.cell in omega (arith, q));
  count = h.count;
  fields = h.fields;
  end = h.end;
  placed = (let q = h.placed in omega (arith, q));
}
