-- What the code keeps behind a right line of which it keeps nothing, and behind a wrong line.
use Rattle.std.specs.Prelude.{Option as Held, Some}
use Rattle.texts.specs.declared.notes.Note.TheVariants.{BadLine}
use mathlib.Core.Path.{◌≡◌, refl, ap, sym, subst, ◌∙◌}
use mathlib.Core.Bool.{Bool, true, false, cond}
use mathlib.Core.List.{List, [], ◌∷◌}
use mathlib.Core.Option.{Option, none, some, none-ne-some}
use Prim.Native.Nat.{ℕ, suc, ◌+◌, ◌*◌, ◌≤◌}
use native.Mathlib.Omega.{arith}
use lib.Dec.{eqb}
use borrow.Author.Tests.{ne_eqb, le-leb}
use lib.ListN.{length}
use Rattle.base.specs.Lists.{same, is_empty, is_none}
use Rattle.rules.specs.Answers.{refused}
use Rattle.rules.specs.Rows.{Row}
use Rattle.rules.specs.Limits.{line_most}
use Rattle.text_laws.specs.Fold as fold
use Rattle.texts.specs.HeldNames.{Names}
use Rattle.texts.specs.Noted.{place_of}
use Rattle.texts.specs.RowPlaces.{strips_at, lines_in, RowKept}
use Rattle.texts.specs.Changes.{awaits_field, changed, made_wrong, made_wrong_row, expected}
use Rattle.texts.specs.States.{Room, Taken, stage_of}
use Rattle.texts.specs.States.{Counts, Area, Records, Holds, FieldStep, HeadStep, HeadRow, RowStep, LineStep}
use Rattle.text_laws.specs.Steady.{StandIn, is_head, row_goes, Steady}
use Rattle.text_laws.proofs.Steadiness.{no_row, some_row}
use Rattle.texts.specs.declared.notes.Note.{Note}
use Rattle.texts.specs.declared.states.Stage.{Stage}
use Rattle.texts.specs.declared.states.Stage.TheVariants as at
use Rattle.texts.specs.declared.states.Reading.{Reading}

-- ── lines by their lengths ──

pub empty_nil : (l : List ℕ) → length l ≡ 0 → is_empty l ≡ true
empty_nil [] e = refl
empty_nil (x ∷ l) e = absurd (omega (arith, e))

pub filled_nil : (l : List ℕ) → (length l ≡ 0 → ⊥) → is_empty l ≡ false
filled_nil [] e = absurd (e refl)
filled_nil (x ∷ l) e = refl

pub same_nil : (l : List ℕ) → eqb (length l) 0 ≡ same l []
unfolding same
same_nil [] = refl
same_nil (x ∷ l) = ne_eqb (length (x ∷ l)) 0 (λ e. absurd (omega (arith, e)))

-- ── safe ──

pub room_changed : (r : Reading) (n : ℕ) (s : Stage) (a : Held Note) → place_of a ≤ n + 1
    → Room r → Room (changed r n s a)
room_changed r n s a p h = record {
  width = h.width;
  name = h.name;
  row = h.row;
  front = h.front;
  cells = h.cells;
  slots = h.slots;
  cell = h.cell;
  count = h.count;
  fields = h.fields;
  end = h.end;
  placed = p;
}

pub taken_wrong : (r : Reading) → Room r → Taken r (made_wrong r)
taken_wrong r h = (room_changed r r.lines at.Lost (Some (BadLine (r.lines + 1))) (omega arith) h, omega arith)

pub taken_wrong_row : (r : Reading) → Room r → Taken r (made_wrong_row r)
taken_wrong_row r h = (room_changed r r.lines at.Lost (Some (BadLine r.lines)) (omega arith) h, omega arith)

pub taken_onward : (r : Reading) (s : Stage) (a : Held Note) → place_of a ≤ r.lines + 1 → Room r
    → Taken r (changed r (r.lines + 1) s a)
taken_onward r s a p h = (room_changed r (r.lines + 1) s a (omega (arith, p)) h, omega arith)

pub taken_expect : (right : Bool) (r : Reading) (s : Stage) → Room r → Taken r (expected right r s)
taken_expect true r s h = taken_onward r s r.note h.placed h
taken_expect false r s h = taken_wrong r h

-- ── what is held ──

-- the records, where no byte of them changed
pub records_kept : {f g : fold.Found} {r q : Reading} {table : Area} (h : Records f r table)
    → StandIn g.judged h.fields → g.name ≡ f.name → q.end ≡ r.end → Records g q table
records_kept h stands name end = record {
  fields = h.fields;
  stands = stands;
  stored = rw (name, end) h.stored;
  end = rw (name, end) h.end;
  numbers = h.numbers;
}

-- outside of a row the next line is the wrong one
pub blamed_outside : (o : Option Row) (n : ℕ) → o ≡ none → fold.blamed o n ≡ suc n
blamed_outside none n e = refl
blamed_outside (some x) n e = absurd (none-ne-some x (sym e))

module _ (f : fold.Found) (r : Reading) {cells : List ℕ} {table : Area} {labels : List (List ℕ)} {names : Names}
    (h : Holds f r cells table labels names) where
  pub next_line : r.lines + 1 ≡ suc f.lines
  next_line = let e = h.counts.lines in omega (arith, e)

  -- a right line, with nothing to keep of it
  pub holds_onward : (s : Stage)
      → Holds (fold.onward (stage_of s) f) (changed r (r.lines + 1) s r.note) cells table labels names
  holds_onward s = record {
    counts = record {
      lines = next_line;
      stage = refl;
      width = h.counts.width;
      name = h.counts.name;
      row = h.counts.row;
      cells = h.counts.cells;
      count = h.counts.count;
      fields = h.counts.fields;
      rested = h.counts.rested;
      lowest = h.counts.lowest;
    };
    slots = record { stored = h.slots.stored; end = h.slots.end; next = h.slots.next };
    records = records_kept h.records h.records.stands refl refl;
    named = h.named;
  }

  -- a refusal by 3
  holds_losing : (p k : ℕ) → k ≡ p
      → Holds (fold.losing (refused 3 p) f) (changed r r.lines at.Lost (Some (BadLine k))) cells table labels names
  holds_losing p k e = record {
    counts = record {
      lines = h.counts.lines;
      stage = refl;
      width = h.counts.width;
      name = h.counts.name;
      row = h.counts.row;
      cells = h.counts.cells;
      count = h.counts.count;
      fields = h.counts.fields;
      rested = h.counts.rested;
      lowest = ap (λ (n : ℕ). some (refused 3 n)) e;
    };
    slots = record { stored = h.slots.stored; end = h.slots.end; next = h.slots.next };
    records = records_kept h.records (record {
      seen = h.records.stands.seen;
      exact = λ z. absurd (none-ne-some (refused 3 p) (sym z));
    }) refl refl;
    named = h.named;
  }

  -- 3 at this line, and at the last one
  pub holds_wrong : fold.blamed f.row f.lines ≡ suc f.lines
      → Holds (fold.wrong f) (made_wrong r) cells table labels names
  holds_wrong b = holds_losing (fold.blamed f.row f.lines) (r.lines + 1) (next_line ∙ sym b)

  pub holds_wrong_row : fold.blamed f.row f.lines ≡ f.lines
      → Holds (fold.wrong f) (made_wrong_row r) cells table labels names
  holds_wrong_row b = holds_losing (fold.blamed f.row f.lines) r.lines (h.counts.lines ∙ sym b)

  -- the line that must be this one
  pub holds_expect : f.row ≡ none → (w l : List ℕ) (s : Stage) (right : Bool) → right ≡ same l w
      → Holds (fold.expect w (stage_of s) f l) (expected right r s) cells table labels names
  holds_expect outside w l s right e = rw (← e) (go right)
    where
      go : (b : Bool) → Holds (cond b (fold.onward (stage_of s) f) (fold.wrong f))
          (cond b (changed r (r.lines + 1) s r.note) (made_wrong r)) cells table labels names
      go true = holds_onward s
      go false = holds_wrong (blamed_outside f.row f.lines outside)

-- ── the lines of a row ──

-- where there is none
pub kept_outside : {o : Option Row} {w n : ℕ} {row : List ℕ} → o ≡ none → n ≡ length (lines_in o) → RowKept o w n row
unfolding strips_at
kept_outside {o} {w} {n} {row} e h =
    let z : n ≡ 0 = h ∙ ap (λ (p : Option Row). length (lines_in p)) e in
    record { lines = ap (strips_at row 0 (2 * w + 1)) z ∙ ap lines_in (sym e) }

-- NAME and W begin no row
pub name_row : (f : fold.Found) (o : Option (List ℕ)) → (fold.with_name f o).row ≡ f.row
name_row f none = refl
name_row f (some n) = refl

pub width_row_lem : (f : fold.Found) (o : Option ℕ) → f.row ≡ none → (fold.with_width f o).row ≡ none
width_row_lem f none e = e
width_row_lem f (some w) e = refl

-- where neither the row nor W changed
pub kept_same : {f g : fold.Found} {r q : Reading} {row : List ℕ} → Counts f r → Counts g q → g.row ≡ f.row
    → g.width ≡ f.width → RowKept f.row r.width r.row row → RowKept g.row q.width q.row row
kept_same {f} {g} {r} {q} {row} c d e w h =
    let n : r.row ≡ q.row = c.row ∙ ap (λ (o : Option Row). length (lines_in o)) (sym e) ∙ sym d.row in
    let v : r.width ≡ q.width = c.width ∙ sym w ∙ sym d.width in
    subst (λ (k : ℕ). RowKept g.row q.width k row) n
    (subst (λ (k : ℕ). RowKept g.row k r.row row) v
    (subst (λ (o : Option Row). RowKept o r.width r.row row) (sym e) h))

-- ── the line of a stage ──

other_truth : false ≡ true → ⊥
other_truth e = let z : ◌≡◌ {A = ℕ} 0 1 = cc in omega arith

-- no field line must come where none must
pub no_field : {s t : Stage} → s ≡ t → awaits_field s ≡ false → awaits_field t ≡ true → ⊥
no_field e free must = other_truth (sym free ∙ ap awaits_field e ∙ must)

-- what the fold makes of a line where a field line must come
pub field_lined : (s : Stage) → awaits_field s ≡ true → (f : fold.Found) (l : List ℕ)
    → fold.lined_at (stage_of s) f l ≡ fold.with_field f l
unfolding fold.lined_at
field_lined at.Opening e f l = absurd (other_truth e)
field_lined at.Blank e f l = absurd (other_truth e)
field_lined at.TensRuler e f l = absurd (other_truth e)
field_lined at.UnitsRuler e f l = absurd (other_truth e)
field_lined at.TopBorder e f l = absurd (other_truth e)
field_lined at.FirstRow e f l = absurd (other_truth e)
field_lined at.InRow e f l = absurd (other_truth e)
field_lined at.RowOrBlank e f l = absurd (other_truth e)
field_lined at.WhereLine e f l = absurd (other_truth e)
field_lined at.LastBlank e f l = absurd (other_truth e)
field_lined at.FirstField e f l = refl
field_lined at.FieldLine e f l = refl
field_lined at.Lost e f l = absurd (other_truth e)

module _ (r : Reading) (l : List ℕ) (s : Stage) (told : r.stage ≡ s) where
  -- what is held behind it, by what the fold makes of a line at that stage
  pub at_stage : {q : Reading} {cells cells' row row' : List ℕ} {table table' : Area}
      {labels labels' : List (List ℕ)} {names names' : Names}
      → ((f : fold.Found) → Steady f → f.stage ≡ stage_of s → RowKept f.row r.width r.row row
      → Holds f r cells table labels names
      → Holds (fold.lined_at (stage_of s) f l) q cells' table' labels' names'
      × RowKept (fold.lined_at (stage_of s) f l).row q.width q.row row')
      → (f : fold.Found) → Steady f → RowKept f.row r.width r.row row → Holds f r cells table labels names
      → Holds (fold.lined f l) q cells' table' labels' names'
      × RowKept (fold.lined f l).row q.width q.row row'
  at_stage {q} {cells} {cells'} {row} {row'} {table} {table'} {labels} {labels'} {names} {names'} step f k g h =
      let e : f.stage ≡ stage_of s = sym h.counts.stage ∙ ap stage_of told in
      subst (λ (z : fold.Stage). Holds (fold.lined_at z f l) q cells' table' labels' names'
      × RowKept (fold.lined_at z f l).row q.width q.row row') (sym e) (step f k e g h)

  -- a field line
  pub field_stage : ((f : fold.Found) → fold.lined_at (stage_of s) f l ≡ fold.with_field f l) → {q : Reading}
      (held held' : List ℕ) {row counts counts' : List ℕ} → length l ≤ line_most
      → FieldStep l r q held held' counts counts' → LineStep l r q held held' row row counts counts'
  field_stage is held held' brief step =
      at_stage (λ f k e g h.
      let w = step f k h in
      rw (is f, le-leb (length l) line_most brief) (w, kept_same h.counts w.counts refl refl g))

  -- a line in a row
  pub more_stage : s ≡ at.InRow → {q : Reading} {cells cells' row row' : List ℕ} {table : Area}
      {labels : List (List ℕ)} {names : Names} → RowStep l r q cells cells' row row'
      → (f : fold.Found) → Steady f → RowKept f.row r.width r.row row → Holds f r cells table labels names
      → Holds (fold.lined f l) q cells' table labels names
      × RowKept (fold.lined f l).row q.width q.row row'
  unfolding fold.lined_at
  more_stage inside {q} {cells} {cells'} {row} {row'} {table} {labels} {names} step f k g h =
      let e : f.stage ≡ fold.in_row = sym h.counts.stage ∙ ap stage_of (told ∙ inside) in
      let x = some_row k e in
      let kept = subst (λ (o : Option Row). RowKept o r.width r.row row) x.1 g in
      let w = step f x.0 table labels names k (ap is_head e) x.1 kept h in
      subst (λ (z : fold.Stage). Holds (fold.lined_at z f l) q cells' table labels names
      × RowKept (fold.lined_at z f l).row q.width q.row row') (sym e)
      (subst (λ (o : Option Row). Holds (fold.with_more f l o) q cells' table labels names
      × RowKept (fold.with_more f l o).row q.width q.row row') (sym x.1) w)

  module _ (outside : (o : Option Row) → row_goes (stage_of s) o ≡ is_none o) where
    -- a line of the head that is none of a row, and behind which there is none
    pub head_stage : {q : Reading} {cells cells' row : List ℕ} {table table' : Area} {labels : List (List ℕ)}
        {names : Names} → is_head (stage_of s) ≡ true → HeadStep (λ f. fold.lined_at (stage_of s) f l) r q cells cells'
        table table'
        → ((f : fold.Found) → f.row ≡ none → (fold.lined_at (stage_of s) f l).row ≡ none)
        → (f : fold.Found) → Steady f → RowKept f.row r.width r.row row → Holds f r cells table labels names
        → Holds (fold.lined f l) q cells' table' labels names
        × RowKept (fold.lined f l).row q.width q.row row
    head_stage {labels = labels} {names = names} head step none_behind =
        at_stage (λ f k e g h.
        let o = no_row (stage_of s) k e outside in
        let w = step f labels names k (ap is_head e ∙ head) o h in
        (w, kept_outside (none_behind f o) w.counts.row))

    -- or behind which one may be begun
    pub row_stage : {q : Reading} {cells cells' row row' : List ℕ} {table table' : Area} {labels : List (List ℕ)}
        {names : Names} → is_head (stage_of s) ≡ true
        → HeadStep (λ f. fold.lined_at (stage_of s) f l) r q cells cells' table table'
        → HeadRow (λ f. fold.lined_at (stage_of s) f l) r q row'
        → (f : fold.Found) → Steady f → RowKept f.row r.width r.row row → Holds f r cells table labels names
        → Holds (fold.lined f l) q cells' table' labels names
        × RowKept (fold.lined f l).row q.width q.row row'
    row_stage {labels = labels} {names = names} head step begun =
        at_stage (λ f k e g h.
        let o = no_row (stage_of s) k e outside in (
          step f labels names k (ap is_head e ∙ head) o h,
          begun f o h.counts.width (h.counts.row ∙ ap (λ (p : Option Row). length (lines_in p)) o),
        ))

    -- a line that must be a certain one, which may go by W, whatever counts are held
    pub expect_head : (want : ℕ → List ℕ) (next : Stage) (right : Bool) (held : List ℕ) {row : List ℕ}
        → Room r → right ≡ same l (want r.width)
        → ((f : fold.Found) → fold.lined_at (stage_of s) f l ≡ fold.expect (want f.width) (stage_of next) f l)
        → Taken r (expected right r next)
        × ((counts : List ℕ) → LineStep l r (expected right r next) held held row row counts counts)
    expect_head want next right held room e is = (
      taken_expect right r next room,
      λ counts. at_stage (λ f k t g h.
          let o = no_row (stage_of s) k t outside in
          let w = holds_expect f r h o (want f.width) l next right
          (e ∙ ap (λ (w : ℕ). same l (want w)) h.counts.width) in
          rw (is f) (w, kept_outside (expect_row f (want f.width) (stage_of next) ∙ o) w.counts.row)),
    )
      where
        expect_row : (f : fold.Found) (w : List ℕ) (n : fold.Stage) → (fold.expect w n f l).row ≡ f.row
        expect_row f w n = go (same l w)
          where
            go : (b : Bool) → (cond b (fold.onward n f) (fold.wrong f)).row ≡ f.row
            go true = refl
            go false = refl

    pub expect_step : (want : ℕ → List ℕ) (next : Stage) (right : Bool) (held : List ℕ) {row counts : List ℕ}
        → Room r → right ≡ same l (want r.width)
        → ((f : fold.Found) → fold.lined_at (stage_of s) f l ≡ fold.expect (want f.width) (stage_of next) f l)
        → Taken r (expected right r next) × LineStep l r (expected right r next) held held row row counts counts
    expect_step want next right held {row = row} {counts = counts} room e is =
        let p = expect_head want next right held {row = row} room e is in
        (p.0, p.1 counts)
