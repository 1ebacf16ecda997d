-- What the code keeps behind a field line.
use Rattle.std.specs.Prelude.{Option as Held, Some, None}
use Rattle.texts.specs.declared.notes.Note.TheVariants.{BadByte, BadLine, TooMany, Mismatch}
use mathlib.Core.Path.{◌≡◌, refl, ap, ap₂, sym, ◌∙◌, subst}
use mathlib.Core.Bool.{Bool, true, false, ◌||◌}
use mathlib.Core.List.{List, [], ◌∷◌, ◌++◌, append_assoc}
use mathlib.Core.Option.{Option, none, some, none-ne-some}
use Prim.Native.Nat.{ℕ, suc, ◌+◌}
use native.Mathlib.Omega.{arith}
use lib.Dec.{leb}
use lib.ListN.{length, take, length-append, length-map, get_elem?}
use Rattle.base.specs.Lists.{any, joined, if_any}
use Rattle.writing.specs.Writes.{Writes}
use Rattle.base.proofs.Joined.{joined_append, joined_one}
use Rattle.rules.specs.Limits.{fields_most}
use Rattle.rules.specs.Answers.{Answer, refused}
use Rattle.rules.specs.Names.{is_short}
use Rattle.rules.specs.Fields.{Width, fixed, measured, rest, Field, Form, is_rest, is_rest_width}
use Rattle.text_laws.specs.LineReader.{read_form}
use Rattle.text_laws.specs.Lowest.{lower, broken}
use Rattle.text_laws.specs.Judging.{face_width, face, faces, resolved_in, rules, Judged, is_open, is_many, is_full}
use Rattle.text_laws.specs.Judging.{many}
use Rattle.text_laws.specs.Judging.{with_form, judge}
use Rattle.text_laws.specs.Fold as fold
use Rattle.text_laws.specs.Steady.{StandIn, Steady}
use Rattle.text_laws.specs.Resolving.{index_of}
use Rattle.text_laws.proofs.Loose.{faces_append, lower_left}
use Rattle.text_laws.proofs.Faces.{renamed_face}
use Rattle.texts.specs.HeldNames.{Names}
use Rattle.texts.specs.Noted.{note_of}
use Rattle.texts.specs.HeldNames as held
use Rattle.texts.specs.Slots.{stored_slot}
use Rattle.texts.specs.Resolved.{indexed}
use Rattle.texts.specs.Changes.{changed, with_line}
use Rattle.texts.specs.States.{line_refused, line_kept, is_many_as, is_full_as, NamedWith}
use Rattle.texts.specs.States.{Area, plain_field, is_short_record, Counts, Named, Holds}
use Rattle.texts.specs.declared.notes.Note.{Note}
use Rattle.texts.specs.declared.notes.Note.TheVariants as by
use Rattle.texts.specs.declared.states.Stage.TheVariants as at
use Rattle.texts.specs.declared.states.Reading.{Reading}
use Rattle.texts.proofs.StateSteps.{records_kept, next_line}
use Rattle.texts.proofs.HeldArrays.{named_front, named_face}
use Rattle.texts.proofs.Holding.{writes}
use Rattle.texts.proofs.LineForms.{named_kept}
use Rattle.texts.proofs.LineTypes.{ShortNames}
use Rattle.texts.proofs.LineCounts.{field_tallied, numbers_more}

-- ── full ──

pub note_many : (a : Held Note) → is_many_as a ≡ is_many (note_of a)
note_many None = refl
note_many (Some by.BadByte) = refl
note_many (Some (by.BadLine p)) = refl
note_many (Some by.TooMany) = refl
note_many (Some (by.BadForm p)) = refl
note_many (Some (by.OverLimit p)) = refl
note_many (Some (by.Mismatch p)) = refl
note_many (Some (by.Repeated p)) = refl
note_many (Some (by.BadName p)) = refl
note_many (Some (by.BadRest p)) = refl

pub full_same : (f : fold.Found) (r : Reading) → Counts f r → is_full_as r ≡ is_full f.judged
full_same f r h =
    ap₂ ◌||◌ (note_many r.note ∙ ap is_many h.lowest) (ap (leb fields_most) h.count)

-- ── no field is kept ──

abbrev field_found : fold.Found → Judged → fold.Found
field_found f j = record {
  lines = suc f.lines;
  stage = fold.field_line;
  name = f.name;
  width = f.width;
  row = f.row;
  cells = f.cells;
  judged = j;
}

module _ (f : fold.Found) (r : Reading) {cells : List ℕ} {table : Area} {labels : List (List ℕ)} {names : Names}
    (h : Holds f r cells table labels names) where
  holds_judged : (j : Judged) (n : ℕ) (a : Held Note) → n ≡ j.count → j.fields ≡ f.judged.fields
      → (j.lowest ≡ none → f.judged.lowest ≡ none) → note_of a ≡ j.lowest
      → Holds (field_found f j) (changed (with_line r r.cell n r.fields r.end r.rested) (r.lines + 1)
      at.FieldLine a) cells table labels names
  holds_judged j n a c e low k = record {
    counts = record {
      lines = next_line f r h;
      stage = refl;
      width = h.counts.width;
      name = h.counts.name;
      row = h.counts.row;
      cells = h.counts.cells;
      count = c;
      fields = h.counts.fields ∙ ap length (sym e);
      rested = h.counts.rested ∙ ap (λ (l : List (Field ℕ)). any is_rest (faces l)) (sym e);
      lowest = k;
    };
    slots = record {
      stored = h.slots.stored;
      end = h.slots.end;
      next = h.slots.next
          ∙ ap (λ (l : List (Field ℕ)). length (joined stored_slot (take (length l) f.cells))) (sym e);
    };
    records = records_kept h.records (record {
      seen = h.records.stands.seen ∙ ap faces (sym e);
      exact = λ z. h.records.stands.exact (low z) ∙ sym e;
    }) refl refl;
    named = subst (λ (l : List (Field ℕ)). Named (faces l) labels names) (sym e) h.named;
  }

  -- 4
  pub holds_full : (l : List ℕ) → is_full f.judged ≡ true
      → Holds (fold.brief_field f l) (changed r (r.lines + 1) at.FieldLine (Some TooMany)) cells table labels names
  unfolding judge
  holds_full l e =
      rw e (holds_judged (many f.judged) r.count (Some TooMany) h.counts.count refl
      (λ z. absurd (none-ne-some (refused 4 0) (sym z))) refl)

  one_more : r.count + 1 ≡ suc f.judged.count
  one_more = let e = h.counts.count in omega (arith, e)

  -- 5
  pub holds_formless : (l : List ℕ) (a : Held Note) → is_full f.judged ≡ false → read_form l ≡ none
      → note_of a ≡ lower (note_of r.note) (some (refused 5 (r.lines + 1)))
      → Holds (fold.brief_field f l) (line_refused r a) cells table labels names
  unfolding judge with_form
  holds_formless l a e o k =
      rw (e, o) (holds_judged (with_form f.cells (suc f.lines) f.judged none) (r.count + 1) a one_more refl
      (λ z. lower_left f.judged.lowest (some (refused 5 (suc f.lines))) z)
      (k ∙ ap₂ {C = Option Answer} (λ (b : Option Answer) (p : ℕ). lower b (some (refused 5 p))) h.counts.lowest
      (next_line f r h)))

  abbrev note_of_form : Form → Option Answer
  note_of_form x =
      lower f.judged.lowest (broken 6 (suc f.lines) (rules f.cells) (faces f.judged.fields) x)

  -- 6, and what is closed behind an earlier refusal
  pub holds_closed : (l : List ℕ) (x : Form) (a : Held Note) → is_full f.judged ≡ false → read_form l ≡ some x
      → note_of a ≡ note_of_form x → is_open (note_of a) ≡ false
      → Holds (fold.brief_field f l) (line_refused r a) cells table labels names
  unfolding judge with_form
  holds_closed l x a e o k shut =
      let c : is_open (note_of_form x) ≡ false = rw (← k) shut in
      rw (e, o) (holds_judged (with_form f.cells (suc f.lines) f.judged (some x)) (r.count + 1) a one_more
      (rw c refl)
      (λ z. lower_left f.judged.lowest (broken 6 (suc f.lines) (rules f.cells) (faces
      f.judged.fields) x) z)
      k)

-- other names may be held behind those of the fields
pub holds_named : (f : fold.Found) (r : Reading) (x : Form) {cells : List ℕ} {table : Area}
    {labels labels' : List (List ℕ)} {names names' : Names} → Holds f r cells table labels names
    → NamedWith f x labels' names' → Holds f r cells table labels' names'
holds_named f r x h n = record {
  counts = h.counts;
  slots = h.slots;
  records = h.records;
  named = named_front (faces f.judged.fields) x n;
}

-- and behind those of the fields other names may stand
pub holds_kept : (f : fold.Found) (r : Reading) {cells : List ℕ} {table : Area} {labels : List (List ℕ)}
    {names names' : Names} → Holds f r cells table labels names → held.Kept names r.fields names'
    → Holds f r cells table labels names'
holds_kept f r h k = record {
  counts = h.counts;
  slots = h.slots;
  records = h.records;
  named = named_kept (faces f.judged.fields) r.fields
      (length-map f.judged.fields face ∙ sym h.counts.fields) k h.named;
}

-- ── a field is kept ──

any_more : (l : List Form) (x : Form) → any is_rest (l ++ (x ∷ [])) ≡ any is_rest l || is_rest x
unfolding any
any_more [] x = or_false (is_rest x)
  where
    or_false : (b : Bool) → b || false ≡ b
    or_false true = refl
    or_false false = refl
any_more (y ∷ l) x = ap (λ (b : Bool). is_rest y || b) (any_more l x) ∙ or_assoc (is_rest y) (any is_rest l) (is_rest x)
  where
    or_assoc : (a b c : Bool) → a || (b || c) ≡ (a || b) || c
    or_assoc true b c = refl
    or_assoc false b c = refl

rest_face : (x : Form) → is_rest (face x) ≡ is_rest x
rest_face x = go x.width
  where
    go : (v : Width (List ℕ)) → is_rest_width (face_width v) ≡ is_rest_width v
    go (fixed n) = refl
    go (measured u t) = refl
    go rest = refl

same_count : (j : Judged) (fs : List (Field ℕ)) → StandIn j fs → length fs ≡ length j.fields
same_count j fs h = sym (length-map fs face) ∙ ap length h.seen ∙ length-map j.fields face

-- one record more
stored_more : (name : List ℕ) (fs : List (Field ℕ)) (next : Field ℕ)
    → name ++ joined plain_field (fs ++ (next ∷ [])) ≡ (name ++ joined plain_field fs) ++ plain_field next
stored_more name fs next =
    ap (λ (z : List ℕ). name ++ z) (joined_append plain_field fs (next ∷ [])
    ∙ ap (λ (z : List ℕ). joined plain_field fs ++ z) (joined_one plain_field next))
    ∙ sym (append_assoc name (joined plain_field fs) (plain_field next))

-- and one field more, as later lines see it
seen_more : (j : Judged) (before : List (Field ℕ)) (y : Field ℕ) (x : Form) → j.fields ≡ before ++ (y ∷ [])
    → face y ≡ face x → faces j.fields ≡ faces before ++ (face x ∷ [])
seen_more j before y x e same =
    ap faces e ∙ faces_append before y ∙ ap (λ (z : Form). faces before ++ (z ∷ [])) same

-- what a kept field adds: its cell is passed, its record is written, its names are held
pub record Kept (f : fold.Found) (r : Reading) (x : Form) (to end : ℕ) (is_rested : Bool) (table after : Area)
    (labels : List (List ℕ)) (names : Names) : Type 0 where
  pub cell : to ≡ length (joined stored_slot (take (suc (length f.judged.fields)) f.cells))
  pub writes : Writes table.bytes r.end (plain_field (indexed names r.fields x)) after.bytes end
  pub short : is_short_record (indexed names r.fields x) ≡ true
  pub tallies : after.counts ≡ field_tallied r.fields (indexed names r.fields x) table.counts
  pub rested : is_rested ≡ (any is_rest (faces f.judged.fields) || is_rest x)
  pub named : NamedWith f x labels names

module _ (f : fold.Found) (r : Reading) {cells : List ℕ} {table after : Area} {labels labels' : List (List ℕ)}
    {names names' : Names} (h : Holds f r cells table labels names) (x : Form) {end cell : ℕ} {rested : Bool}
    (k : Kept f r x cell end rested table after labels' names') where
  counts_grown : (j : Judged) (y : Field ℕ) (a : Held Note) → j.count ≡ suc f.judged.count
      → j.fields ≡ f.judged.fields ++ (y ∷ []) → face y ≡ face x → note_of a ≡ j.lowest
      → Counts (field_found f j) (line_kept r cell end rested a)
  counts_grown j y a c e same low =
      let before = f.judged.fields in
      let n : length (before ++ (y ∷ [])) ≡ length before + 1 = length-append before (y ∷ []) in
      let seen = seen_more j before y x e same in
      record {
        lines = next_line f r h;
        stage = refl;
        width = h.counts.width;
        name = h.counts.name;
        row = h.counts.row;
        cells = h.counts.cells;
        count = (let q = h.counts.count in omega (arith, q, c));
        fields = (let q = h.counts.fields in let z = ap length e in omega (arith, q, n, z));
        rested = k.rested ∙ sym (ap (any is_rest) seen ∙ any_more (faces before) (face x)
            ∙ ap (λ (b : Bool). any is_rest (faces before) || b) (rest_face x));
        lowest = low;
      }

  holds_grown : (j : Judged) (y : Field ℕ) (a : Held Note) → j.count ≡ suc f.judged.count
      → j.fields ≡ f.judged.fields ++ (y ∷ []) → face y ≡ face x
      → StandIn j (h.records.fields ++ (indexed names' (length h.records.fields) x ∷ [])) → note_of a ≡ j.lowest
      → Holds (field_found f j) (line_kept r cell end rested a) cells after labels' names'
  holds_grown j y a c e same stands low =
      let before = f.judged.fields in
      let fs = h.records.fields in
      let n : length (before ++ (y ∷ [])) ≡ length before + 1 = length-append before (y ∷ []) in
      let m : length fs ≡ r.fields =
      same_count f.judged fs h.records.stands ∙ sym h.counts.fields in
      let seen = seen_more j before y x e same in
      let next = indexed names' (length fs) x in
      let w : take end after.bytes ≡ take r.end table.bytes ++ plain_field next =
      k.writes.text ∙ ap (λ (i : ℕ). take r.end table.bytes ++ plain_field (indexed names' i x))
      (sym m) in
      let all_stored = stored_more f.name fs next in
      record {
        counts = counts_grown j y a c e same low;
        slots = record {
          stored = h.slots.stored;
          end = h.slots.end;
          next = (let z : suc (length before) ≡ length j.fields = (let q = ap length e in omega (arith, q, n)) in
              k.cell ∙ ap (λ (i : ℕ). length (joined stored_slot (take i f.cells))) z);
        };
        records = record {
          fields = fs ++ (next ∷ []);
          stands = stands;
          stored = w ∙ ap (λ (z : List ℕ). z ++ plain_field next) h.records.stored ∙ sym all_stored;
          end = (let q = ap length all_stored in
              let p = length-append (f.name ++ joined plain_field fs) (plain_field next) in
              let z = ap (λ (i : ℕ). length (plain_field (indexed names' i x))) m in
              omega (arith, k.writes.end, h.records.end, q, p, z));
          numbers = numbers_more fs next h.records.numbers
              (ap (λ (i : ℕ). is_short_record (indexed names' i x)) m ∙ k.short)
              (k.tallies ∙ ap (λ (i : ℕ). field_tallied i (indexed names' i x) table.counts) (sym m));
        };
        named = subst (λ (z : List Form). Named z labels' names') (sym seen)
            (named_face (faces before) x k.named);
      }

-- the code's field stands in for the fold's
module _ (f : fold.Found) (r : Reading) {cells : List ℕ} {table after : Area} {labels labels' : List (List ℕ)}
    {names names' : Names} (h : Holds f r cells table labels names) (x : Form) {end cell : ℕ} {rested : Bool}
    (k : Kept f r x cell end rested table after labels' names')
    (steady : Steady f) (short : ShortNames x)
    (formed : (i : ℕ) (y : Form) → get_elem? (faces f.judged.fields ++ (x ∷ [])) i ≡ some y
    → if_any is_short y.short ≡ true) where
  pub holds_open : (l : List ℕ) (a : Held Note) → is_full f.judged ≡ false → read_form l ≡ some x
      → note_of a ≡ lower f.judged.lowest
      (broken 6 (suc f.lines) (rules f.cells) (faces f.judged.fields) x)
      → is_open (note_of a) ≡ true
      → Holds (fold.brief_field f l) (line_kept r cell end rested a) cells after labels' names'
  unfolding judge with_form
  holds_open l a e o low is =
      let before = f.judged.fields in
      let fs = h.records.fields in
      let here = lower f.judged.lowest (broken 6 (suc f.lines) (rules f.cells) (faces before) x) in
      let q : is_open here ≡ true = rw (← low) is in
      let seen = h.records.stands.seen in
      let stands = writes f.cells (suc f.lines) f.judged fs h.records.stands
      steady.clear x names' short
      (λ i y z. formed i y (subst (λ (b : List Form). get_elem? (b ++ (x ∷ [])) i ≡ some y) seen z))
      (λ i y z. k.named.name i y (subst (λ (b : List Form). get_elem? (b ++ (x ∷ [])) i ≡ some y) seen z)) q in
      rw (e, o) (holds_grown f r h x k (with_form f.cells (suc f.lines) f.judged (some x)) (resolved_in before
      x) a refl
      (rw q refl) (renamed_face (index_of (faces before ++ (x ∷ []))) x) stands low)
