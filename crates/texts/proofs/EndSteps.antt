-- The end of a text: the lowest refusal, and the table.
use Rattle.std.specs.Prelude.{Some, None}
use Rattle.texts.specs.declared.notes.Note.TheVariants.{BadLine, Mismatch}
use mathlib.Core.Path.{◌≡◌, refl, ap, ap₂, sym, subst, ◌∙◌}
use mathlib.Core.Bool.{Bool, true, false, cond, not}
use mathlib.Core.List.{List, [], ◌++◌, append_assoc, append-nil}
use mathlib.Core.Option.{Option, none, some}
use Prim.Native.Nat.{ℕ, suc, ◌+◌, ◌-◌, ◌≤◌, ◌<◌}
use native.Mathlib.Omega.{arith}
use lib.Dec.{ltb}
use lib.ListN.{length, take, drop, length-append, length-drop, take-append-drop}
use lib.Seq.{take-append_seam, drop-append_seam, length-take-le}
use native.Mathlib.Nat.{sub-zero}
use borrow.Author.Tests.{lt-ltb, le-ltb}
use Rattle.base.specs.Lists.{is_empty, joined, if_any, is_none}
use Rattle.base.proofs.Lists.{not_both}
use Rattle.writing.specs.Writes.{Writes}
use Rattle.writing.proofs.Writing.{writes_join}
use Rattle.rules.specs.Answers.{Answer, accepted, refused}
use Rattle.rules.specs.Trees.{le2}
use Rattle.rules.specs.References.{readers}
use Rattle.rules.specs.Fields.{Field}
use Rattle.rules.specs.Stored.{counted, record_of, records, stored_with, stored_in, head_body, stored}
use Rattle.rules.specs.Promises.{leaves, overlaid, delivered}
use Rattle.rules.specs.Limits.{row_lines_most}
use Rattle.rules.specs.Rows.{Row, is_drawn_row, is_labelled}
use Rattle.references.specs.Numbers.{numbered}
use Rattle.text_laws.specs.Lowest.{lower}
use Rattle.text_laws.specs.Fold as fold
use Rattle.text_laws.specs.Steady.{row_goes, Steady}
use Rattle.text_laws.proofs.Loose.{lowest_clear}
use Rattle.text_laws.proofs.Steadiness.{none_is}
use Rattle.texts.specs.HeldNames.{Names}
use Rattle.texts.specs.Noted.{place_of, note_of}
use Rattle.texts.specs.RowPlaces.{RowKept}
use Rattle.texts.specs.States.{Room, Counts, Holds, stage_of, early_note, row_note, remain_note, last_note}
use Rattle.texts.specs.States.{TableStep, Area, area, plain_field, Numbers}
use Rattle.texts.specs.declared.states.Stage.{Stage}
use Rattle.texts.specs.declared.states.Stage.TheVariants as at
use Rattle.texts.specs.declared.states.Reading.{Reading}
use Rattle.writing.specs.Puts.{placed, put}
use Rattle.texts.proofs.RowShown.{row_labels_like}
use Rattle.texts.proofs.StateSteps.{blamed_outside}
use Rattle.texts.proofs.RecordLaws.{two_writes, two_end}
use Rattle.texts.proofs.RecordNumbers.{records_length, numbered_all}
use Rattle.texts.proofs.TableLaws.{head_end}
use Rattle.texts.proofs.RecordSizes.{two_length, counted_length}

-- ── the lowest refusal ──

module _ (f : fold.Found) (r : Reading) (c : Counts f r) where
  next_line : r.lines + 1 ≡ suc f.lines
  next_line = let q = c.lines in omega (arith, q)

  early_is : f.row ≡ none → note_of (early_note r) ≡ fold.early f
  early_is e = ap (λ (p : ℕ). some (refused 3 p)) (next_line ∙ sym (blamed_outside f.row f.lines e))

  -- in a row
  row_is : (row : List ℕ) (o : Option Row) → not (is_none o) ≡ true
      → if_any (is_drawn_row row_lines_most f.width) o ≡ true → RowKept o r.width r.row row
      → note_of (row_note r row) ≡ some (refused 3 (fold.blamed o f.lines))
  row_is row none g d k = absurd (not_both false g refl)
  row_is row (some x) g d k =
      ap (λ (b : Bool). note_of (cond b (early_note r) (Some (BadLine r.lines))))
      (row_labels_like row r.row r.width x
      (subst (λ (w : ℕ). is_drawn_row row_lines_most w x ≡ true) (sym c.width) d) k.lines)
      ∙ go (is_labelled x)
    where
      go : (b : Bool) → note_of (cond b (early_note r) (Some (BadLine r.lines)))
          ≡ some (refused 3 (cond b (suc f.lines) f.lines))
      go true = ap (λ (p : ℕ). some (refused 3 p)) next_line
      go false = ap (λ (p : ℕ). some (refused 3 p)) c.lines

  remain_is : note_of (remain_note r) ≡ fold.uncelled f
  remain_is =
      go (ltb r.fields r.cells)
      ∙ ap (λ (p : ℕ). cond (ltb r.fields r.cells) (some (refused 7 p)) none) next_line
      ∙ ap₂ {C = Option Answer} (λ (a b : ℕ). cond (ltb a b) (some (refused 7 (suc f.lines))) none) c.fields
      c.cells
    where
      go : (b : Bool) → note_of (cond b (Some (Mismatch (r.lines + 1))) None)
          ≡ cond b (some (refused 7 (r.lines + 1))) none
      go true = refl
      go false = refl

  fields_is : f.row ≡ none → (l : List ℕ) (whole : Bool) → is_empty l ≡ whole
      → cond whole (lower (note_of r.note) (note_of (remain_note r))) (note_of (early_note r))
      ≡ cond (is_empty l) (lower f.judged.lowest (fold.uncelled f)) (fold.early f)
  fields_is o l whole e = rw (e, c.lowest, remain_is, early_is o) refl

  module _ (k : Steady f) (row : List ℕ) (kept : RowKept f.row r.width r.row row) where
    last_at : (s : Stage) (l : List ℕ) (whole : Bool) → is_empty l ≡ whole → row_goes (stage_of s) f.row ≡ true
        → last_note s r whole row ≡ fold.lowest_at (stage_of s) l f
    unfolding last_note fold.lowest_at
    last_at at.Opening l w e g = early_is (none_is f.row g)
    last_at at.Blank l w e g = early_is (none_is f.row g)
    last_at at.TensRuler l w e g = early_is (none_is f.row g)
    last_at at.UnitsRuler l w e g = early_is (none_is f.row g)
    last_at at.TopBorder l w e g = early_is (none_is f.row g)
    last_at at.FirstRow l w e g = early_is (none_is f.row g)
    last_at at.InRow l w e g = row_is row f.row g k.small.row kept
    last_at at.RowOrBlank l w e g = early_is (none_is f.row g)
    last_at at.WhereLine l w e g = early_is (none_is f.row g)
    last_at at.LastBlank l w e g = early_is (none_is f.row g)
    last_at at.FirstField l w e g = early_is (none_is f.row g)
    last_at at.FieldLine l w e g = fields_is (none_is f.row g) l w e
    last_at at.Lost l w e g = c.lowest

    pub last_is_lem : (l : List ℕ) (whole : Bool) → is_empty l ≡ whole
        → last_note r.stage r whole row ≡ fold.lowest_at f.stage l f
    last_is_lem l whole e =
        last_at r.stage l whole e (subst (λ (s : fold.Stage). row_goes s f.row ≡ true) (sym c.stage) k.row)
        ∙ ap (λ (s : fold.Stage). fold.lowest_at s l f) c.stage

-- no place is behind the next line
pub remain_placed : (r : Reading) → place_of (remain_note r) ≤ r.lines + 1
remain_placed r = go (ltb r.fields r.cells)
  where
    go : (b : Bool) → place_of (cond b (Some (Mismatch (r.lines + 1))) None) ≤ r.lines + 1
    go true = omega arith
    go false = omega arith

pub row_placed : (r : Reading) (b : Bool) → place_of (cond b (early_note r) (Some (BadLine r.lines))) ≤ r.lines + 1
row_placed r true = omega arith
row_placed r false = omega arith

-- outside of rows and field lines
pub last_early : (s : Stage) (r : Reading) (whole : Bool) (row : List ℕ) → (s ≡ at.InRow → ⊥)
    → (s ≡ at.FieldLine → ⊥) → (s ≡ at.Lost → ⊥) → note_of (early_note r) ≡ last_note s r whole row
unfolding last_note
last_early at.Opening r w row a b c = refl
last_early at.Blank r w row a b c = refl
last_early at.TensRuler r w row a b c = refl
last_early at.UnitsRuler r w row a b c = refl
last_early at.TopBorder r w row a b c = refl
last_early at.FirstRow r w row a b c = refl
last_early at.InRow r w row a b c = absurd (a refl)
last_early at.RowOrBlank r w row a b c = refl
last_early at.WhereLine r w row a b c = refl
last_early at.LastBlank r w row a b c = refl
last_early at.FirstField r w row a b c = refl
last_early at.FieldLine r w row a b c = absurd (b refl)
last_early at.Lost r w row a b c = absurd (c refl)

pub end_refused : (k : fold.Kept) (out : List ℕ) (a : Answer) → fold.lowest_of k ≡ some a
    → leaves a out ≡ fold.finish k out
unfolding fold.finish
end_refused k out a e = rw e refl

-- ── the table ──

-- what stands in front of a list, in two parts
cut : (t a b : List ℕ) (e : ℕ) → take e t ≡ a ++ b → e ≡ length (a ++ b)
    → (take (length a) t ≡ a) × (take (e - length a) (drop (length a) t) ≡ b)
cut t a b e p n =
    let whole : t ≡ a ++ (b ++ drop e t) =
    sym (take-append-drop e t) ∙ ap (λ (l : List ℕ). l ++ drop e t) p ∙ append_assoc a b (drop e t) in
    let m : e - length a ≡ length b = (let q = length-append a b in omega (arith, n, q)) in (
      ap (take (length a)) whole ∙ take-append_seam a (b ++ drop e t),
      ap (λ (i : ℕ). take i (drop (length a) t)) m
          ∙ ap (λ (l : List ℕ). take (length b) (drop (length a) l)) whole
          ∙ ap (take (length b)) (drop-append_seam a (b ++ drop e t)) ∙ take-append_seam b (drop e t),
    )

size_all : (w n : ℕ) (name body : List ℕ)
    → length (record_of 1 (le2 w ++ (le2 n ++ counted name)) ++ (body ++ record_of 5 []))
    ≡ 14 + (length name + length body)
size_all w n name body =
    let a = le2 w ++ (le2 n ++ counted name) in
    omega (
      arith,
      length-append (record_of 1 a) (body ++ record_of 5 []),
      length-append (le2 (4 + length a)) (le2 1 ++ a),
      length-append (le2 1) a,
      length-append (le2 w) (le2 n ++ counted name),
      length-append (le2 n) (counted name),
      counted_length name,
      length-append body (record_of 5 []),
      length-append (le2 4) (le2 5 ++ []),
      length-append (le2 5) [],
      two_length (4 + length a),
      two_length 1,
      two_length w,
      two_length n,
      two_length 4,
      two_length 5,
    )

module _ (k : fold.Kept) (r : Reading) {cells : List ℕ} {table : Area} {labels : List (List ℕ)} {names : Names}
    (h : Holds k.found r cells table labels names) (clear : fold.lowest_of k ≡ none) (room : Room r) where
  same_fields : h.records.fields ≡ k.found.judged.fields
  same_fields = h.records.stands.exact (lowest_clear k.found.stage k.line k.found clear)

  parts : (take r.name table.bytes ≡ k.found.name)
      × (take (r.end - r.name) (drop r.name table.bytes) ≡ joined plain_field k.found.judged.fields)
  parts =
      let c = cut table.bytes k.found.name (joined plain_field h.records.fields) r.end
      h.records.stored h.records.end in
      let n = h.counts.name in (
        ap (λ (i : ℕ). take i table.bytes) n ∙ c.0,
        ap (λ (i : ℕ). take (r.end - i) (drop i table.bytes)) n ∙ c.1 ∙ ap (joined plain_field) same_fields,
      )

  -- each record with its number
  body_is : numbered r.fields table.counts (take (r.end - r.name) (drop r.name table.bytes))
      ≡ records (readers k.found.judged.fields) 0 k.found.judged.fields
  body_is =
      let fs = k.found.judged.fields in
      let n = h.counts.fields in
      ap₂ (λ (i : ℕ) (l : List ℕ). numbered i table.counts l) n parts.1
      ∙ numbered_all fs table.counts
      (subst (λ (l : List (Field ℕ)). Numbers l table.counts) same_fields h.records.numbers)
      (omega (arith, n, room.fields, room.count))

  table_is : record_of 1 (le2 r.width ++ (le2 r.fields ++ counted (take r.name table.bytes)))
      ++ (numbered r.fields table.counts (take (r.end - r.name) (drop r.name table.bytes))
      ++ record_of 5 []) ≡ stored (fold.found_description k.found)
  unfolding stored_in stored_with head_body
  table_is = rw (body_is, h.counts.width, h.counts.fields, parts.0) refl

  pub table_size : length (stored (fold.found_description k.found)) ≡ 14 + r.end
  table_size =
      let f = k.found in
      let fs = f.judged.fields in
      let body = numbered r.fields table.counts (take (r.end - r.name) (drop r.name table.bytes)) in
      let e = ap length (sym table_is) in
      let s = size_all r.width r.fields (take r.name table.bytes) body in
      let a = ap length parts.0 in
      let b = ap length body_is ∙ records_length (readers fs) 0 fs in
      let c = h.records.end in
      let d = length-append f.name (joined plain_field h.records.fields) in
      let g = ap (λ (l : List (Field ℕ)). length (joined plain_field l)) same_fields in
      omega (arith, e, s, a, b, c, d, g)

  pub end_short : (out : List ℕ) → length out < 14 + r.end → leaves (refused 11 0) out ≡ fold.finish k out
  unfolding fold.finish delivered
  end_short out lt =
      let n = table_size in
      rw (clear, lt-ltb (length out) (length (stored (fold.found_description k.found))) (omega (arith, n, lt))) refl

  pub end_table : (out after : List ℕ) (n : ℕ) → 14 + r.end ≤ length out → TableStep r table out after n
      → leaves (accepted (14 + r.end)) after ≡ fold.finish k out
  unfolding fold.finish delivered
  end_table out after n le w =
      let d = fold.found_description k.found in
      let z = table_size in
      let t : take n after ≡ stored d = w.text ∙ table_is in
      let m : n ≡ length (stored d) = (let q = ap length table_is in omega (arith, w.end, q)) in
      let e : after ≡ overlaid (stored d) out =
      sym (take-append-drop n after) ∙ ap₂ {C = List ℕ} (λ (a b : List ℕ). a ++ b) t
      (w.beyond ∙ ap (λ (i : ℕ). drop i out) m) in
      rw (clear, le-ltb (length out) (length (stored d)) (omega (arith, z, le)), e, z) refl

-- ── the code's writes ──

-- behind the first record there is room for the others
pub record_room : (r : Reading) (table : List ℕ) {out a : List ℕ} {head : ℕ} → Room r → r.end ≤ length table
    → 14 + r.end ≤ length out
    → Writes out 0 (record_of 1 (le2 r.width ++ (le2 r.fields ++ counted (take (r.name - 0) table)))) a head
    → head + length (take (r.end - r.name) (drop r.name table)) ≤ length a
record_room r table {out} {a} {head} k big room w =
    let v : Writes out 0 (record_of 1 (le2 r.width ++ (le2 r.fields ++ counted (take r.name table)))) a head =
    rw (sub-zero r.name) at w in
    omega (
      arith,
      length-take-le r.name table (omega (arith, big, k.front)),
      length-take-le (r.end - r.name) (drop r.name table)
          (omega (arith, big, k.front, length-drop r.name table)),
      head_end r.width r.fields (take r.name table) v,
      v.kept,
      room,
      k.front,
    )

pub put_all : (r : Reading) (table counts : List ℕ) {out a b c d : List ℕ} {head body size n : ℕ} → Room r
    → r.end ≤ length table → 14 + r.end ≤ length out
    → Writes out 0 (record_of 1 (le2 r.width ++ (le2 r.fields ++ counted (take (r.name - 0) table)))) a head
    → body ≡ head + length (take (r.end - r.name) (drop r.name table))
    → Writes a head (numbered r.fields counts (take (r.end - r.name) (drop r.name table))) b body
    → placed size c ≡ put b body (le2 4) → placed n d ≡ put c size (le2 5)
    → TableStep r (area table counts) out d n × (n ≡ 14 + r.end)
put_all r table counts {out} {a} {b} {c} {d} {head} {body} {size} {n} k big room w₁ e₂ w₂ e₃ e₄ =
    let v₁ : Writes out 0 (record_of 1 (le2 r.width ++ (le2 r.fields ++ counted (take r.name table)))) a head =
    rw (sub-zero r.name) at w₁ in
    let name = take r.name table in
    let l₁ = length-take-le r.name table (omega (arith, big, k.front)) in
    let l₂ = length-take-le (r.end - r.name) (drop r.name table)
    (omega (arith, big, k.front, length-drop r.name table)) in
    let h₁ = head_end r.width r.fields name v₁ in
    let w₃ = two_writes 4 (omega (arith, l₁, l₂, h₁, v₁.kept, e₂, w₂.kept, room, k.front)) e₃ in
    let z = two_end 4 w₃ in
    let w₄ = two_writes 5 (omega (arith, l₁, l₂, h₁, v₁.kept, e₂, w₂.kept, w₃.kept, z, room, k.front)) e₄ in
    let y = two_end 5 w₄ in (
      rw (append-nil (le2 5)) (writes_join v₁ (writes_join w₂ (writes_join w₃ w₄))),
      omega (arith, l₁, l₂, h₁, e₂, z, y, k.front),
    )
