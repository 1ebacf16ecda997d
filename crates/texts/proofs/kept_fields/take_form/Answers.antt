use mathlib.Core.Path.{◌≡◌, refl, sym, ◌∙◌}
use mathlib.Core.Bool.{false}
use Prim.Native.Nat.{◌+◌, ◌<◌}
use native.Mathlib.Omega.{arith}
use Rattle.rules.specs.Limits.{fields_most}
use Rattle.text_laws.specs.Judging.{is_open}
use Rattle.text_laws.specs.Fold as fold
use Rattle.texts.specs.HeldRecords.{BytesRoom}
use Rattle.texts.specs.Noted.{note_of}
use Rattle.texts.proofs.AreaLaws.{labels_long, cells_long, table_long, areas_hold}
use Rattle.texts.proofs.FormAreas.{labelled, label_areas}
use Rattle.texts.proofs.FormAreas.{recorded, record_areas, record_writes}
use Rattle.texts.proofs.FormRules.{form_short, all_formed}
use Rattle.texts.proofs.FieldSteps.{holds_open, holds_closed, holds_named}
use Rattle.texts.proofs.LineForms.{named_with, room_kept, room_refused}
use Rattle.texts.proofs.LineForms.{form_note, rests_here}
use Rattle.texts.proofs.PartBytes.{record_bytes, record_short}
use Rattle.texts.proofs.LineCounts.{line_tallied_lem}
use borrow.Author.Rules.{rules}
use Rattle.texts.proofs.kept_fields.take_form.Goals as goal

pub hold_label-requires : goal.hold_label-requires
hold_label-requires c =
    let q = c.requires in
    let few : c.args.r.fields < fields_most = omega (arith, q.0.0.fields, q.1) in
    let long = labels_long c.args.held.now (omega arith) in
    (q.2.0.label, few, omega (arith, long))

pub later_rule-b-requires : goal.later_rule-b-requires
later_rule-b-requires c =
    let q = c.requires in
    let w = q.2.0 in
    let few : c.args.r.fields < fields_most = omega
    (arith, q.0.0.fields, q.1) in (
      q.0.0,
      q.0.1,
      few,
      (w.label, w.short),
    )

pub keep_field-end-requires : goal.keep_field-end-requires
keep_field-end-requires c =
    let q = c.requires in
    let held = c.args.held.now in
    let few : c.args.r.fields < fields_most = omega
    (arith, q.0.0.fields, q.1) in
    let n = table_long (labelled held (omega arith) c.hold_label.ensures) (omega arith) in
    (q.2.0, q.0.2, omega (arith, q.2.1, q.0.0.end, few, n))

pub next_cell-cell-requires : goal.next_cell-cell-requires
next_cell-cell-requires c =
    let n = cells_long (recorded c.args.held.now (omega arith) c.hold_label.ensures c.keep_field-end.ensures.bytes)
    (omega arith) in
    (c.requires.0.0, omega (arith, n))

pub overflow_add-r : goal.overflow_add-r
overflow_add-r c =
    let q = c.requires.1 in
    let k = c.requires.0.0.fields in
    search (rules, q, k)

pub overflow_add-r-then-is_open : goal.overflow_add-r-then-is_open
overflow_add-r-then-is_open c =
    let q = c.requires.1 in
    let k = c.requires.0.0.fields in
    search (rules, q, k)

pub onward-requires : goal.onward-requires
onward-requires c =
    c.requires.0.1

pub returns-then-is_open : goal.returns-then-is_open
returns-then-is_open c =
    let a = c.args in
    let q = c.requires in
    let held = a.held.now in
    let r = a.r in
    let l = a.line.now in
    let v = a.trees.now in
    let room : BytesRoom v = record { width = omega arith; constraint = omega arith; condition = omega arith } in
    let few : r.fields < fields_most = omega (arith, q.0.0.fields, q.1) in
    let rule = c.later_rule-b in
    let lowest = c.lower-a in
    let put = c.keep_field-end in
    let cell = c.next_cell-cell in
    let own = c.hold_label.ensures in
    let areas = label_areas held (omega arith) own in
    let last = record_areas held (omega arith) own put.ensures.bytes in
    let kept = sym c.is_open.ensures ∙ c.if-is_open.true in record {
      room = rw c.onward.ensures ((
        room_kept r cell.result put.result c.rests-rested.result lowest.result q.0.0
            q.1 cell.ensures.0 (omega (arith, put.ensures.end)) (omega (arith, put.ensures.end, q.2.1))
            (lowest.ensures.place (r.lines + 1) q.0.0.placed rule.ensures.place),
        omega arith,
      ));
      step = rw c.onward.ensures (λ f x k full h is_form small is.
          let nw = named_with l x a.p is f r h.counts few refl h.named own.labels in
          let low = lowest.ensures.lowest ∙ form_note f r x h.counts small
          (rule.ensures.rule f x v k h.counts (rw areas.cells_are h.slots)
          (rw (areas.labels_are, areas.names_are) nw) is_form (rw areas.names_are is)) in
          areas_hold (fold.brief_field f l) _ _ last
          (holds_open f r h x (record {
            cell = cell.ensures.1 f h.counts (rw last.cells_are h.slots);
            writes = rw (record_bytes _ r.fields l x v a.p is q.2.0 room) at (record_writes held
                (omega arith) own put.ensures.bytes);
            short = record_short _ r.fields l x v a.p is q.2.0 room q.2.1;
            tallies = put.ensures.counts ∙ line_tallied_lem _ r.fields l x v a.p is q.2.0 room _;
            rested = c.rests-rested.ensures ∙ rests_here f r x h.counts a.p is;
            named = nw;
          }) k (form_short f k l x is_form) (all_formed f k l x is_form) l lowest.result full is_form low kept));
    }

pub overflow_add-r-2 : goal.overflow_add-r-2
overflow_add-r-2 c =
    let q = c.requires.1 in
    let k = c.requires.0.0.fields in
    search (rules, q, k)

pub onward-requires-2 : goal.onward-requires-2
onward-requires-2 c =
    c.requires.0.1

pub returns : goal.returns
returns c =
    let a = c.args in
    let q = c.requires in
    let r = a.r in
    let l = a.line.now in
    let held = a.held.now in
    let v = a.trees.now in
    let room = q.0.0 in
    let rule = c.later_rule-b in
    let lowest = c.lower-a in
    let own = c.hold_label.ensures in
    let few : r.fields < fields_most = omega (arith, room.fields, q.1) in
    let areas = label_areas held (omega arith) own in
    let shut : is_open (note_of lowest.result) ≡ false = sym c.is_open.ensures ∙
    c.if-is_open.false in record {
      room = rw c.onward-2.ensures ((
        room_refused r lowest.result room q.1
            (lowest.ensures.place (r.lines + 1) room.placed rule.ensures.place),
        omega arith,
      ));
      step = rw c.onward-2.ensures (λ f x k full h is_form small is.
          let nw = named_with l x a.p is f r h.counts few refl h.named own.labels in
          let low = lowest.ensures.lowest ∙ form_note f r x h.counts small
          (rule.ensures.rule f x v k h.counts (rw areas.cells_are h.slots)
          (rw (areas.labels_are, areas.names_are) nw) is_form (rw areas.names_are is)) in
          areas_hold (fold.brief_field f l) _ _ areas
          (holds_closed f r (holds_named f r x h nw) l x lowest.result full is_form low shut));
    }
