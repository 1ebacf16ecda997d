use Rattle.std.specs.Prelude.{Some}
use Rattle.texts.specs.declared.notes.Note.TheVariants.{TooMany}
use mathlib.Core.Path.{◌≡◌, refl, ap, sym, ◌∙◌}
use mathlib.Core.Bool.{false}
use Prim.Native.Nat.{◌+◌}
use native.Mathlib.Omega.{arith}
use Rattle.base.specs.Lists.{all}
use Rattle.rules.specs.Trees.{is_small}
use Rattle.rules.specs.Fields.{trees}
use Rattle.text_laws.specs.Judging.{is_open}
use Rattle.texts.specs.Noted.{note_of}
use Rattle.texts.proofs.StateSteps.{taken_onward}
use Rattle.texts.proofs.AreaLaws.{names_long}
use Rattle.texts.proofs.LineAreas.{named_areas, named_holds}
use Rattle.texts.proofs.FieldSteps.{full_same, holds_full, holds_formless, holds_closed}
use Rattle.texts.proofs.LineForms.{full_room, large_note, shut_six}
use Rattle.texts.proofs.LineForms.{field_most, line_formed, parts_writable}
use Rattle.texts.specs.declared.states.Stage.TheVariants as at
use Rattle.texts.proofs.kept_fields.take_field.Goals as goal

pub too_many-requires : goal.too_many-requires
too_many-requires c = c.requires.1

pub returns-then-is_full : goal.returns-then-is_full
returns-then-is_full c =
    let r = c.args.r in record {
      room = rw c.too_many.ensures (taken_onward r at.FieldLine (Some TooMany) (omega arith)
          c.requires.0);
      step = rw c.too_many.ensures (λ f k h. holds_full f r h c.args.line.now
          (sym (full_same f r h.counts) ∙ sym c.is_full.ensures ∙ c.if-is_full.true));
    }

pub parts_of-requires : goal.parts_of-requires
parts_of-requires c =
    let few = full_room c.args.r
    (sym c.is_full.ensures ∙ c.if-is_full.false) in (
      c.requires.2,
      omega (arith, few, c.requires.0.fields),
      (let n = names_long c.args.held.now (omega arith) in omega (arith, n)),
    )

pub refuse_line-requires : goal.refuse_line-requires
refuse_line-requires c = (
  c.requires.0,
  c.requires.1,
  full_room c.args.r (sym c.is_full.ensures ∙
      c.if-is_full.false),
  omega arith,
)

pub returns-in_default : goal.returns-in_default
returns-in_default c =
    let r = c.args.r in
    let l = c.args.line.now in
    let held = c.args.held.now in
    let o = c.parts_of.ensures in
    let same = c.parts_of.auto.names in
    let e = rw c.in_default.is at o.same in
    let q = c.refuse_line.ensures in record {
      room = q.room;
      step = λ f k h. rw q.same (holds_formless f r (named_holds held (omega arith) o.kept same f r _
          refl h) l
          c.refuse_line.result.note
          (sym (full_same f r h.counts) ∙ sym c.is_full.ensures ∙
          c.if-is_full.false) e q.note);
    }

pub take_form-requires : goal.take_form-requires
take_form-requires c =
    let r = c.args.r in
    let l = c.args.line.now in
    let held = c.args.held.now in
    let p = c.in-Some.p in
    let o = c.parts_of.ensures in
    let x = rw c.in-Some.is at o.same in
    let small = sym (c.sizes_kept.ensures _ r.fields l x.form _ x.held_parts) ∙
    c.if-sizes_kept.true in (
      (
        c.requires.0,
        c.requires.1,
        c.requires.2,
      ),
      full_room r (sym c.is_full.ensures ∙ c.if-is_full.false),
      (
        parts_writable _ r.fields l x.form _ p x.held_parts small,
        field_most _ r.fields l x.form _ p x.held_parts small (line_formed l x.form x.is_read),
      ),
    )

pub returns-then-sizes_kept : goal.returns-then-sizes_kept
returns-then-sizes_kept c =
    let r = c.args.r in
    let l = c.args.line.now in
    let held = c.args.held.now in
    let p = c.in-Some.p in
    let o = c.parts_of.ensures in
    let same = c.parts_of.auto.names in
    let x = rw c.in-Some.is at o.same in
    let small = sym (c.sizes_kept.ensures _ r.fields l x.form _ x.held_parts)
    ∙ c.if-sizes_kept.true in
    let q = c.take_form.ensures in
    let areas = named_areas held (omega arith) o.kept same in record {
      room = q.room;
      step = λ f k h. q.step f x.form k
          (sym (full_same f r h.counts) ∙ sym c.is_full.ensures ∙
          c.if-is_full.false)
          (named_holds held (omega arith) o.kept same f r _ refl h) x.is_read small
          (rw areas.names_are x.held_parts);
    }

pub refuse_line-requires-2 : goal.refuse_line-requires-2
refuse_line-requires-2 c = (
  c.requires.0,
  c.requires.1,
  full_room c.args.r (sym c.is_full.ensures ∙ c.if-is_full.false),
  omega arith,
)

pub returns : goal.returns
returns c =
    let r = c.args.r in
    let l = c.args.line.now in
    let held = c.args.held.now in
    let p = c.in-Some.p in
    let o = c.parts_of.ensures in
    let same = c.parts_of.auto.names in
    let x = rw c.in-Some.is at o.same in
    let q = c.refuse_line-2.ensures in
    let large : all is_small (trees x.form) ≡ false =
    sym (c.sizes_kept.ensures _ r.fields l x.form _ x.held_parts) ∙ c.if-sizes_kept.false in record {
      room = q.room;
      step = λ f k h. rw q.same (holds_closed f r (named_holds held (omega arith) o.kept
          same f r _ refl h) l x.form
          c.refuse_line-2.result.note
          (sym (full_same f r h.counts) ∙ sym c.is_full.ensures ∙
          c.if-is_full.false) x.is_read
          (q.note ∙ large_note f r x.form h.counts large)
          (ap is_open q.note ∙ shut_six (note_of r.note) (r.lines + 1)));
    }
