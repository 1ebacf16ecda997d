use mathlib.Core.Path.{refl, ◌∙◌}
use mathlib.Core.List.{[]}
use native.Mathlib.Omega.{arith}
use Rattle.base.specs.Bytes.{bytes}
use Rattle.rules.specs.Frames.{units, border}
use Rattle.text_laws.specs.FrameReader.{read_tens}
use Rattle.texts.proofs.AreaLaws.{cells_long, table_long}
use Rattle.texts.proofs.LineAreas.{opening_step, more_step}
use Rattle.texts.proofs.StateSteps.{same_nil, no_field, at_stage, head_stage, row_stage}
use Rattle.texts.proofs.StateSteps.{expect_head, width_row_lem}
use Rattle.text_laws.specs.Fold as fold
use Rattle.texts.specs.declared.states.Stage.TheVariants as at
use Rattle.texts.proofs.line_steps.take_head.Goals as goal

pub take_opening-requires : goal.take_opening-requires
take_opening-requires c =
    let held = c.args.held.now in
    let n = table_long held (omega arith) in
    (c.requires.0.0, c.requires.0.1, omega (arith, n))

pub expect-requires : goal.expect-requires
expect-requires c =
    c.requires.0.1

pub take_ruler-requires : goal.take_ruler-requires
take_ruler-requires c =
    (c.requires.0.0, c.requires.0.1)

pub is_units-requires : goal.is_units-requires
is_units-requires c =
    c.requires.0.0.width

pub expect-requires-in-UnitsRuler : goal.expect-requires-in-UnitsRuler
expect-requires-in-UnitsRuler c =
    c.requires.0.1

pub is_border-requires : goal.is_border-requires
is_border-requires c =
    c.requires.0.0.width

pub expect-requires-in-TopBorder : goal.expect-requires-in-TopBorder
expect-requires-in-TopBorder c =
    c.requires.0.1

pub take_row-requires : goal.take_row-requires
take_row-requires c =
    (c.requires.0.0, c.requires.0.1, c.requires.1)

pub take_more-requires : goal.take_more-requires
take_more-requires c =
    let n = cells_long c.args.held.now (omega arith) in (
      c.requires.0.0,
      c.requires.0.1,
      omega (arith, n),
      c.requires.1,
    )

pub take_row_or_blank-requires : goal.take_row_or_blank-requires
take_row_or_blank-requires c =
    (c.requires.0.0, c.requires.0.1, c.requires.1)

pub expect-requires-in-WhereLine : goal.expect-requires-in-WhereLine
expect-requires-in-WhereLine c =
    c.requires.0.1

pub expect-requires-in-LastBlank : goal.expect-requires-in-LastBlank
expect-requires-in-LastBlank c =
    c.requires.0.1

pub returns-in-Opening : goal.returns-in-Opening
returns-in-Opening c =
    let r = c.args.r in
    let l = c.args.line.now in
    let q = c.take_opening.ensures in record {
      room = q.room;
      step = λ counts. opening_step c.args.held.now l r _
          (omega arith) c.in-Opening.is c.take_opening.auto.table
          q.step;
    }

pub returns-in-Blank : goal.returns-in-Blank
unfolding fold.lined_at
returns-in-Blank c =
    let l = c.args.line.now in
    let p = expect_head c.args.r l at.Blank c.in-Blank.is (λ o. refl)
    (λ w. []) at.TensRuler _ c.args.held.now
    c.requires.0.0 (c.is_empty.ensures ∙ same_nil l) (λ f. refl) in record {
      room = rw c.expect.ensures (p.0);
      step = rw c.expect.ensures (p.1);
    }

pub returns-in-TensRuler : goal.returns-in-TensRuler
unfolding fold.lined_at
returns-in-TensRuler c =
    let l = c.args.line.now in
    let q = c.take_ruler.ensures in record {
      room = q.room;
      step = λ counts.
          let held = head_stage c.args.r l at.TensRuler c.in-TensRuler.is
          (λ o. refl) refl (q.step _ _) (λ f o. width_row_lem f (read_tens l) o) in
          held;
    }

pub returns-in-UnitsRuler : goal.returns-in-UnitsRuler
unfolding fold.lined_at
returns-in-UnitsRuler c =
    let l = c.args.line.now in
    let p = expect_head c.args.r l at.UnitsRuler
    c.in-UnitsRuler.is (λ o. refl) units at.TopBorder _
    c.args.held.now
    c.requires.0.0 c.is_units.ensures (λ f. refl) in record {
      room = rw c.expect-in-UnitsRuler.ensures (p.0);
      step = rw c.expect-in-UnitsRuler.ensures (p.1);
    }

pub returns-in-TopBorder : goal.returns-in-TopBorder
unfolding fold.lined_at
returns-in-TopBorder c =
    let l = c.args.line.now in
    let p = expect_head c.args.r l at.TopBorder c.in-TopBorder.is
    (λ o. refl) border at.FirstRow _ c.args.held.now
    c.requires.0.0 c.is_border.ensures (λ f. refl) in record {
      room = rw c.expect-in-TopBorder.ensures (p.0);
      step = rw c.expect-in-TopBorder.ensures (p.1);
    }

pub returns-in-FirstRow : goal.returns-in-FirstRow
unfolding fold.lined_at
returns-in-FirstRow c =
    let q = c.take_row.ensures in record {
      room = q.room;
      step = λ counts.
          let held = row_stage c.args.r
          c.args.line.now at.FirstRow
          c.in-FirstRow.is (λ o. refl) refl
          (q.step _ _) q.row in
          held;
    }

pub returns-in-InRow : goal.returns-in-InRow
returns-in-InRow c =
    let q = c.take_more.ensures in
    let k = c.take_more.auto in record {
      room = q.room;
      step = λ counts. more_step c.args.held.now c.args.line.now
          c.args.r _ (omega arith) c.in-InRow.is k.cells q.step;
    }

pub returns-in-RowOrBlank : goal.returns-in-RowOrBlank
unfolding fold.lined_at
returns-in-RowOrBlank c =
    let q = c.take_row_or_blank.ensures in record {
      room = q.room;
      step = λ counts.
          let held = row_stage c.args.r
          c.args.line.now at.RowOrBlank
          c.in-RowOrBlank.is (λ o. refl) refl
          (q.step _ _) q.row in
          held;
    }

pub returns-in-WhereLine : goal.returns-in-WhereLine
unfolding fold.lined_at
returns-in-WhereLine c =
    let l = c.args.line.now in
    let p = expect_head c.args.r l at.WhereLine
    c.in-WhereLine.is (λ o. refl) (λ w. bytes "where:") at.LastBlank _
    c.args.held.now
    c.requires.0.0 c.same_words.ensures (λ f. refl) in record {
      room = rw c.expect-in-WhereLine.ensures (p.0);
      step = rw c.expect-in-WhereLine.ensures (p.1);
    }

pub returns-in-LastBlank : goal.returns-in-LastBlank
unfolding fold.lined_at
returns-in-LastBlank c =
    let l = c.args.line.now in
    let p = expect_head c.args.r l at.LastBlank c.in-LastBlank.is (λ o. refl)
    (λ w. []) at.FirstField _ c.args.held.now
    c.requires.0.0 (c.is_empty-in-LastBlank.ensures ∙ same_nil l) (λ f. refl) in record {
      room = rw c.expect-in-LastBlank.ensures (p.0);
      step = rw c.expect-in-LastBlank.ensures (p.1);
    }

pub returns-in-FirstField : goal.returns-in-FirstField
returns-in-FirstField c =
    let p = c.requires in
    absurd (no_field c.in-FirstField.is p.2 refl)

pub returns-in-FieldLine : goal.returns-in-FieldLine
returns-in-FieldLine c =
    let p = c.requires in
    absurd (no_field c.in-FieldLine.is p.2 refl)

pub returns-in-Lost : goal.returns-in-Lost
unfolding fold.lined_at
returns-in-Lost c = record {
  room = (c.requires.0.0, omega arith);
  step = λ counts.
      let held = at_stage c.args.r c.args.line.now at.Lost c.in-Lost.is (λ f k e g h. (h, g)) in
      held;
}
