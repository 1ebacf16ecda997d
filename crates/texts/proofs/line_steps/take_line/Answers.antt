use mathlib.Core.Path.{refl, sym, ◌∙◌}
use native.Mathlib.Omega.{arith}
use Rattle.text_laws.proofs.LongLines.{long_line}
use Rattle.texts.proofs.StateSteps.{field_lined, field_stage}
use Rattle.texts.proofs.line_steps.take_line.Goals as goal

pub returns-then-line-gt-LINE_MOST : goal.returns-then-line-gt-LINE_MOST
returns-then-line-gt-LINE_MOST c =
    let a = c.args in
    let q = c.cut_line.ensures in record {
      room = q.room;
      step = λ f k g h. rw (long_line f a.line.now k.small c.if-line-gt-LINE_MOST.true)
          (q.step f a.held.now a.counts.now k g h);
    }

pub returns-then-awaits_field : goal.returns-then-awaits_field
returns-then-awaits_field c =
    let a = c.args in
    let f = c.take_field in
    let must = sym c.awaits_field.ensures ∙ c.if-awaits_field.true in record {
      room = f.ensures.room;
      step = field_stage a.r a.line.now a.r.stage refl (λ f. field_lined a.r.stage must f a.line.now) a.held.now
          f.new.held (omega (arith, c.if-line-gt-LINE_MOST.false)) f.ensures.step;
    }

pub take_head-requires : goal.take_head-requires
take_head-requires c =
    let free = sym c.awaits_field.ensures ∙ c.if-awaits_field.false in
    (c.requires.0, c.requires.1, free)

pub returns : goal.returns
returns c =
    let q = c.take_head.ensures in record {
      room = q.room;
      step = q.step c.args.counts.now;
    }
