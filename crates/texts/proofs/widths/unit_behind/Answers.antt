use mathlib.Core.Path.{sym, ◌∙◌}
use native.Mathlib.Omega.{arith}
use Rattle.texts.proofs.FieldWidths.{spaced_room, spaced_yes, spaced_no}
use Rattle.texts.proofs.widths.unit_behind.Goals as goal

pub unit_at-requires : goal.unit_at-requires
unit_at-requires c =
    let a = c.args in
    let y = sym c.starts_at.ensures ∙ c.if-starts_at.true in
    spaced_room a.s.now a.at (omega arith) y

pub returns-then-starts_at : goal.returns-then-starts_at
returns-then-starts_at c =
    let a = c.args in
    let y = sym c.starts_at.ensures ∙ c.if-starts_at.true in
    let t = c.unit_at in
    let both =
    spaced_yes a.s.now a.at (omega arith) t.result y t.ensures.place t.ensures.same in record {
      place = both.0;
      same = both.1;
    }

pub returns : goal.returns
returns c =
    let a = c.args in
    let both =
    spaced_no a.s.now a.at (omega arith) (sym c.starts_at.ensures ∙ c.if-starts_at.false) in record {
      place = both.0;
      same = both.1;
    }
