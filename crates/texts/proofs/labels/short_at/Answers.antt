use mathlib.Core.Path.{sym, ◌∙◌}
use native.Mathlib.Omega.{arith}
use Rattle.texts.proofs.FieldNames.{short_room, short_named, short_bare}
use Rattle.texts.proofs.labels.short_at.Goals as goal

pub name_at-requires : goal.name_at-requires
name_at-requires c =
    let a = c.args in
    let y = sym c.starts_at.ensures ∙ c.if-starts_at.true in
    short_room a.s.now a.at (omega arith) y

pub returns-then-starts_at : goal.returns-then-starts_at
returns-then-starts_at c =
    let a = c.args in
    let y = sym c.starts_at.ensures ∙ c.if-starts_at.true in
    let n = c.name_at in
    let both =
    short_named a.s.now a.at (omega arith) n.result y n.ensures.place n.ensures.same in record {
      place = both.0;
      same = both.1;
    }

pub returns : goal.returns
returns c =
    let a = c.args in
    let both =
    short_bare a.s.now a.at (omega arith) (sym c.starts_at.ensures ∙ c.if-starts_at.false) in record {
      place = both.0;
      same = both.1;
    }
