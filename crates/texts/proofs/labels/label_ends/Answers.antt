use mathlib.Core.Path.{sym, ◌∙◌}
use lib.ListN.{drop}
use Rattle.texts.proofs.FieldNames.{ends_open, ends_colon}
use Rattle.texts.proofs.labels.label_ends.Goals as goal

pub returns-then-starts_at : goal.returns-then-starts_at
returns-then-starts_at c =
    let a = c.args in
    c.if-starts_at.true ∙ sym (ends_open (drop a.at a.s.now) (sym c.starts_at.ensures ∙ c.if-starts_at.true))

pub returns-else-starts_at : goal.returns-else-starts_at
returns-else-starts_at c =
    let a = c.args in
    let n = ends_colon (drop a.at a.s.now) (sym c.starts_at.ensures ∙ c.if-starts_at.false) in
    c.starts_at-else-starts_at.ensures ∙ sym n
