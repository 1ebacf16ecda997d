use mathlib.Core.Path.{sym, ◌∙◌}
use Rattle.texts.proofs.FieldNames.{name_yes, name_unclosed, name_no}
use Rattle.texts.proofs.labels.name_at.Goals as goal
use Rattle.texts.proofs.labels.name_at.Goals.{
  else-is_short-via-then-is_short+else-starts_at,
  else-is_short-via-else-is_short,
}

pub returns-then-starts_at : goal.returns-then-starts_at
returns-then-starts_at c =
    let e = c.word_end-end.ensures in
    let both =
    name_yes _ _ _ e.place.0 e.place.1 e.rest (sym c.is_short.ensures ∙ c.if-is_short.true)
    (sym c.starts_at.ensures ∙ c.if-starts_at.true) in record {
      place = both.0;
      same = both.1;
    }

pub returns-clause-same : goal.returns-clause-same
returns-clause-same c =
    let e = c.word_end-end.ensures in
    let is = sym c.is_short.ensures in
    elim c.else-is_short.branch [
      | else-is_short-via-then-is_short+else-starts_at k ↦
          (name_unclosed _ _ _ e.place.0 e.place.1 e.rest (is ∙ k.if-is_short.true)
          (sym k.starts_at.ensures ∙ k.if-starts_at.false)).1
      | else-is_short-via-else-is_short k ↦ (name_no _ _ _ e.place.0 e.place.1 e.rest (is ∙ k.if-is_short.false)).1
    ]
