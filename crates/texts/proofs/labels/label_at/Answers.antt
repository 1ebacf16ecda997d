use mathlib.Core.Path.{sym, ◌∙◌}
use Rattle.texts.proofs.FieldNames.{label_yes, label_no}
use Rattle.texts.proofs.labels.label_at.Goals as goal

pub returns-then-is_label-clause-same : goal.returns-then-is_label-clause-same
returns-then-is_label-clause-same c =
    let e = c.label_end-end.ensures in
    (label_yes _ _ _ e.place.0 e.place.1 e.rest (sym c.is_label.ensures ∙ c.if-is_label.true)).1

pub returns-clause-same : goal.returns-clause-same
returns-clause-same c =
    let e = c.label_end-end.ensures in
    (label_no _ _ _ e.place.0 e.place.1 e.rest (sym c.is_label.ensures ∙ c.if-is_label.false)).1
