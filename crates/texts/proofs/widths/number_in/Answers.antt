use mathlib.Core.Path.{◌∙◌}
use Rattle.texts.proofs.NumberTrees.{number_at}
use Rattle.texts.proofs.NumberWords.{number_default}
use Rattle.texts.proofs.widths.number_in.Goals as goal

pub returns-clause-same : goal.returns-clause-same
returns-clause-same c =
    let a = c.args in
    let p = c.past_open-from in
    let e = c.word_end-end in
    number_at a.s.now a.at p.result e.result p.ensures.rest e.ensures.place.0 e.ensures.place.1
    e.ensures.rest c.unwrap_or.result
    (λ y. c.unwrap_or.ensures ∙ number_default _ c.number_of.result c.number_of.ensures.same y)
