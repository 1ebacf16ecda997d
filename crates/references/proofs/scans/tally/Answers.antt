use mathlib.Core.Path.{refl, sym, ◌∙◌}
use mathlib.Core.List.{[], ◌∷◌}
use Rattle.references.specs.Scans.{references}
use Rattle.references.specs.Tallies.{tallied}
use Rattle.references.proofs.TallyLaws.{tally_next, tally_end}
use Rattle.references.proofs.scans.tally.Goals as goal

pub loop-code-init : goal.loop-code-init
unfolding references
loop-code-init c = (refl, rw c.into_iter-code-iterator.ensures.into_iter_gives refl)

pub loop-code-preserved-in-Some-index_in : goal.loop-code-preserved-in-Some-index_in
loop-code-preserved-in-Some-index_in c =
    let l = c.loop-code in
    let i = c.in-Some-index_in in
    let more = tally_next c.args.own l.counts _ (i.index ∷ []) _ _ c.in-Some.ensures.steps i.ensures in
    (c.count.auto.counts ∙ l.invariant.0, l.invariant.1 ∙ rw c.count.ensures more)

pub loop-code-preserved : goal.loop-code-preserved
unfolding tallied
loop-code-preserved c =
    let l = c.loop-code in
    let more = tally_next c.args.own l.counts _ [] _ _ c.in-Some.ensures.steps c.in_default.ensures in
    (l.invariant.0, l.invariant.1 ∙ more)

pub returns : goal.returns
returns c =
    let l = c.loop-code in
    sym (l.invariant.1 ∙ tally_end c.args.own l.counts _ c.in-None.ensures.steps.0)
