use mathlib.Core.Path.{sym, ◌∙◌}
use native.Mathlib.Omega.{arith}
use Rattle.texts.specs.HeldNames.{labels_in, names_in}
use Rattle.texts.proofs.HeldClashes.{clash_start, clash_next, clash_none, clash_here}
use Rattle.texts.proofs.name_clashes.clashes.Goals as goal

pub earlier-init : goal.earlier-init
earlier-init c =
    let a = c.args in
    let b = names_in a.names.now in
    clash_start (labels_in a.labels.now) b.shorts b.words a.n

pub earlier-preserved : goal.earlier-preserved
earlier-preserved c =
    let a = c.args in
    let b = names_in a.names.now in
    clash_next (labels_in a.labels.now) b.shorts b.words a.n c.earlier.i (omega arith) c.earlier.invariant
    (sym c.clash.ensures ∙ c.if-clash.false)

pub returns-then-i-n : goal.returns-then-i-n
returns-then-i-n c =
    let a = c.args in
    let b = names_in a.names.now in
    clash_none (labels_in a.labels.now) b.shorts b.words a.n c.earlier.i (omega arith) c.earlier.invariant

pub returns-then-clash : goal.returns-then-clash
returns-then-clash c =
    let a = c.args in
    let b = names_in a.names.now in
    clash_here (labels_in a.labels.now) b.shorts b.words a.n c.earlier.i (omega arith) c.earlier.invariant
    (sym c.clash.ensures ∙ c.if-clash.true)
