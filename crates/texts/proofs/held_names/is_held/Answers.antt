use mathlib.Core.Path.{refl, sym, ◌∙◌}
use borrow.Author.Tests.{eq-eqb, ne_eqb}
use Rattle.texts.proofs.NameAreas.{reads_at}
use Rattle.texts.proofs.held_names.is_held.Goals as goal

pub returns-else-names-i-eq1 : goal.returns-else-names-i-eq1
returns-else-names-i-eq1 c =
    let a = c.args in
    rw (reads_at a.names.now a.held a.i c.requires.0, ne_eqb _ _ c.if-names-i-eq1.false) refl

pub returns-then-is_name : goal.returns-then-is_name
returns-then-is_name c =
    let a = c.args in
    let yes = c.if-is_name.true in
    rw (reads_at a.names.now a.held a.i c.requires.0, eq-eqb _ _ c.if-names-i-eq1.true, sym c.is_name.ensures ∙ yes) yes

pub returns-else-is_name : goal.returns-else-is_name
returns-else-is_name c =
    let a = c.args in
    rw (
      reads_at a.names.now a.held a.i c.requires.0,
      eq-eqb _ _ c.if-names-i-eq1.true,
      sym c.is_name.ensures ∙ c.if-is_name.false,
    )
    c.is_name-else-is_name.ensures
