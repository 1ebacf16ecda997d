use borrow.Author.Tests.{eq-eqb}
use Rattle.texts.proofs.NameLengths.{length_none, length_full, length_ends}
use Rattle.texts.proofs.held_names.has_length.Goals as goal

pub returns-else-names-end-ne0 : goal.returns-else-names-end-ne0
returns-else-names-end-ne0 c =
    let a = c.args in
    let p = c.requires in
    let e = c.if-names-end-ne0.false in
    rw (eq-eqb _ _ e) (length_none a.names.now a.at a.len p.1 p.2 e)

pub returns-then-len-eq-SHORT_MOST : goal.returns-then-len-eq-SHORT_MOST
returns-then-len-eq-SHORT_MOST c =
    let a = c.args in
    let p = c.requires in
    let e = c.if-len-eq-SHORT_MOST.true in
    rw (eq-eqb _ _ e) (length_full a.names.now a.at a.len p.1 p.2 c.if-names-end-ne0.true e)

pub returns-else-len-eq-SHORT_MOST : goal.returns-else-len-eq-SHORT_MOST
returns-else-len-eq-SHORT_MOST c =
    let a = c.args in
    let p = c.requires in
    length_ends a.names.now a.at a.len p.1 p.2 c.if-names-end-ne0.true c.if-len-eq-SHORT_MOST.false
