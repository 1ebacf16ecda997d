use native.Mathlib.Omega.{arith}
use mathlib.Core.Path.{◌≡◌}
use Rattle.std.specs.Prelude.{None}
use Rattle.texts.proofs.AtomSteps.{atom_end, atom_bang, atom_paren, atom_word}
use Rattle.texts.proofs.atoms.atom_at.Goals as goal

pub returns-then-at-s : goal.returns-then-at-s
returns-then-at-s c =
    let a = c.args in
    atom_end a.s.now a.at a.b c.if-at-s.true

pub returns-in_err-from : goal.returns-in_err-from
returns-in_err-from c =
    let a = c.args in
    let gone : c.from_residual.result ≡ None = grind arith in
    rw gone (atom_bang a.s.now a.at a.b (omega arith) c.if-c-eq33.true _ (rw c.in_err-from.was at c.open_at.ensures))

pub returns-then-c-eq33 : goal.returns-then-c-eq33
returns-then-c-eq33 c =
    let a = c.args in
    atom_bang a.s.now a.at a.b (omega arith) c.if-c-eq33.true _ (rw c.in_ok-from.was at c.open_at.ensures)

pub returns-in_err-from-2 : goal.returns-in_err-from-2
returns-in_err-from-2 c =
    let a = c.args in
    let gone : c.from_residual-in_err-from-2.result ≡ None = grind arith in
    rw gone (atom_paren a.s.now a.at a.b (omega arith) c.if-c-eq40.true _
    (rw c.in_err-from-2.was at c.open_at-then-c-eq40.ensures))

pub returns-then-c-eq40 : goal.returns-then-c-eq40
returns-then-c-eq40 c =
    let a = c.args in
    atom_paren a.s.now a.at a.b (omega arith) c.if-c-eq40.true _
    (rw c.in_ok-from-2.was at c.open_at-then-c-eq40.ensures)

pub returns : goal.returns
returns c =
    let a = c.args in
    atom_word a.s.now a.at a.b (omega arith) c.if-c-eq33.false c.if-c-eq40.false
