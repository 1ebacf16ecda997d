use mathlib.Core.Logic.{inl, inr}
use native.Mathlib.Omega.{arith}
use Rattle.texts.proofs.ExprSigns.{sign_within}
use Rattle.texts.proofs.TakenSteps.{taken_none, taken_stop, taken_by}
use mathlib.Core.Path.{◌≡◌}
use Rattle.std.specs.Prelude.{None}
use Rattle.texts.proofs.signs.taken_at.Goals as goal
use Rattle.texts.proofs.signs.taken_at.Goals.{then-row-k-via-then-row-k, then-row-k-via-else-row-k+then-h-row}

pub returns-then-row-k : goal.returns-then-row-k
returns-then-row-k c =
    let p = c.skipped-from in
    let a = c.args in
    let both =
    taken_stop a.s.now a.at p.result a.k a.h _ p.ensures.rest c.sign_at.ensures.same c.in_ok-o.o
    c.in_ok-o.n c.in_ok-o.was _ c.operator-row.ensures
    (elim c.then-row-k.branch [
      | then-row-k-via-then-row-k w ↦ inl (omega (arith, w.if-row-k.true))
      | then-row-k-via-else-row-k+then-h-row w ↦ inr (omega (arith, w.if-h-row.true))
    ]) in record {
      place = both.0;
      same = both.1;
    }

pub skipped-end-requires : goal.skipped-end-requires
skipped-end-requires c =
    (sign_within _ _ _ c.in_ok-o.o c.in_ok-o.n c.in_ok-o.was c.sign_at.ensures.place).1

pub returns-in_err-o : goal.returns-in_err-o
returns-in_err-o c =
    let p = c.skipped-from in
    let a = c.args in
    let gone : c.from_residual.result ≡ None = grind arith in
    let both =
    taken_none a.s.now a.at p.result a.k a.h _ p.ensures.rest c.sign_at.ensures.same
    c.in_err-o.was in record {
      place = rw gone both.0;
      same = rw gone both.1;
    }

pub returns : goal.returns
returns c =
    let p = c.skipped-from in
    let a = c.args in
    let both =
    taken_by a.s.now a.at p.result a.k a.h _ p.ensures.rest c.sign_at.ensures.same c.in_ok-o.o
    c.in_ok-o.n c.in_ok-o.was _ c.operator-row.ensures
    c.if-row-k.false c.if-h-row.false p.ensures.place.0 c.sign_at.ensures.place _
    c.skipped-end.ensures.place.0 c.skipped-end.ensures.place.1 c.skipped-end.ensures.rest in record {
      place = both.0;
      same = both.1;
    }
