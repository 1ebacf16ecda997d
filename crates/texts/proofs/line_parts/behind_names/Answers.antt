use mathlib.Core.Path.{◌≡◌}
use native.Mathlib.Omega.{arith}
use Rattle.std.specs.Prelude.{None}
use Rattle.texts.proofs.PartSteps.{kept_all, own_kept, behind_none, behind_width, behind_whole}
use Rattle.texts.proofs.line_parts.behind_names.Goals as goal

pub returns-in_err-w : goal.returns-in_err-w
returns-in_err-w c =
    let a = c.args in
    let gone : c.from_residual.result ≡ None = grind arith in record {
      kept = kept_all _ a.n;
      same = rw gone (behind_none _ a.n a.s.now a.label a.short a.at _
          (rw c.in_err-w.was at c.width_at.ensures.same));
    }

pub ends_at-requires : goal.ends_at-requires
ends_at-requires c =
    let w = rw c.in_ok-w.was at c.width_at.ensures.place in (
      w.1,
      c.requires.1,
      c.requires.2,
      (let k = c.hold_own.auto.names in omega (arith, k, c.requires.4)),
    )

pub returns-in_err-e : goal.returns-in_err-e
returns-in_err-e c =
    let a = c.args in
    let w = c.in_ok-w.w in
    let own = c.hold_own.ensures in
    let gone : c.from_residual-in_err-e.result ≡ None = grind arith in record {
      kept = own_kept _ a.n a.s.now a.label a.short _ _ own;
      same = rw gone (behind_width _ a.n a.s.now a.label a.short a.at _ _ w
          (rw c.in_ok-w.was at c.width_at.ensures.same) (rw c.in_err-e.was at c.ends_at.ensures));
    }

pub returns : goal.returns
returns c =
    let a = c.args in
    let w = c.in_ok-w.w in
    let own = c.hold_own.ensures in
    let f = c.requires.3 in record {
      kept = own_kept _ a.n a.s.now a.label a.short _ _ own;
      same = rw c.whole_parts.ensures (behind_whole _ a.n a.s.now a.label a.short a.at _ _ w
          (rw c.in_ok-w.was at c.width_at.ensures.same) c.in_ok-e.e (rw c.in_ok-e.was at c.ends_at.ensures)
          f.0 f.1 (rw c.is_fixed.ensures at own));
    }
