use mathlib.Core.Path.{◌≡◌, sym, ◌∙◌}
use Rattle.std.specs.Prelude.{None}
use native.Mathlib.Omega.{arith}
use Rattle.texts.proofs.ExprSigns.{sign_end, sign_other, sign_none_at, sign_length, sign_at_place}
use Rattle.texts.proofs.signs.sign_at.Goals as goal

pub returns-then-at-s : goal.returns-then-at-s
returns-then-at-s c = let both =
    sign_end _ _ c.if-at-s.true in record {
      place = both.0;
      same = both.1;
    }

pub returns-then-not-is_operator : goal.returns-then-not-is_operator
returns-then-not-is_operator c =
    let s = c.args.s.now in
    let at = c.args.at in
    let both =
    sign_other s at (omega arith)
    (sym c.is_operator.ensures ∙ c.if-not-is_operator.true) in record {
      place = both.0;
      same = both.1;
    }

pub overflow_add-result : goal.overflow_add-result
overflow_add-result c =
    let k = sign_length c.args.s.now c.args.at (omega arith)
    c.byte_of.result c.symbol_of.result
    c.byte_of.ensures c.symbol_of.ensures c.in_ok-o.o
    c.in_ok-o.n c.in_ok-o.was in
    omega (arith, k.1)

pub returns-in_err-o : goal.returns-in_err-o
returns-in_err-o c =
    let gone : c.from_residual.result ≡ None = grind arith in
    let both =
    sign_none_at c.args.s.now c.args.at (omega arith) c.byte_of.result c.symbol_of.result c.byte_of.ensures
    c.symbol_of.ensures c.in_err-o.was in record {
      place = rw gone both.0;
      same = rw gone both.1;
    }

pub returns : goal.returns
returns c =
    let both =
    sign_at_place c.args.s.now c.args.at (omega arith) c.byte_of.result c.symbol_of.result c.byte_of.ensures
    c.symbol_of.ensures c.in_ok-o.o c.in_ok-o.n c.in_ok-o.was in record {
      place = both.0;
      same = both.1;
    }
