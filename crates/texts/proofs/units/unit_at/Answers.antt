use mathlib.Core.Path.{ap, ◌∙◌}
use Rattle.texts.specs.FramePlaces.{answered}
use Rattle.texts.proofs.FieldWords.{unit_none, unit_some}
use mathlib.Core.Path.{◌≡◌}
use native.Mathlib.Omega.{arith}
use Rattle.std.specs.Prelude.{None}
use Rattle.texts.proofs.units.unit_at.Goals as goal

pub returns-in_err-u : goal.returns-in_err-u
returns-in_err-u c =
    let a = c.args in
    let w = c.word_end-end in
    let gone : c.from_residual.result ≡ None = grind arith in
    let both =
    unit_none a.s.now a.at w.result w.ensures.place.0 w.ensures.place.1 w.ensures.rest
    (c.unit_of.ensures ∙ ap answered c.in_err-u.was) in record {
      place = rw gone both.0;
      same = rw gone both.1;
    }

pub returns : goal.returns
returns c =
    let a = c.args in
    let w = c.word_end-end in
    let both =
    unit_some a.s.now a.at w.result w.ensures.place.0 w.ensures.place.1 w.ensures.rest c.in_ok-u.u
    (c.unit_of.ensures ∙ ap answered c.in_ok-u.was) in record {
      place = both.0;
      same = both.1;
    }
