use native.Mathlib.Omega.{arith}
use Rattle.texts.proofs.EndPieces.{short_ends, long_ends}
use Rattle.texts.proofs.pieces.text_end.Goals as goal

pub returns-then-state-lt-STATE_BYTES : goal.returns-then-state-lt-STATE_BYTES
returns-then-state-lt-STATE_BYTES c =
    let a = c.args in
    let both =
    short_ends a.state.now a.out.now c.if-state-lt-STATE_BYTES.true in record {
      end = both.0;
      place = both.1;
    }

pub returns-then-size-gt-TEXT_MOST : goal.returns-then-size-gt-TEXT_MOST
returns-then-size-gt-TEXT_MOST c =
    let size = c.two_at-size.ensures.0 in
    let a = c.args in
    let both =
    long_ends a.state.now a.out.now (omega (arith, c.if-state-lt-STATE_BYTES.false))
    (omega (arith, c.if-size-gt-TEXT_MOST.true, size)) in record {
      end = both.0;
      place = both.1;
    }
