use native.Mathlib.Omega.{arith}
use Rattle.texts.proofs.LineWalk.{rest_plain}
use Rattle.texts.proofs.pieces.take_short.Goals as goal

pub returns-then-e-piece : goal.returns-then-e-piece
returns-then-e-piece c =
    let e = c.line_end-e in
    let add = c.add_part.ensures in
    let plain = rest_plain c.args.piece.now 0 e.result e.ensures.first
    (omega (arith, c.if-e-piece.true)) in record {
      around = add.around;
      step = λ k eq h. add.step plain k (omega (arith, eq)) h;
    }

pub returns : goal.returns
returns c = record {
  around = c.take_lines.ensures.around;
  step = c.take_lines.ensures.step;
}
