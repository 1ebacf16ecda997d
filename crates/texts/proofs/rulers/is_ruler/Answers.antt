use Rattle.std.proofs.Common.{sym, ◌∙◌, arith}
use Rattle.texts.proofs.FrameLeaves.{ruler_length, ruler_whole, ruler_told}
use Rattle.texts.proofs.rulers.is_ruler.Goals as goal

pub returns-then-line-n : goal.returns-then-line-n
returns-then-line-n g c = λ at tells. sym (ruler_length at c.args.line.now c.args.n c.if-line-n.true)

pub loop-i-preserved : goal.loop-i-preserved
loop-i-preserved g c = λ at tells.
    let l = c.loop-i in
    let a = c.args in
    l.invariant at tells
    ∙ ruler_told at a.line.now a.n l.each l.i c.column.result (omega arith) (omega arith)
    (tells l.i c.column.result (omega arith) c.column.ensures)

pub returns : goal.returns
returns g c = λ at tells.
    let l = c.loop-i in
    let a = c.args in
    sym (l.invariant at tells
    ∙ ruler_whole at a.line.now a.n l.each l.i (omega arith) (omega arith) (omega arith))
