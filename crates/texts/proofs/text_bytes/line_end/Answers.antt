use Rattle.std.proofs.Common.{List, ℕ, take, sym, ap, ◌∙◌, arith}
use Rattle.base.specs.Lists.{all}
use Rattle.rules.specs.Names.{is_printable}
use Rattle.texts.specs.LineEnds.{stride}
use Rattle.texts.proofs.FrameLeaves.{take_rest}
use Rattle.texts.proofs.LineEnds.{printable_steps}
use Rattle.texts.proofs.text_bytes.line_end.Goals as goal

pub loop-part-preserved : goal.loop-part-preserved
loop-part-preserved c =
    let l = c.loop-part in
    let t = c.args.text.now in
    let h = c.in-Some.ensures.cases in
    let e = h.same ∙ ap (λ (s : List ℕ). take stride s) (take_rest l.i t) in
    let y = ap (all is_printable) (sym e) ∙ sym c.are_printable.ensures ∙ c.if-not-are_printable.false in
    let q = printable_steps t l.i stride (omega arith) y in
    (omega arith, omega arith, omega (arith, q, l.invariant.2))
