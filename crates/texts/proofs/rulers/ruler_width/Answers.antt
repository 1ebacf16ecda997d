use mathlib.Core.Path.{sym, ◌∙◌}
use mathlib.Core.Bool.{true, false}
use Rattle.rules.specs.Frames.{tens_at}
use Rattle.texts.proofs.FrameLeaves.{width_8, width_16, width_last}
use Rattle.texts.proofs.rulers.ruler_width.Goals as goal

pub returns-then-is_ruler : goal.returns-then-is_ruler
returns-then-is_ruler c =
    width_8 c.args.line.now (sym (c.is_ruler.ensures tens_at (λ k r lt p. p)) ∙ c.if-is_ruler.true)

pub returns-then-is_ruler-2 : goal.returns-then-is_ruler-2
returns-then-is_ruler-2 c =
    width_16 c.args.line.now (sym (c.is_ruler.ensures tens_at (λ k r lt p. p)) ∙ c.if-is_ruler.false)
    (sym (c.is_ruler-2.ensures tens_at (λ k r lt p. p)) ∙ c.if-is_ruler-2.true)

pub returns-then-is_ruler-3 : goal.returns-then-is_ruler-3
returns-then-is_ruler-3 c =
    width_last c.args.line.now true (sym (c.is_ruler.ensures tens_at (λ k r lt p. p)) ∙ c.if-is_ruler.false)
    (sym (c.is_ruler-2.ensures tens_at (λ k r lt p. p)) ∙ c.if-is_ruler-2.false)
    (sym (c.is_ruler-3.ensures tens_at (λ k r lt p. p)) ∙ c.if-is_ruler-3.true)

pub returns : goal.returns
returns c =
    width_last c.args.line.now false (sym (c.is_ruler.ensures tens_at (λ k r lt p. p)) ∙ c.if-is_ruler.false)
    (sym (c.is_ruler-2.ensures tens_at (λ k r lt p. p)) ∙ c.if-is_ruler-2.false)
    (sym (c.is_ruler-3.ensures tens_at (λ k r lt p. p)) ∙ c.if-is_ruler-3.false)
