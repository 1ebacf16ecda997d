use Rattle.std.proofs.Common.{Bool, ◌&&◌, refl, sym, ap₂, ◌∙◌, arith}
use Rattle.base.specs.Lists.{all}
use Rattle.texts.proofs.LineEnds.{tested_step}
use Rattle.texts.proofs.text_bytes.are_printable.Goals as goal

pub loop-b-init : goal.loop-b-init
unfolding all
loop-b-init c = refl

pub loop-b-preserved : goal.loop-b-preserved
loop-b-preserved c =
    ap₂ {C = Bool} (λ (x y : Bool). x && y) c.loop-b.invariant c.is_printable-each.ensures
    ∙ sym (tested_step c.args.part.now c.loop-b.b-index (omega arith))
