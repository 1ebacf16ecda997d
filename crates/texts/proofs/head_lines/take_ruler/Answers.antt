use mathlib.Core.Path.{sym, ap, ◌∙◌}
use Prim.Native.Nat.{ℕ}
use native.Mathlib.Omega.{arith}
use Rattle.std.specs.Prelude.{Option}
use Rattle.texts.specs.FramePlaces.{answered}
use Rattle.texts.proofs.FrameLeaves.{width_most}
use Rattle.texts.proofs.StateSteps.{taken_wrong, holds_wrong, blamed_outside}
use Rattle.texts.proofs.HeadSteps.{room_width, holds_width}
use Rattle.texts.proofs.head_lines.take_ruler.Goals as goal

pub returns-in_default : goal.returns-in_default
returns-in_default c =
    let a = c.args in
    let e = sym c.ruler_width.ensures ∙ ap (λ (o : Option ℕ). answered o) c.in_default.is in record {
      room = rw c.wrong.ensures (taken_wrong a.r c.requires.0);
      step = rw c.wrong.ensures ((λ cells table f labels names k b o h. rw e
          (holds_wrong f a.r h (blamed_outside f.row f.lines o))));
    }

pub returns : goal.returns
returns c =
    let a = c.args in
    let w = c.in-Some.w in
    let e = sym c.ruler_width.ensures ∙ ap (λ (o : Option ℕ). answered o) c.in-Some.is in record {
      room = rw c.onward.ensures ((room_width a.r w c.requires.0 (width_most a.line.now w e), omega arith));
      step = rw c.onward.ensures ((λ cells table f labels names k b o h. rw e (holds_width f a.r h o w)));
    }
