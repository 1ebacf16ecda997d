use mathlib.Core.Path.{sym, ap, ◌∙◌}
use mathlib.Core.List.{List}
use Prim.Native.Nat.{ℕ}
use native.Mathlib.Omega.{arith}
use denote.Ref.{Bor}
use Rattle.std.specs.Prelude.{Option, option_copied}
use Rattle.texts.specs.FramePlaces.{answered}
use Rattle.writing.proofs.PutLaws.{put_writes}
use Rattle.texts.proofs.StateSteps.{taken_wrong, holds_wrong, blamed_outside}
use Rattle.texts.proofs.FrameLeaves.{opening_most}
use Rattle.texts.proofs.HeadSteps.{room_name, holds_name}
use Rattle.texts.proofs.head_lines.take_opening.Goals as goal

pub returns-in_default : goal.returns-in_default
returns-in_default c =
    let a = c.args in
    let e = sym c.opening_name.ensures
    ∙ ap (λ (o : Option (Bor (List ℕ))). answered (option_copied o)) c.in_default.is in record {
      room = rw c.wrong.ensures (taken_wrong a.r c.requires.0);
      step = rw c.wrong.ensures ((λ cells counts f labels names k b o h. rw e
          (holds_wrong f a.r h (blamed_outside f.row f.lines o))));
    }

pub returns : goal.returns
returns c =
    let a = c.args in
    let n = c.in-Some.name.now in
    let e = sym c.opening_name.ensures
    ∙ ap (λ (o : Option (Bor (List ℕ))). answered (option_copied o)) c.in-Some.is in
    let le = opening_most a.line.now n e in
    let w = put_writes (omega (arith, le, c.requires.2)) c.put-n.ensures in record {
      room = rw c.onward.ensures ((room_name a.r c.put-n.result c.requires.0 (omega (arith, w.end, le)), omega arith));
      step = rw c.onward.ensures ((λ cells counts f labels names k b o h. rw e (holds_name f a.r h (k.head b) n
          c.put-n.result w)));
    }
