use mathlib.Core.Path.{ap, sym, ◌∙◌}
use Prim.Native.Nat.{ℕ, ◌+◌}
use lib.Dec.{eqb}
use lib.ListN.{length}
use native.Mathlib.Omega.{arith}
use borrow.Author.Tests.{eq-eqb, ne_eqb}
use Rattle.texts.proofs.FieldWords.{remark_empty, remark_other, remark_space}
use Rattle.texts.proofs.LineEnds.{printable_whole}
use Rattle.texts.proofs.phrases.remark_ok.Goals as goal

pub returns-then-at-s : goal.returns-then-at-s
returns-then-at-s c =
    let a = c.args in
    eq-eqb _ _ c.if-at-s.true ∙ sym (remark_empty a.s.now a.at c.if-at-s.true)

pub returns-else-s-at-eq32 : goal.returns-else-s-at-eq32
returns-else-s-at-eq32 c =
    let a = c.args in
    let no = c.if-s-at-eq32.false in
    ne_eqb _ _ no ∙ sym (remark_other a.s.now a.at (omega arith) no)

pub returns-then-s-at-eq32 : goal.returns-then-s-at-eq32
returns-then-s-at-eq32 c =
    let a = c.args in
    let s = a.s.now in
    ap (λ (n : ℕ). eqb n (length s)) c.line_end.ensures.first ∙ printable_whole s (a.at + 1) (omega arith)
    ∙ sym (remark_space a.s.now a.at (omega arith) c.if-s-at-eq32.true)
