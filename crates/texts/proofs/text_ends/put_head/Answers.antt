use Prim.Native.Nat.{◌+◌}
use native.Mathlib.Omega.{arith}
use lib.ListN.{length}
use Rattle.writing.proofs.Writing.{writes_join}
use Rattle.texts.proofs.RecordLaws.{two_writes, counted_writes, two_end}
use Rattle.texts.proofs.TableLaws.{head_writes}
use Rattle.texts.proofs.text_ends.put_head.Goals as goal

pub returns : goal.returns
returns c =
    let a = c.args in
    let room = c.requires.0 in
    let size = 10 + length a.name.now in
    let w₁ = two_writes size (omega arith) c.put_two-size.ensures in
    let e₁ = two_end size w₁ in
    let w₂ = two_writes 1 (omega (arith, w₁.kept))
    c.put_two-kind.ensures in
    let e₂ = two_end 1 w₂ in
    let w₃ = two_writes a.w (omega (arith, w₁.kept, w₂.kept))
    c.put_two-width.ensures in
    let e₃ = two_end a.w w₃ in
    let w₄ = two_writes a.n (omega (arith, w₁.kept, w₂.kept, w₃.kept))
    c.put_two-count.ensures in
    let e₄ = two_end a.n w₄ in
    let w₅ = counted_writes a.name.now (omega (arith, w₁.kept, w₂.kept, w₃.kept, w₄.kept))
    c.put_counted.ensures in
    head_writes a.w a.n a.name.now
    (writes_join w₁ (writes_join w₂ (writes_join w₃ (writes_join w₄ w₅))))
