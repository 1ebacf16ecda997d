use Rattle.std.proofs.Common.{List, ℕ, eqb, length, take, drop, ap, ◌∙◌}
use Rattle.std.specs.Cmp.Lexicographic.{pointwise}
use Rattle.texts.proofs.FrameLeaves.{take_rest}
use Rattle.texts.proofs.FieldWords.{begins_front}
use Rattle.texts.proofs.phrases.starts_at.Goals as goal

pub returns : goal.returns
returns c =
    let s = c.args.s.now in
    let w = c.args.word.now in
    c.starts_with.ensures.value
    ∙ ap (λ (l : List ℕ). pointwise eqb w (take (length w) l)) (take_rest c.args.at s)
    ∙ begins_front w (drop c.args.at s)
