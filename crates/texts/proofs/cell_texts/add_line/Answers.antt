use Rattle.texts.proofs.CellSteps.{added_bare, added_behind}
use Rattle.texts.proofs.cell_texts.add_line.Goals as goal

pub returns-then-bare : goal.returns-then-bare
returns-then-bare c =
    let f = c.spaces_end-from in
    let t = c.trimmed-len in
    added_bare c.args.chars.now f.result t.result f.ensures.1 t.ensures.0
    t.ensures.1 c.requires c.if-len-eq0.false
    c.if-bare.true c.put.ensures

pub returns : goal.returns
returns c =
    let f = c.spaces_end-from in
    let t = c.trimmed-len
    in
    added_behind c.args.chars.now f.result t.result f.ensures.1
    t.ensures.0
    t.ensures.1 c.requires
    c.if-len-eq0.false
    c.if-bare.false
    c.put-next.ensures c.put-2.ensures
