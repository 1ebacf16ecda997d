use Rattle.texts.proofs.KeptStates.{cut_around, cut_states}
use Rattle.texts.proofs.pieces.cut_state.Goals as goal

pub returns : goal.returns
returns c =
    let p = c.requires in
    let whole = rw c.unwrap.ensures at c.as_array.ensures.cases in
    let q = c.cut_line-q.ensures in
    let load = c.load-r.ensures in
    let save = c.save.ensures in
    let clear = c.clear_parts.ensures in record {
      around = cut_around p.0 p.1 load save clear;
      cut = cut_states p.0 p.1 load save clear q.room (rw whole.same at q.step) q.lines;
    }
