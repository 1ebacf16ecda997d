use mathlib.Core.Path.{refl}
use Rattle.texts.proofs.CutLines.{cut_taken, cut_step}
use Rattle.texts.proofs.text_ends.cut_line.Goals as goal

pub last_note-n-requires : goal.last_note-n-requires
last_note-n-requires c = c.requires

pub returns : goal.returns
returns c =
    let a = c.last_note-n in
    let r = c.args.r in
    let row = c.args.row.now in record {
      room = rw c.staged.ensures (cut_taken r row a.result a.ensures.lowest c.requires.0 a.ensures.place);
      step = rw c.staged.ensures (cut_step r row a.result a.ensures.lowest);
      lines = rw c.staged.ensures (refl);
    }
