use Rattle.texts.proofs.PartBytes.{tree_put}
use Rattle.texts.proofs.part_records.put_tree.Goals as goal

pub slice_bounds-put_counted-end : goal.slice_bounds-put_counted-end
slice_bounds-put_counted-end c = c.requires.0

pub returns : goal.returns
returns c =
    let a = c.args in
    let q = c.requires in
    let both =
    tree_put a.len a.tree.now q.0 q.1 c.put_counted.ensures in record {
      end = both.0;
      bytes = both.1;
    }
