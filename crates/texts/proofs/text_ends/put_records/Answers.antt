use Rattle.texts.proofs.RecordNumbers.{put_place, numbered_there}
use Rattle.texts.proofs.text_ends.put_records.Goals as goal

pub slice_bounds-put_numbers-count : goal.slice_bounds-put_numbers-count
slice_bounds-put_numbers-count c =
    let a = c.args in
    (put_place a.out.now a.records.now a.at c.requires c.put-end.ensures).1

pub slice_bounds-put_numbers-start : goal.slice_bounds-put_numbers-start
slice_bounds-put_numbers-start c =
    let a = c.args in
    (put_place a.out.now a.records.now a.at c.requires c.put-end.ensures).1

pub slice_bounds-put_numbers-end : goal.slice_bounds-put_numbers-end
slice_bounds-put_numbers-end c =
    let a = c.args in
    (put_place a.out.now a.records.now a.at c.requires c.put-end.ensures).2

pub returns : goal.returns
returns c =
    let a = c.args in
    let p = c.put_numbers in
    let both =
    numbered_there a.out.now a.records.now a.at c.requires c.put-end.ensures a.n _ _ p.ensures
    p.auto.records in record {
      end = both.0;
      bytes = both.1;
    }
