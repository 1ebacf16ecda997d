use Rattle.texts.proofs.line_counts.keep_field.Goals as goal

pub count_line-requires : goal.count_line-requires
count_line-requires c =
    let w = c.requires.0 in
    (w.width, w.constraint, w.condition)

pub put_field-requires : goal.put_field-requires
put_field-requires c = c.requires

pub returns : goal.returns
returns c =
    let q = c.put_field.ensures in record {
      end = q.end;
      bytes = q.bytes;
      counts = c.count_line.ensures;
    }
