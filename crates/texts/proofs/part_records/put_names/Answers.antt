use Rattle.texts.proofs.PartBytes.{names_put}
use Rattle.texts.proofs.part_records.put_names.Goals as goal

pub returns : goal.returns
returns c =
    let both =
    names_put c.args.line.now c.args.p c.requires.0 c.requires.1 c.put_counted-next.ensures c.put_counted.ensures in
    record {
      end = both.0;
      bytes = both.1;
    }
