use Rattle.packets.proofs.WidenSteps.{record_put}
use Rattle.packets.proofs.conversions.put_record.Goals as goal

pub returns : goal.returns
returns c =
    let p = c.requires in
    let both =
    record_put c.args.out.now c.args.old.now c.args.to _ p.0 p.2 c.two_at.ensures.0
    c.put_two-size.ensures c.put_two-kind.ensures c.put_two-number.ensures c.put.ensures in record {
      end = both.0;
      bytes = both.1;
    }
