use Rattle.writing.proofs.DigitLaws.{digits_part}
use Rattle.writing.proofs.decimals.put_decimal.Goals as goal

pub returns : goal.returns
returns c =
    let d = c.digits_of-digits in
    rw (digits_part d.result.text d.result.start c.args.number d.ensures.0 d.ensures.2)
    at c.put.ensures
