use borrow.Author.Rules.{rules}
use borrow.Author.Tests.{tests}
use Rattle.base.proofs.Library.{all_of_slice}
use Rattle.names.specs.LentNames.{is_label_byte_in}
use Rattle.names.proofs.labels.label_bytes.Goals as goal

pub returns : goal.returns
returns c =
    let a = c.args in
    all_of_slice (is_label_byte_in a.classes.now) a.w.now c.all.ensures.ran (cc) (λ x b q k. search (rules, tests))
