use Rattle.std.proofs.Common.{◌≡◌, true, false, drop, arith, rules}
use Rattle.std.proofs.lemmas.Iterator.{first_from_Range, serves_from_Range}
use borrow.Author.Tests.{tests}
use Rattle.text_laws.specs.LineReader.{label_ends}
use Rattle.texts.proofs.FieldNames.{label_found}
use Rattle.texts.proofs.labels.label_end.Goals as goal

pub find-requires-clause-callable : goal.find-requires-clause-callable
find-requires-clause-callable c =
    serves_from_Range (λ x q k. search (rules, tests)) (λ x low high. omega (arith, high))

pub returns : goal.returns
returns c =
    let s = c.args.s.now in
    let found = label_found s c.args.at c.requires c.find.result
    (first_from_Range _ _ _ _ (λ i. label_ends (drop i s) ≡ true) (λ i. label_ends (drop i s) ≡ false)
    c.find.ensures.ran (λ x q k. search (rules, tests)) (λ x q k. (search rules, search (rules, tests)))) in record {
      place = (omega (arith, c.unwrap_or.ensures, found.0), omega (arith, c.unwrap_or.ensures, found.1));
      rest = rw c.unwrap_or.ensures found.2;
    }
