use Rattle.std.proofs.Common.{not, ◌-◌, length, take, drop, rules}
use Rattle.std.proofs.lemmas.Iterator.{YieldsList-from_slice}
use Rattle.std.proofs.lemmas.Iterator.Search.{position_from_yields_List}
use borrow.Author.Tests.{tests}
use Rattle.rules.specs.Names.{is_word_byte}
use Rattle.texts.proofs.FirstPlaces.{stops, word_place}
use Rattle.texts.proofs.leaves.word_end.Goals as goal

pub returns : goal.returns
returns c =
    let a = c.args in
    let s = a.s.now in
    let q = position_from_yields_List (λ b. not (is_word_byte b)) _ _ c.position.result c.position.ensures.ran
    (YieldsList-from_slice (take (length s - a.at) (drop a.at s)) cc) (λ x b q k. search (rules, tests)) in
    let z = stops (λ b. not (is_word_byte b)) s a.at c.requires c.position.result q _ c.unwrap_or.ensures _
    (word_place (drop a.at s)) in record {
      place = (z.0, z.1);
      rest = z.2;
    }
