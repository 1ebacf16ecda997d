use Rattle.std.proofs.Common.{◌≡◌, true, false, length, refl, ◌∙◌, arith, rules}
use Rattle.std.proofs.lemmas.Iterator.{first_from_Range, serves_from_Range}
use borrow.Author.Tests.{tests}
use Rattle.texts.specs.HeldNames.{names_in, HeldLength}
use Rattle.texts.specs.StoredTrees.{reads_as, look_up}
use Rattle.texts.proofs.NameLengths.{held_length}
use Rattle.texts.proofs.StartLaws.{find_is}
use Rattle.texts.proofs.held_names.look_up.Goals as goal

pub find-requires-clause-callable : goal.find-requires-clause-callable
find-requires-clause-callable c =
    let long : HeldLength c.held_name-held.result (length c.args.w.now) =
    rw c.held_name-held.ensures (held_length c.args.w.now c.requires.2) in
    serves_from_Range (λ x q k. search (rules, tests)) (λ x low high. search (rules, long))

pub returns : goal.returns
unfolding look_up
returns c =
    let a = c.args in
    let is = c.held_name-held.ensures in
    let start = c.walk_start-start.ensures in
    let test = reads_as (names_in a.names.now) c.held_name-held.result in
    let found = find_is test a.n c.walk_start-start.result c.find.result
    (first_from_Range _ _ _ _ (λ i. test i ≡ true) (λ i. test i ≡ false) c.find.ensures.ran
    (λ x q k. search (rules, tests)) (λ x q k. (search rules, search (rules, tests)))) in record {
      place = omega (arith, c.unwrap_or.ensures, found.0);
      found = c.unwrap_or.ensures ∙ found.1 ∙ rw (start, is) refl;
    }
