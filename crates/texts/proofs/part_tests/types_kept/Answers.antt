use borrow.Author.Rules.{rules}
use borrow.Author.Tests.{tests}
use Rattle.texts.proofs.PartRules.{types_are}
use Rattle.texts.proofs.part_tests.types_kept.Goals as goal

pub returns-then-is_type_maybe-2 : goal.returns-then-is_type_maybe-2
returns-then-is_type_maybe-2 c = types_are c.args.p _ (search (tests, rules))

pub returns-else-is_type_maybe-2 : goal.returns-else-is_type_maybe-2
returns-else-is_type_maybe-2 c = types_are c.args.p _ (search (tests, rules))
