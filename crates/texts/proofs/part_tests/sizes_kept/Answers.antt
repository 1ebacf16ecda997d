use borrow.Author.Rules.{rules}
use borrow.Author.Tests.{tests}
use Rattle.texts.proofs.PartRules.{sizes_are}
use Rattle.texts.proofs.part_tests.sizes_kept.Goals as goal

pub returns-then-is_small_maybe-2 : goal.returns-then-is_small_maybe-2
returns-then-is_small_maybe-2 c = sizes_are c.args.p _ (search (tests, rules))

pub returns-else-is_small_maybe-2 : goal.returns-else-is_small_maybe-2
returns-else-is_small_maybe-2 c = sizes_are c.args.p _ (search (tests, rules))
