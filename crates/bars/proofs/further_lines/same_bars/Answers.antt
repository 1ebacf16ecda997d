use mathlib.Core.Path.{◌∙◌}
use mathlib.Core.Bool.{beq}
use lib.Dec.{eqb}
use Rattle.std.proofs.lemmas.Iterator.{YieldsList-from_slice, YieldsList-from_zip}
use Rattle.std.proofs.lemmas.Iterator.Search.{all_from_yields_List}
use borrow.Author.Rules.{rules}
use borrow.Author.Tests.{tests}
use Rattle.bars.proofs.BarLaws.{bars_pairs}
use Rattle.bars.proofs.further_lines.same_bars.Goals as goal

pub returns-then-a-b : goal.returns-then-a-b
returns-then-a-b c =
    let a = c.args.a.now in
    let b = c.args.b.now in
    all_from_yields_List (λ q. beq (eqb q.0 124) (eqb q.1 124)) c.all.new.self _ _ c.all.ensures.ran
    (YieldsList-from_zip {s = c.zip.result} (YieldsList-from_slice a (cc)) (YieldsList-from_slice b (cc)))
    (λ x r q k. search (rules, tests)) ∙ bars_pairs a b c.if-a-b.true
