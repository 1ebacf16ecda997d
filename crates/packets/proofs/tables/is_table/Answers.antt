use mathlib.Core.Path.{sym, ◌∙◌}
use native.Mathlib.Omega.{arith}
use Rattle.laws.specs.Places.{two_at}
use Rattle.packets.proofs.TableSteps.{head_is_lem, count_most}
use Rattle.packets.proofs.tables.is_table.Goals as goal

pub is_right-requires-else-two_at-le-FEW_FIELDS-clause-room :
    goal.is_right-requires-else-two_at-le-FEW_FIELDS-clause-room
is_right-requires-else-two_at-le-FEW_FIELDS-clause-room c =
    let s = c.args.table.now in
    let most = count_most (two_at s 6) (head_is_lem s (sym c.is_head.ensures ∙ c.if-not-is_head.false)).count in
    (omega (arith, most), omega arith)
