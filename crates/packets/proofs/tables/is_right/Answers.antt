use mathlib.Core.Path.{sym, ◌∙◌}
use native.Mathlib.Omega.{arith}
use Rattle.packets.proofs.RightSteps.{gathered_true, right_places, right_numbers}
use Rattle.packets.proofs.tables.is_right.Goals as goal

pub keeps_numbers-requires : goal.keeps_numbers-requires
keeps_numbers-requires g c =
    let p = c.requires in
    let s = c.args.table.now in
    let n = c.two_at.ensures.0 in
    let yes_fields = c.if-has_fields.true in
    let fields = sym c.has_fields.ensures.is ∙ yes_fields in
    let gathered = gathered_true s _ _ yes_fields c.has_fields.ensures.gathered in (
      omega (arith, n),
      omega (arith, n),
      rw n (right_places s _ p.head.0 p.head.1 fields gathered.0),
    )

pub returns-then-has_fields : goal.returns-then-has_fields
returns-then-has_fields g c =
    let p = c.requires in
    let s = c.args.table.now in
    let n = c.two_at.ensures.0 in
    let yes_fields = c.if-has_fields.true in
    let fields = sym c.has_fields.ensures.is ∙ yes_fields in
    let gathered = gathered_true s _ _ yes_fields c.has_fields.ensures.gathered in
    rw fields (right_numbers s _ c.has_fields.new.columns.counts _ c.keeps_numbers.ensures n gathered (omega arith))
