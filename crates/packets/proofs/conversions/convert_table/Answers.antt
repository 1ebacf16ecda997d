use mathlib.Core.Path.{sym, ◌∙◌}
use native.Mathlib.Omega.{arith}
use Rattle.packets.proofs.ConvertPromises.{refused_long_lem, refused_head, refused_many}
use Rattle.packets.proofs.conversions.convert_table.Goals as goal

pub returns-then-table-gt-OLD_MOST : goal.returns-then-table-gt-OLD_MOST
returns-then-table-gt-OLD_MOST c =
    refused_long_lem c.args.table.now c.args.out.now c.if-table-gt-OLD_MOST.true

pub returns-then-not-is_head : goal.returns-then-not-is_head
returns-then-not-is_head c =
    refused_head c.args.table.now c.args.out.now
    (sym c.is_head.ensures ∙ c.if-not-is_head.true)

pub returns-then-two_at-gt-OLD_FIELDS : goal.returns-then-two_at-gt-OLD_FIELDS
returns-then-two_at-gt-OLD_FIELDS c =
    refused_many c.args.table.now c.args.out.now (omega (
      arith,
      c.two_at.ensures.0,
      c.if-two_at-gt-OLD_FIELDS.true,
    ))

pub convert_by-requires : goal.convert_by-requires
convert_by-requires c =
    let head = sym c.is_head.ensures ∙ c.if-not-is_head.false in (
      head,
      omega (arith, c.two_at.ensures.0, c.if-two_at-gt-OLD_FIELDS.false),
      c.if-table-gt-OLD_MOST.false,
      omega arith,
    )
