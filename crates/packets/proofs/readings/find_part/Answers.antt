use Rattle.std.proofs.Common.{sym, ◌∙◌, arith}
use Rattle.rules.specs.Stored.{Good}
use Rattle.packets.proofs.PacketPromises.{good_if, bad_if, good_few}
use Rattle.packets.proofs.PartPromises.{part_not_good, part_outside, part_refused, part_found}
use Rattle.packets.proofs.readings.find_part.Goals as goal
use Rattle.packets.proofs.readings.find_part.Goals.{
  Else-is_err,
  then-is_err-via-then-is_err,
  then-is_err-via-else-is_err+then-two_at-index,
}

good : (c : Else-is_err) → Good c.args.table.now
good c = good_if _ _ c.check_table.ensures (sym c.is_err.ensures.value ∙ c.if-is_err.false)

pub returns-then-is_err : goal.returns-then-is_err
returns-then-is_err c =
    elim c.then-is_err.branch [
      | then-is_err-via-then-is_err w ↦
          part_not_good _ _ _ (bad_if _ _ c.check_table.ensures (sym c.is_err.ensures.value ∙ w.if-is_err.true))
      | then-is_err-via-else-is_err+then-two_at-index w ↦
          let g = good_if _ _ c.check_table.ensures (sym c.is_err.ensures.value ∙ w.if-is_err.false) in
          part_outside _ _ _ g (omega (arith, w.two_at.ensures.0))
    ]

pub read_run-requires : goal.read_run-requires
read_run-requires c =
    let g = good (goal.at.read_run-requires c).Else-is_err in
    (omega arith, good_few _ g)

pub slice_bounds-part_at-end : goal.slice_bounds-part_at-end
slice_bounds-part_at-end c = sym c.read_run.auto.run

pub part_at-requires : goal.part_at-requires
part_at-requires c =
    let g = good (goal.at.part_at-requires c).Else-is_err in
    (omega (arith, c.two_at.ensures.0, good_few _ g), omega arith)

pub returns-then-is_ok : goal.returns-then-is_ok
returns-then-is_ok c =
    let g = good (goal.at.returns-then-is_ok c).Else-is_err in
    rw c.part_at.ensures
    (part_found _ _ _ _ _ g c.read_run.ensures (omega (arith, c.two_at.ensures.0))
    (sym c.is_ok.ensures.value ∙ c.if-is_ok.true))

pub returns : goal.returns
returns c =
    let g = good (goal.at.returns c).Else-is_err in
    part_refused _ _ _ _ _ g c.read_run.ensures (sym c.is_ok.ensures.value ∙ c.if-is_ok.false)
