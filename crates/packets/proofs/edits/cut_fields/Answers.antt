use mathlib.Core.Path.{refl}
use native.Mathlib.Omega.{arith}
use Rattle.std.proofs.lemmas.Result.{err_from_is_err_and}
use Rattle.packets.proofs.PacketPromises.{good_from, bad_from}
use Rattle.packets.proofs.HavingLaws.{first_some, first_none}
use Rattle.packets.proofs.CutPromises.{cut_bad, cut_empty, cut_beyond, cut_read, may_cut}
use Rattle.packets.proofs.edits.cut_fields.Goals as goal
use Rattle.packets.proofs.edits.cut_fields.Goals.{
  then-last-first-via-then-last-first,
  then-last-first-via-else-last-first+then-n-last,
}

pub returns-in_err-check_table : goal.returns-in_err-check_table
returns-in_err-check_table c =
    let p = err_from_is_err_and c.from_residual.result c.from_residual.ensures.1 in
    rw (p.1, p.2) (cut_bad c.args.table.now c.args.out.now c.args.first c.args.last
    (bad_from _ _ _ c.check_table.ensures c.in_err-check_table.was))

pub returns-then-last-first : goal.returns-then-last-first
returns-then-last-first c =
    let a = c.args in
    let good = good_from _ _ _ c.check_table.ensures c.in_ok-check_table.was in
    elim c.then-last-first.branch [
      | then-last-first-via-then-last-first w ↦ cut_empty a.table.now a.out.now a.first a.last good w.if-last-first.true
      | then-last-first-via-else-last-first+then-n-last w ↦
          cut_beyond a.table.now a.out.now a.first a.last good w.if-last-first.false
          (omega (arith, c.two_at-n.ensures.0, w.if-n-last.true))
    ]

pub returns-in-Some : goal.returns-in-Some
returns-in-Some c =
    let n = c.two_at-n.ensures.0 in
    let p = first_some _ _ _ _ c.first_having.ensures c.in-Some.is in
    cut_read c.args.table.now c.args.out.now
    c.args.first c.args.last
    (good_from _ _ _ c.check_table.ensures c.in_ok-check_table.was) c.if-last-first.false
    (omega (arith, n, c.if-n-last.false)) _ p.0 p.1

pub cut_by-requires : goal.cut_by-requires
cut_by-requires c =
    let n = c.two_at-n.ensures.0 in (
      may_cut c.args.table.now
          c.args.out.now
          c.args.first c.args.last
          (good_from _ _ _ c.check_table.ensures c.in_ok-check_table.was)
          c.if-last-first.false (omega (
            arith,
            n,
            c.if-n-last.false,
          )) _ (first_none _ _ _ c.first_having.ensures c.in_default.is)
          (omega arith),
      refl,
    )
