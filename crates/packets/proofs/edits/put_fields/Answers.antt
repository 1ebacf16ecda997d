use mathlib.Core.Path.{refl, sym, ap, ◌∙◌}
use borrow.Author.Tests.{eqb-true, eqb-false}
use Prim.Native.Nat.{ℕ, ◌-◌}
use native.Mathlib.Omega.{arith}
use Rattle.std.proofs.lemmas.Result.{err_from_is_err_and}
use Rattle.rules.specs.Limits.{fields_most}
use Rattle.packets.proofs.PacketPromises.{good_from, bad_from, good_few}
use Rattle.packets.proofs.PutPromises.{
  put_bad,
  put_none,
  put_beyond,
  put_long,
  put_uncounted,
  may_put,
  good_short,
}
use Rattle.packets.proofs.edits.put_fields.Goals as goal
use Rattle.packets.proofs.edits.put_fields.Goals.{
  then-is_empty-via-then-is_empty,
  then-is_empty-via-else-is_empty+then-n-index,
}

pub returns-in_err-check_table : goal.returns-in_err-check_table
returns-in_err-check_table c =
    let p = err_from_is_err_and c.from_residual.result c.from_residual.ensures.1 in
    rw (p.1, p.2) (put_bad c.args.table.now c.args.records.now c.args.out.now c.args.index
    (bad_from _ _ _ c.check_table.ensures c.in_err-check_table.was))

pub returns-then-is_empty : goal.returns-then-is_empty
returns-then-is_empty c =
    let a = c.args in
    let good = good_from _ _ _ c.check_table.ensures c.in_ok-check_table.was in
    elim c.then-is_empty.branch [
      | then-is_empty-via-then-is_empty w ↦
          put_none a.table.now a.records.now a.out.now a.index good
          (eqb-true _ _ (sym c.is_empty.ensures ∙ w.if-is_empty.true))
      | then-is_empty-via-else-is_empty+then-n-index w ↦
          put_beyond a.table.now a.records.now a.out.now a.index good
          (omega (arith, c.two_at-n.ensures.0, w.if-n-index.true))
    ]

pub overflow_sub-table : goal.overflow_sub-table
overflow_sub-table c =
    let g = (good_from _ _ _ c.check_table.ensures c.in_ok-check_table.was) in
    let l = good_short c.args.table.now g in
    omega (arith, l)

pub returns-then-table-records : goal.returns-then-table-records
returns-then-table-records c =
    put_long c.args.table.now c.args.records.now
    c.args.out.now c.args.index
    (good_from _ _ _ c.check_table.ensures c.in_ok-check_table.was)
    (eqb-false _ _ (sym c.is_empty.ensures ∙ c.if-is_empty.false))
    (omega (arith, c.two_at-n.ensures.0, c.if-n-index.false)) c.if-table-records.true

pub overflow_sub-n : goal.overflow_sub-n
overflow_sub-n c =
    let few = good_few c.args.table.now
    (good_from _ _ _ c.check_table.ensures c.in_ok-check_table.was) in
    omega (arith, few, c.two_at-n.ensures.0)

pub count_records-requires : goal.count_records-requires
count_records-requires c =
    let l = c.if-table-records.false in
    omega (arith, l)

pub returns-in_default : goal.returns-in_default
returns-in_default c =
    put_uncounted c.args.table.now
    c.args.records.now
    c.args.out.now
    c.args.index (good_from _ _ _ c.check_table.ensures c.in_ok-check_table.was)
    (eqb-false _ _ (sym c.is_empty.ensures ∙ c.if-is_empty.false)) (omega (
      arith,
      c.two_at-n.ensures.0,
      c.if-n-index.false,
    )) _
    (ap (λ (m : ℕ). fields_most - m) c.two_at-n.ensures.0) _
    c.count_records.ensures c.in_default.is

pub put_by-requires : goal.put_by-requires
put_by-requires c = (
  may_put c.args.table.now c.args.records.now c.args.out.now
      c.args.index (good_from _ _ _ c.check_table.ensures c.in_ok-check_table.was)
      (eqb-false _ _ (sym c.is_empty.ensures ∙ c.if-is_empty.false)) (omega (
        arith,
        c.two_at-n.ensures.0,
        c.if-n-index.false,
      )) _
      (ap (λ (m : ℕ). fields_most - m) c.two_at-n.ensures.0) _ _
      c.count_records.ensures c.in-Some.is
      c.if-table-records.false,
  refl,
)
