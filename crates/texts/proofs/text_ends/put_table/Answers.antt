use Prim.Native.Nat.{◌-◌, ◌≤◌}
use native.Mathlib.Omega.{arith}
use lib.ListN.{length}
use lib.Seq.{length-take-le}
use Rattle.texts.proofs.EndSteps.{record_room, put_all}
use borrow.Author.Rules.{rules}
use Rattle.texts.proofs.text_ends.put_table.Goals as goal

pub slice_bounds-put_head-end : goal.slice_bounds-put_head-end
slice_bounds-put_head-end c = let k = c.requires.0 in let q = k.name in let z =
    c.requires.1 in search (rules, q, z)

pub put_head-head-requires : goal.put_head-head-requires
put_head-head-requires c =
    let a = c.args in
    let k = c.requires.0 in
    let n = length-take-le (a.r.name - 0) a.table.now (omega
    (arith, k.name, c.requires.1)) in
    (omega (arith, n, k.front, c.requires.2), omega (arith, n, k.name))

pub slice_bounds-put_records-count : goal.slice_bounds-put_records-count
slice_bounds-put_records-count c = let q = c.requires.0.front
    in search (rules, q)

pub slice_bounds-put_records-start : goal.slice_bounds-put_records-start
slice_bounds-put_records-start c = let q = c.requires.0.front in search (rules, q)

pub slice_bounds-put_records-end : goal.slice_bounds-put_records-end
slice_bounds-put_records-end c =
    let k = c.requires.0 in
    omega (arith, k.end, k.fields, k.count, c.requires.1)

pub put_records-body-requires : goal.put_records-body-requires
put_records-body-requires c =
    let k = c.requires.0 in
    let t = c.args.table.now in
    let big : c.args.r.end ≤ length t = omega (arith, k.end, k.fields, k.count, c.requires.1) in
    record_room c.args.r t k big c.requires.2 c.put_head-head.ensures

pub returns : goal.returns
returns c =
    let a = c.args in
    let r = a.r in
    let t = a.table.now in
    let k = c.requires.0 in
    let big : r.end ≤ length t = omega (arith, k.end, k.fields, k.count, c.requires.1) in
    let put = c.put_records-body.ensures in
    let both =
    put_all r t a.counts.now k big c.requires.2 c.put_head-head.ensures put.end put.bytes c.put_two-size.ensures
    c.put_two.ensures in record {
      bytes = both.0;
      end = both.1;
    }
