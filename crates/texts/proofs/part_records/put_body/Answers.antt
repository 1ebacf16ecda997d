use native.Mathlib.Omega.{arith}
use Rattle.writing.proofs.Writing.{writes_join}
use Rattle.texts.proofs.PartBytes.{size_sum}
use Rattle.texts.proofs.part_records.put_body.Goals as goal

pub put_names-named-requires : goal.put_names-named-requires
put_names-named-requires c =
    let q = c.requires in
    (q.0, omega (arith, size_sum c.args.p, q.1))

pub put_width-measured-requires : goal.put_width-measured-requires
put_width-measured-requires c =
    let q = c.requires in
    let n = c.put_names-named.ensures in (
      omega (arith, q.0.width),
      omega (
        arith,
        size_sum c.args.p,
        q.1,
        n.end,
        n.bytes.kept,
      ),
    )

pub put_tree-next-requires : goal.put_tree-next-requires
put_tree-next-requires c =
    let q = c.requires in
    let n = c.put_names-named.ensures in
    let w = c.put_width-measured.ensures in (
      omega (arith, q.0.constraint),
      omega (
        arith,
        size_sum c.args.p,
        q.1,
        n.end,
        n.bytes.kept,
        w.end,
        w.bytes.kept,
      ),
    )

pub put_tree-requires : goal.put_tree-requires
put_tree-requires c =
    let q = c.requires in
    let p = c.args.p in
    let n = c.put_names-named.ensures in
    let w = c.put_width-measured.ensures in
    let t = c.put_tree-next.ensures in (
      omega (arith, q.0.condition),
      omega (arith, size_sum p, q.1, n.end, n.bytes.kept, w.end, w.bytes.kept, t.end, t.bytes.kept),
    )

pub returns : goal.returns
returns c =
    let p = c.args.p in
    let n = c.put_names-named.ensures in
    let w = c.put_width-measured.ensures in
    let t = c.put_tree-next.ensures in
    let u = c.put_tree.ensures in record {
      end = omega (arith, size_sum p, n.end, w.end, t.end, u.end);
      bytes = writes_join n.bytes (writes_join w.bytes (writes_join (rw c.form_length.ensures at t.bytes)
          (rw c.form_length-2.ensures at u.bytes)));
    }
