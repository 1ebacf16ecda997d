use native.Mathlib.Omega.{arith}
use Rattle.writing.proofs.Writing.{writes_join}
use Rattle.texts.proofs.RecordLaws.{two_writes, two_end}
use Rattle.texts.proofs.PartBytes.{size_sum, writable_text}
use Rattle.texts.proofs.part_records.put_field.Goals as goal

pub field_size-requires : goal.field_size-requires
field_size-requires c =
    writable_text c.args.p
    c.requires.0
    c.requires.1

pub put_body-requires : goal.put_body-requires
put_body-requires c =
    let q = c.requires in
    let p = c.args.p in
    let sum = size_sum p in
    let size = c.field_size.result in
    let w = two_writes size (omega (arith, sum, q.2)) c.put_two-size.ensures in
    let v = two_writes c.code.result (omega (arith, sum, two_end size w, w.kept, q.2)) c.put_two-kind.ensures in
    let e = two_end c.code.result v in
    let u = two_writes 0 (omega (arith, sum, two_end size w, e, w.kept, v.kept, q.2)) c.put_two-number.ensures in
    (q.0, omega (arith, two_end size w, e, two_end 0 u, w.kept, v.kept, u.kept, q.2))

pub returns : goal.returns
returns c =
    let p = c.args.p in
    let room = c.requires.2 in
    let sum = size_sum p in
    let size = c.field_size in
    let body = c.put_body.ensures in
    let w = two_writes size.result (omega (arith, sum, room)) c.put_two-size.ensures in
    let v = two_writes c.code.result (omega (arith, sum, two_end size.result w, w.kept, room))
    c.put_two-kind.ensures in
    let e = two_end c.code.result v in
    let u = two_writes 0 (omega (arith, sum, two_end size.result w, e, w.kept, v.kept, room))
    c.put_two-number.ensures in record {
      end = omega (arith, two_end size.result w, e, two_end 0 u, body.end);
      bytes = writes_join (rw size.ensures at w) (writes_join (rw c.code.ensures at v) (writes_join u body.bytes));
    }
