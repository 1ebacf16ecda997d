use mathlib.Core.Path.{refl, sym, ap, ◌∙◌}
use native.Mathlib.Omega.{arith}
use lib.ListN.{length, length-drop}
use lib.Seq.{length-take-le}
use Rattle.packets.proofs.TableSteps.{head_inside}
use Rattle.packets.proofs.WidenSteps.{behind, old_size, widen_start, widen_bad, widen_next, widen_done}
use Rattle.packets.proofs.conversions.widen.Goals as goal

pub slice_bounds-put-end : goal.slice_bounds-put-end
slice_bounds-put-end c =
    sym (length-take-le _ _ (head_inside c.args.table.now c.requires.0 _ c.two_at-head.ensures.0))

pub loop-init : goal.loop-init
loop-init c =
    let head = head_inside c.args.table.now c.requires.0 _ c.two_at-head.ensures.0 in
    let room = c.requires.3 in
    let low = c.requires.2 in
    let w = widen_start c.args.table.now c.args.out.now _ _ _ _ c.two_at-n.ensures.0 c.two_at-head.ensures.0
    head (omega (arith, head, low, room)) c.put-to.ensures in
    record { inside = head; wider = omega (arith, w.0); kept = refl; widening = w.2 }

pub returns-in_err-record : goal.returns-in_err-record
returns-in_err-record c =
    let l = c.loop in
    let none = rw (behind c.args.table.now l.at) at (sym c.in_err-record.ensures.variant) in
    rw c.from_residual.ensures
    (widen_bad c.args.table.now _ l.counter l.at l.out l.to l.invariant.widening c.loop-test.true none)

pub loop-preserved : goal.loop-preserved
loop-preserved c =
    let l = c.loop in
    let old = sym c.in_ok-record.ensures.variant in
    let behind_at = behind c.args.table.now l.at in
    let fits = (old_size _ old).1 in
    let size = ap length c.in_ok-record.ensures.record ∙ length-take-le _ _ fits in
    let more = widen_next c.args.table.now _ l.counter l.at l.out l.to l.invariant.widening c.loop-test.true _ _
    behind_at old c.in_ok-record.ensures.record _ _ c.put_record-to.ensures.bytes in
    record {
      inside = omega (arith, size, fits, ap length behind_at, length-drop l.at c.args.table.now);
      wider = omega (arith, c.put_record-to.ensures.end);
      kept = c.put_record-to.ensures.bytes.kept ∙ l.invariant.kept;
      widening = more;
    }

pub returns : goal.returns
returns c =
    let l = c.loop in
    let len = length-drop l.at c.args.table.now in
    widen_done c.args.table.now _ l.counter l.at l.out _ l.to _ l.invariant.widening (omega arith)
    (omega arith) (omega (arith, len)) l.invariant.inside c.put.ensures
