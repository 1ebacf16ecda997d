use mathlib.Core.Path.{sym, ◌∙◌}
use Prim.Native.Nat.{◌+◌, ◌*◌}
use native.Mathlib.Omega.{arith}
use native.Mathlib.Nat.{sub-zero}
use Rattle.writing.proofs.PutLaws.{put_writes}
use Rattle.texts.specs.RowPlaces.{slots_at}
use Rattle.texts.proofs.MoreSteps.{behind_line, behind_bad, behind_border, behind_wrong}
use Rattle.texts.proofs.RowLines.{goes_size}
use Rattle.texts.proofs.RowSteps.{row_wrong, row_put, labels_all, room_line, room_ended}
use Rattle.texts.proofs.StateSteps.{taken_wrong, taken_wrong_row}
use borrow.Author.Rules.{rules}
use Rattle.texts.proofs.head_lines.take_more.Goals as goal

pub overflow_mul-size : goal.overflow_mul-size
overflow_mul-size c = let q = c.requires.0.width in search (rules, q)

pub overflow_add-size : goal.overflow_add-size
overflow_add-size c = let q = c.requires.0.width in search (rules, q)

pub slice_bounds-goes_on-end : goal.slice_bounds-goes_on-end
slice_bounds-goes_on-end c = let q = c.requires.0.width in omega (arith, q)

pub overflow_mul-n : goal.overflow_mul-n
overflow_mul-n c =
    let q = c.requires.0.row in search (rules, q)

pub overflow_add-r : goal.overflow_add-r
overflow_add-r c =
    let q = c.requires.0.row in search (rules, q)

pub onward-requires : goal.onward-requires
onward-requires c =
    c.requires.1

pub returns-then-goes_on : goal.returns-then-goes_on
returns-then-goes_on c =
    let r = c.args.r in
    let l = c.args.line.now in
    let row = c.args.row.now in
    let safe = c.requires.0 in
    let goes = rw (sub-zero (2 * r.width + 1)) at (sym c.goes_on.ensures ∙ c.if-goes_on.true) in
    let size = goes_size r.row (2 * r.width + 1) row l goes (omega (arith, safe.width)) in
    let w = put_writes (omega (arith, safe.width, safe.row, size.1)) c.put.ensures in record {
      room = rw c.onward.ensures ((room_line r (r.row + 1) safe (omega (arith, size.0)), omega arith));
      step = rw c.onward.ensures (λ f x table labels names k b is kept h.
          behind_line f x r l k is kept h (omega arith) c.requires.3 goes safe size.1 w);
    }

pub returns-in_default : goal.returns-in_default
returns-in_default c =
    let r = c.args.r in
    let l = c.args.line.now in
    let row = c.args.row.now in
    let safe = c.requires.0 in
    let stops = rw (sub-zero (2 * r.width + 1)) at (sym c.goes_on.ensures ∙ c.if-goes_on.false) in
    let q = row_wrong row r.row (2 * r.width + 1) c.args.cells.now _ r.slots _ c.put_row.ensures
    c.in_default.is in record {
      room = rw c.wrong_row.ensures (taken_wrong_row r safe);
      step = rw c.wrong_row.ensures (λ f x table labels names k b is kept h. behind_bad f x r l k is kept h
          (omega arith)
          c.requires.3 stops q.0 q.1);
    }

pub is_border-requires : goal.is_border-requires
is_border-requires c =
    c.requires.0.width

pub end_row-requires : goal.end_row-requires
end_row-requires c =
    (c.requires.0, c.requires.1)

pub returns-then-is_border : goal.returns-then-is_border
returns-then-is_border c =
    let r = c.args.r in
    let l = c.args.line.now in
    let row = c.args.row.now in
    let safe = c.requires.0 in
    let stops = rw (sub-zero (2 * r.width + 1)) at (sym c.goes_on.ensures ∙ c.if-goes_on.false) in
    let p = row_put row r.row (2 * r.width + 1) c.args.cells.now _ r.slots _ c.put_row.ensures _ _
    c.in-Some.is in record {
      room = rw c.end_row.ensures (room_ended r _ _ (slots_at row r.row (2 * r.width + 1) 1) safe
          (labels_all row r.row (2 * r.width + 1) p.labels) p.is_count p.writes);
      step = rw c.end_row.ensures (λ f x table labels names k b is kept h. behind_border f x r l k is kept h
          (omega arith)
          c.requires.3 stops p.labels
          p.writes safe c.requires.2 b (sym c.is_border.ensures ∙ c.if-is_border.true) _ p.is_count);
    }

pub wrong-requires : goal.wrong-requires
wrong-requires c =
    c.requires.1

pub returns : goal.returns
returns c =
    let r = c.args.r in
    let l = c.args.line.now in
    let row = c.args.row.now in
    let safe = c.requires.0 in
    let stops = rw (sub-zero (2 * r.width + 1)) at (sym c.goes_on.ensures ∙ c.if-goes_on.false) in
    let p = row_put row r.row (2 * r.width + 1) c.args.cells.now _ r.slots _ c.put_row.ensures _ _
    c.in-Some.is in record {
      room = rw c.wrong.ensures (taken_wrong r safe);
      step = rw c.wrong.ensures (λ f x table labels names k b is kept h. behind_wrong f x r l k is kept h (omega arith)
          c.requires.3 stops p.labels
          p.writes safe c.requires.2 (sym c.is_border.ensures ∙ c.if-is_border.false));
    }
