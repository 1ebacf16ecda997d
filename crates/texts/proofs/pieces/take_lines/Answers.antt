use Prim.Native.Nat.{◌-◌}
use native.Mathlib.Omega.{arith}
use lib.ListN.{length, drop, length-drop}
use lib.Seq.{take_all}
use Rattle.texts.specs.RowPlaces.{row_room}
use Rattle.texts.specs.StateNumbers.{row_at}
use Rattle.texts.proofs.KeptStates.{least_used}
use Rattle.texts.proofs.PieceLaws.{around_trans, room_around}
use Rattle.texts.proofs.StateChanges.{part_long}
use Rattle.texts.proofs.TakenPieces.{put_whole, lines_taken}
use borrow.Author.Rules.{rules}
use Rattle.texts.proofs.pieces.take_lines.Goals as goal

pub walk_piece-w-requires : goal.walk_piece-w-requires
walk_piece-w-requires c =
    let p = c.requires in
    let l = c.load-r.ensures.fits in
    let lines = l.1 in (
      (l.0, omega (arith, lines, p.1)),
      omega (arith, p.1),
      p.2,
      p.3,
      omega (arith, c.min-used.ensures),
      p.0,
    )

pub store-requires : goal.store-requires
store-requires c =
    let p = c.requires in
    (room_around c.walk_piece-w.ensures.around p.0, c.walk_piece-w.ensures.room.0.row)

pub overflow_add-size : goal.overflow_add-size
overflow_add-size c =
    let k = c.requires.1 in search (rules, k)

pub add_part-requires : goal.add_part-requires
add_part-requires c =
    let around = around_trans c.walk_piece-w.ensures.around
    c.store.ensures.around in
    (room_around around c.requires.0, c.requires.1)

pub returns : goal.returns
returns c =
    let p = c.requires in
    let s = c.args.s.now in
    let piece = c.args.piece.now in
    let w = c.walk_piece-w.result in
    let walk = c.walk_piece-w.ensures in
    let stored = c.store.ensures in
    let add = c.add_part.ensures in
    let m = part_long row_at row_room s (omega (arith, p.0)) in
    let rest = take_all (length piece - w.at) (drop w.at piece)
    (let n = length-drop w.at piece in omega (arith, n)) in record {
      around = around_trans (around_trans walk.around stored.around) add.around;
      step = λ k eq h. lines_taken s piece c.args.size w p.1
          c.load-r.ensures
          (least_used s c.two_at.ensures.0 c.min-used.ensures)
          (put_whole c.args.row.now _ (omega (arith, m))
          c.put.ensures)
          c.load_counts.ensures walk.place walk.room walk.step
          (omega arith) (omega arith) stored.stored rest add.step k eq h;
    }
