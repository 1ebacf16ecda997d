use mathlib.Core.Path.{◌≡◌, refl, sym, ◌∙◌, subst}
use mathlib.Core.List.{List}
use Prim.Native.Nat.{ℕ, ◌-◌}
use native.Mathlib.Omega.{arith}
use lib.ListN.{length}
use Rattle.texts.specs.WalkSteps.{WalkedTo}
use Rattle.texts.proofs.JoinLaws.{held_long, held_put, held_back, around_put, around_same}
use Rattle.texts.proofs.LineEnds.{printable_line}
use Rattle.texts.proofs.LineWalk.{bad_left}
use Rattle.texts.proofs.PieceLaws.{around_trans, room_around}
use Rattle.texts.proofs.PieceWalks.{fed_first, walked_first, first_room, bad_first}
use borrow.Author.Rules.{rules}
use Rattle.texts.proofs.pieces.walk_piece.Goals as goal

pub returns-then-piece-e-ne10 : goal.returns-then-piece-e-ne10
returns-then-piece-e-ne10 c =
    let s = c.args.s.now in
    let t = c.args.piece.now in
    let z : length t - length t ≡ 0 = omega arith in record {
      place = search rules;
      room = rw (c.bad_byte.ensures, z) (bad_left (length t) c.args.r (length t) c.args.r
          (c.requires.0.0, omega arith));
      around = around_same s;
      step = rw c.bad_byte.ensures (λ k size free short line is. bad_first k t c.args.e c.requires.3
          c.requires.2 short size is c.if-piece-e-ne10.true);
    }

pub slice_bounds-end_held-end : goal.slice_bounds-end_held-end
slice_bounds-end_held-end c =
    let k = c.requires.2 in omega (arith, k)

pub end_held-q-requires : goal.end_held-q-requires
end_held-q-requires c = (
  c.requires.0.0,
  (let k = c.requires.0.1 in omega (arith, k)),
  c.requires.5,
  c.requires.4,
  printable_line c.args.piece.now 0
      c.args.e c.requires.3,
)

pub overflow_add-e : goal.overflow_add-e
overflow_add-e c =
    let k = c.requires.2 in let n =
    c.requires.1 in omega (arith, k, n)

pub slice_bounds-walk_rest-count : goal.slice_bounds-walk_rest-count
slice_bounds-walk_rest-count c =
    let around = c.end_held-q.ensures.around in
    let room = room_around around c.requires.5 in
    omega (arith, room)

pub slice_bounds-walk_rest-end : goal.slice_bounds-walk_rest-end
slice_bounds-walk_rest-end c =
    let around = c.end_held-q.ensures.around in
    let room = room_around around c.requires.5 in
    omega (arith, room)

pub walk_rest-requires : goal.walk_rest-requires
walk_rest-requires c =
    let around = c.end_held-q.ensures.around in
    let room = room_around around c.requires.5 in
    let q = c.end_held-q.ensures.room in
    let fits = c.requires.0.1 in
    let long = held_long c.end_held-q.new.s room in (
      (let k = c.requires.2 in omega (arith, k)),
      c.requires.1,
      (q.0, (let n = q.1 in let k = c.requires.2 in omega (arith, n, k, fits))),
      long,
    )

pub shape_of-s : goal.shape_of-s
shape_of-s c =
    let around = c.end_held-q.ensures.around in
    let room = room_around around c.requires.5 in
    let k = c.walk_rest.auto.area in
    let s = c.end_held-q.new.s in
    let back = held_back s room c.walk_rest.new.area (k ∙ held_long s room) in
    back ∙ around.long

pub returns : goal.returns
returns c =
    let around = c.end_held-q.ensures.around in
    let room = room_around around c.requires.5 in
    let s = c.end_held-q.new.s in
    let t = c.args.piece.now in
    let w = c.walk_rest.result in
    let q = c.walk_rest.ensures in
    let part = c.walk_rest.new.area in
    let long = c.walk_rest.auto.area ∙ held_long s room in
    let left = q.room.1 in
    let taken = c.end_held-q.ensures.room.1 in
    let lt = c.requires.2 in record {
      place = q.place;
      room = (q.room.0, omega (arith, left, taken, lt));
      around = around_trans around (around_put s room part long);
      step = λ k size free short line is.
          let first = c.end_held-q.ensures.step k.found k.line free short
          line is in
          let to = q.step (fed_first k t c.args.e
          c.requires.3 c.requires.2 short size) refl
          (first_room k t c.args.e c.requires.3
          c.requires.2 short size is) first in
          subst (λ (h : List ℕ). WalkedTo k t 0 w h c.walk_rest.new.row
          c.walk_rest.new.counts) (sym (held_put s room part long))
          (walked_first k t c.args.e c.requires.3
          c.requires.2 short size is c.if-piece-e-ne10.false w to);
    }
