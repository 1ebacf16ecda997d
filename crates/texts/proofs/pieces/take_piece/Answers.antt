use native.Mathlib.Omega.{arith}
use Rattle.texts.proofs.JoinedPieces.{over_piece, long_piece, piece_taken}
use Rattle.texts.proofs.pieces.take_piece.Goals as goal

pub returns-then-size-gt-TEXT_MOST : goal.returns-then-size-gt-TEXT_MOST
returns-then-size-gt-TEXT_MOST c =
    let size = c.two_at-size.ensures.0 in
    over_piece c.args.s.now
    c.args.piece.now
    c.requires.0 c.requires.1
    (omega (arith, c.if-size-gt-TEXT_MOST.true, size))

pub returns-then-size-piece : goal.returns-then-size-piece
returns-then-size-piece c =
    let size = c.two_at-size.ensures.0 in
    let few = c.if-size-gt-TEXT_MOST.false in
    let many = c.if-size-piece.true in
    long_piece c.args.s.now
    c.args.piece.now c.requires.0
    c.requires.1
    c.put_two.ensures (omega (arith, few, size))
    (omega (arith, few, many, size))

pub returns : goal.returns
returns c =
    let size = c.two_at-size.ensures.0 in
    let few = c.if-size-gt-TEXT_MOST.false in
    let fit = c.if-size-piece.false in
    let step = c.take_short.ensures in
    piece_taken c.args.s.now c.args.piece.now c.requires.0
    c.requires.1 size (omega (arith, few, fit)) step.around step.step
    c.put_two-2.ensures
