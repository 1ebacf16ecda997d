use mathlib.Core.Path.{sym, ◌∙◌}
use borrow.Author.Tests.{eqb-true}
use Rattle.texts.proofs.JoinedPieces.{short_piece, empty_piece}
use Rattle.texts.proofs.pieces.text_piece.Goals as goal

pub returns-then-state-lt-STATE_BYTES : goal.returns-then-state-lt-STATE_BYTES
returns-then-state-lt-STATE_BYTES c =
    short_piece c.args.state.now c.args.piece.now
    c.if-state-lt-STATE_BYTES.true

pub returns-then-is_empty : goal.returns-then-is_empty
returns-then-is_empty c =
    empty_piece c.args.state.now
    c.args.piece.now (eqb-true _ _ (sym c.is_empty.ensures ∙ c.if-is_empty.true))
