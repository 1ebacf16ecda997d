use Rattle.texts.proofs.BegunStates.{start_states}
use Rattle.texts.proofs.pieces.start_state.Goals as goal

pub returns : goal.returns
returns c =
    start_states c.args.s.now c.fill.new.s c.clear_starts.new.starts c.requires
    c.fill.ensures c.clear_starts.ensures
