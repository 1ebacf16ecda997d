use mathlib.Core.Path.{refl}
use native.Mathlib.Omega.{arith}
use Rattle.texts.proofs.pieces.text_start.Goals as goal

pub returns-then-state-lt-STATE_BYTES : goal.returns-then-state-lt-STATE_BYTES
returns-then-state-lt-STATE_BYTES c = (
  record { long = refl; beyond = refl; short = λ h. refl },
  λ h. absurd
      (omega (arith, h, c.if-state-lt-STATE_BYTES.true)),
)

pub returns : goal.returns
returns c =
    c.start_state.ensures
