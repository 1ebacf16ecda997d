use mathlib.Core.Path.{refl}
use Rattle.rules.specs.Names.{is_printable}
use Rattle.texts.proofs.text_bytes.is_printable.Goals as goal

pub returns : goal.returns
unfolding is_printable
returns c = refl
