use native.Mathlib.Omega.{arith}
use Rattle.texts.proofs.LineWalk.{reads_long}
use Rattle.texts.proofs.reading.read_text.Goals as goal

pub returns-then-text-gt-TEXT_MOST : goal.returns-then-text-gt-TEXT_MOST
returns-then-text-gt-TEXT_MOST c = let a = c.args in reads_long a.text.now a.out.now (omega arith)
