use Rattle.requests.proofs.HexLaws.{Filling}
use Rattle.requests.proofs.words.bytes_in.Given as goal

abbrev pub invariant-loop-n : goal.invariant-loop-n
invariant-loop-n l = Filling l.line l.initial.out l.out l.n l.rest
