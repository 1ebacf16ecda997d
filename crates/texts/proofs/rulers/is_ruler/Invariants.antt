use Rattle.std.proofs.Common.{◌≡◌, ℕ, ◌<◌, ◌&&◌, drop}
use Rattle.base.specs.Lists.{same, tabulate}
use Rattle.texts.proofs.rulers.is_ruler.Given as goal

abbrev pub invariant-loop-i : goal.invariant-loop-i
invariant-loop-i g l =
    (at : ℕ → ℕ) → ((c r : ℕ) → c < l.n → goal.F-post g l.column c r → r ≡ at c)
    → same l.line (tabulate at 0 l.n) ≡ (l.each && same (drop l.i l.line) (drop l.i (tabulate at 0 l.n)))
