use mathlib.Core.Path.{◌≡◌}
use mathlib.Core.List.{◌∷◌}
use Prim.Native.Nat.{ℕ, ◌≤◌, ◌<◌}
use lib.ListN.{length, take, get_or}
use Rattle.texts.proofs.stored_nodes.put_first.Given as goal

abbrev pub invariant-loop-i : goal.invariant-loop-i
invariant-loop-i l =
    (l.n < length l.out) ×
    (length l.out ≡ length l.initial.out) ×
    (take l.i l.out ≡ take l.i (l.c ∷ l.initial.out)) ×
    (l.held ≡ get_or (l.c ∷ l.initial.out) l.i 0) ×
    ((j : ℕ) → l.i ≤ j → get_or l.out j 0 ≡ get_or l.initial.out j 0)
