use mathlib.Core.Path.{◌≡◌, refl, ap}
use mathlib.Core.List.{List, [], ◌∷◌, ◌++◌}
use Prim.Native.Nat.{ℕ, zero, suc, ◌+◌, ◌-◌, ◌*◌, ◌≤◌}
use native.Mathlib.Omega.{arith}
use lib.ListN.{length, take, drop, set}
use Rattle.packets.specs.Walks.{put_at}
use Rattle.packets.proofs.walks.put.Goals as goal

-- four numbers in the place of those from a on
four_set : (run : List ℕ) (a p o w v : ℕ) → a + 4 ≤ length run
    → take a run ++ ((p ∷ o ∷ w ∷ v ∷ []) ++ drop 4 (drop a run))
    ≡ set (set (set (set run a p) (suc a) o) (suc (suc a)) w) (suc (suc (suc a))) v
four_set [] a p o w v h = absurd (omega arith)
four_set (x ∷ run) (suc a) p o w v h = ap (λ (l : List ℕ). x ∷ l) (four_set run a p o w v (omega arith))
four_set (x ∷ []) zero p o w v h = absurd (omega arith)
four_set (x ∷ y ∷ []) zero p o w v h = absurd (omega arith)
four_set (x ∷ y ∷ z ∷ []) zero p o w v h = absurd (omega arith)
four_set (x ∷ y ∷ z ∷ u ∷ run) zero p o w v h = refl

pub returns : goal.returns
unfolding put_at
returns c =
    let e = c.args.e in
    let at = 4 * c.args.i in
    let k : at + 4 - at ≡ 4 = omega arith in
    let a : at + 1 ≡ suc at = omega arith in
    let b : at + 2 ≡ suc (suc at) = omega arith in
    let d : at + 3 ≡ suc (suc (suc at)) = omega arith in
    rw (k, c.copy_from_slice.ensures.after, a, b, d)
    (four_set c.args.run.now at e.present e.offset e.width e.value (omega arith))
