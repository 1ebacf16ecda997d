use mathlib.Core.Path.{◌≡◌, refl, ap, ◌∙◌}
use mathlib.Core.List.{◌∷◌}
use Prim.Native.Nat.{ℕ, ◌+◌, ◌≤◌}
use native.Mathlib.Omega.{arith}
use native.Mathlib.Numerals.{add-one}
use lib.ListN.{take, length-set}
use lib.Seq.{get_or-set_other}
use Rattle.texts.proofs.StoredBytes.{shift_more}
use Rattle.texts.proofs.stored_nodes.put_first.Goals as goal

pub returns-then-out-n : goal.returns-then-out-n
returns-then-out-n c = λ lt. absurd (omega (arith, lt, c.if-out-n.true))

pub loop-i-init : goal.loop-i-init
loop-i-init c = (omega (arith, c.if-out-n.false), refl, refl, refl, λ j le. refl)

pub loop-i-preserved : goal.loop-i-preserved
loop-i-preserved c =
    let l = c.loop-i in
    let lt = c.loop-i-test.true in
    let o = c.args.out.now in
    let v = length-set l.out l.i l.held in (
      omega (arith, v, l.invariant.0),
      v ∙ l.invariant.1,
      shift_more l.out (c.args.c ∷ o) l.i l.held (omega (arith, lt, l.invariant.0))
          (omega (arith, lt, l.invariant.0, l.invariant.1)) l.invariant.2 l.invariant.3,
      rw (add-one l.i) (l.invariant.4 l.i (omega arith)),
      λ j le. get_or-set_other l.out l.i j l.held 0 (λ e. absurd (omega (arith, e, le)))
          ∙ l.invariant.4 j (omega (arith, le)),
    )

pub returns : goal.returns
returns c =
    let l = c.loop-i in
    let most = l.auto.i-end in
    let e : l.i ≡ c.args.n + 1 = omega (arith, most, c.loop-i-test.false) in
    let o = c.args.out.now in
    λ lt. (rw e at l.invariant.2) ∙ ap (λ (k : ℕ). take k (c.args.c ∷ o)) (add-one c.args.n)
