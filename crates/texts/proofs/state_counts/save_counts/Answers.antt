use mathlib.Core.Path.{◌≡◌, refl, sym, ◌∙◌}
use Prim.Native.Nat.{◌+◌, ◌*◌, ◌/◌, ◌%◌, ◌<◌}
use borrow.Author.Rules.{rules}
use native.Mathlib.Omega.{arith}
use lib.ListN.{length, get_or, length-set}
use Rattle.rules.specs.Limits.{fields_most}
use Rattle.texts.proofs.CountBytes.{twos_none, twos_saved, twos_beyond, all_saved}
use Rattle.texts.proofs.state_counts.save_counts.Goals as goal

pub loop-i-init : goal.loop-i-init
loop-i-init c = (refl, sym (twos_none c.args.s.now c.args.counts.now), refl)

pub loop-i-preserved : goal.loop-i-preserved
loop-i-preserved c =
    let counts = c.args.counts.now in
    let l = c.loop-i in
    let n = get_or counts l.i 0 in
    let small : n < 65536 = search rules in
    let x = get_or c.to_le_bytes.result 0 0 in
    let y = get_or c.to_le_bytes.result 1 0 in
    let low : x ≡ n % 256 = rw c.to_le_bytes.ensures refl in
    let high : y ≡ n / 256 % 256 = rw c.to_le_bytes.ensures refl in
    let within : 2 * l.i + 1 < length l.s = omega (arith, c.requires) in (
      simp length-set l.invariant.0,
      twos_saved l.s counts l.i x y within (omega arith) (omega (arith, low, high, small)) l.invariant.1,
      twos_beyond l.s counts l.i x y within (2 * fields_most) (omega arith) ∙ l.invariant.2,
    )

pub returns : goal.returns
returns c = record {
  twos = all_saved _ _ c.loop-i.i (omega arith) c.loop-i.invariant.1;
  beyond = c.loop-i.invariant.2;
}
