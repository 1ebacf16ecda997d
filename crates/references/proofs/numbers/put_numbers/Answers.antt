use mathlib.Core.Path.{◌≡◌, refl, ap, sym, ◌∙◌}
use Rattle.std.specs.Prelude.{Option, unwrap_or}
use Prim.Native.Nat.{ℕ, ◌+◌, ◌-◌}
use native.Mathlib.Omega.{arith}
use lib.ListN.{length, set, drop, get_or, length-set}
use mathlib.Core.List.{[], ◌∷◌}
use Rattle.rules.specs.Trees.{le2}
use Rattle.references.proofs.NumberLaws.{numbered_ends, numbered_next, numbered_done}
use Rattle.references.proofs.numbers.put_numbers.Goals.{
  then-size-lt6-via-then-size-lt6,
  then-size-lt6-via-else-size-lt6+then-left-size,
}
use Rattle.references.proofs.numbers.put_numbers.Goals as goal

pub returns-then-left-lt6 : goal.returns-then-left-lt6
returns-then-left-lt6 c =
    let l = c.loop-k in
    let a = c.args in
    sym (l.invariant.2 ∙ numbered_ends (a.n - l.k) (drop l.k a.counts.now) l.records l.at
    (λ x y. omega (arith, x, y)))

pub returns-then-size-lt6 : goal.returns-then-size-lt6
returns-then-size-lt6 c =
    let l = c.loop-k in
    let a = c.args in
    let h = c.from_le_bytes.ensures in
    let i = c.from-size.ensures in
    elim c.then-size-lt6.branch [
      | then-size-lt6-via-then-size-lt6 w ↦
          sym (l.invariant.2 ∙ numbered_ends (a.n - l.k) (drop l.k a.counts.now) l.records l.at
          (λ x y. omega (arith, x, y, c.from_le_bytes.ensures, c.from-size.ensures, w.if-size-lt6.true)))
      | then-size-lt6-via-else-size-lt6+then-left-size w ↦
          sym (l.invariant.2 ∙ numbered_ends (a.n - l.k) (drop l.k a.counts.now) l.records l.at
          (λ x y. omega (arith, x, y, c.from_le_bytes.ensures, c.from-size.ensures, w.if-left-size.true)))
    ]

pub loop-k-preserved : goal.loop-k-preserved
unfolding le2
loop-k-preserved c =
    let l = c.loop-k in
    let a = c.args in
    let bytes = c.to_le_bytes.result in
    let x = get_or bytes 0 0 in
    let y = get_or bytes 1 0 in
    let number : c.unwrap_or.result ≡ get_or a.counts.now l.k 0 =
    c.unwrap_or.ensures ∙ ap (λ (o : Option ℕ). unwrap_or o 0) c.copied.ensures ∙ c.get.ensures.lookup.4
    (omega arith) 0 in
    let two : x ∷ y ∷ [] ≡ le2 (get_or a.counts.now l.k 0) = rw (c.to_le_bytes.ensures, number) refl in
    let kept : length (set (set l.records (l.at + 4) x) (l.at + 5) y) ≡ length l.records = simp length-set in
    let more = numbered_next a.n l.k a.counts.now l.records l.at c.from-size.result x y
    (omega arith) (omega arith) (omega arith) (omega (arith, c.from-size.ensures, c.from_le_bytes.ensures)) two in
    (omega (arith, kept), kept ∙ l.invariant.1, l.invariant.2 ∙ more)

pub returns : goal.returns
returns c =
    let l = c.loop-k in
    let a = c.args in
    let z : a.n - l.k ≡ 0 = omega arith in
    sym (l.invariant.2 ∙ rw z (numbered_done (drop l.k a.counts.now) l.records l.at))
