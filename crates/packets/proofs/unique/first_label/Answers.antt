use mathlib.Core.Path.{sym, ◌∙◌}
use Prim.Native.Nat.{ℕ}
use native.Mathlib.Omega.{arith}
use lib.ListN.{get_or}
use Rattle.packets.specs.NamesTest.{labels_alike}
use Rattle.packets.proofs.NameSteps.{labels_apart}
use Rattle.names.proofs.PairLaws.{later_starts, inner_from}
use Rattle.names.proofs.PairLaws.{inner_on, later_on, seen_on, later_found, later_ends}
use borrow.Author.Rules.{rules}
use Rattle.packets.proofs.unique.first_label.Goals as goal

pub later-init : goal.later-init
later-init c =
    let alike = labels_alike c.args.s.now c.args.places.now in
    (later_starts alike c.args.n, search rules, λ k lt. absurd (omega arith))

pub loop-i-init : goal.loop-i-init
loop-i-init c =
    let a = c.args in
    let pre = c.requires in
    let o = c.later in
    let alike = labels_alike a.s.now a.places.now in
    let key : ℕ → ℕ = λ k. get_or a.keys.now k 0 in
    rw c.start_of-i.ensures (inner_from alike key o.seen o.j
    (λ k lt. labels_apart a.s.now a.places.now a.keys.now a.n k o.j pre.3 (omega arith)
    (omega arith))
    o.invariant.2)

pub same_labels-requires : goal.same_labels-requires
same_labels-requires c =
    let pre = c.requires in
    let o = c.later in
    let l = c.loop-i in (
      pre.1,
      pre.2 l.i (omega arith),
      pre.2 o.j (omega arith),
      pre.3 l.i (omega arith),
      pre.3 o.j (omega arith),
    )

pub loop-i-preserved : goal.loop-i-preserved
loop-i-preserved c =
    let a = c.args in
    let o = c.later in
    let l = c.loop-i in
    let alike = labels_alike a.s.now a.places.now in
    let other = sym c.same_labels.ensures ∙ c.if-same_labels.false in
    inner_on alike a.n o.j l.i l.invariant (omega arith) other

pub later-preserved : goal.later-preserved
later-preserved c =
    let a = c.args in
    let o = c.later in
    let alike = labels_alike a.s.now a.places.now in
    let key : ℕ → ℕ = λ k. get_or a.keys.now k 0 in
    let on = later_on alike a.n o.j c.loop-i.i c.loop-i.invariant (omega arith) (omega arith)
    o.invariant.0 in
    (on, search rules, seen_on key o.j o.seen o.invariant.1 o.invariant.2)

pub returns-then-j-n : goal.returns-then-j-n
returns-then-j-n c =
    let a = c.args in
    let alike = labels_alike a.s.now a.places.now in
    later_ends alike a.n c.later.j (omega arith) c.later.invariant.0

pub returns-then-same_labels : goal.returns-then-same_labels
returns-then-same_labels c =
    let a = c.args in
    let o = c.later in
    let l = c.loop-i in
    let alike = labels_alike a.s.now a.places.now in
    let like = sym c.same_labels.ensures ∙ c.if-same_labels.true in
    later_found alike a.n o.j l.i l.invariant (omega arith) (omega arith) like o.invariant.0
