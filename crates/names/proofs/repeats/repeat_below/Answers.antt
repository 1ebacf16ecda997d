use mathlib.Core.Path.{sym, ◌∙◌}
use native.Mathlib.Omega.{arith}
use Rattle.names.specs.Repeats.{names_alike}
use Rattle.names.proofs.KeyLaws.{both_on, both_from}
use Rattle.names.proofs.PairLaws.{later_starts, inner_on, later_on, later_found, later_ends}
use borrow.Author.Rules.{rules}
use Rattle.names.proofs.repeats.repeat_below.Goals as goal

pub later-init : goal.later-init
later-init c = (
  later_starts (names_alike c.args.shorts.now c.args.words.now) c.args.n,
  search rules,
  (λ k lt. absurd (omega arith), λ k lt. absurd (omega arith)),
)

pub loop-i-init : goal.loop-i-init
loop-i-init c =
    let o = c.later in
    rw c.start_of_both-start.ensures
    (both_from c.args.shorts.now c.args.words.now o.j o.seen o.invariant.2)

pub loop-i-preserved : goal.loop-i-preserved
loop-i-preserved c =
    let a = c.args in
    let o = c.later in
    let l = c.loop-i in
    let alike = names_alike a.shorts.now a.words.now in
    let other = sym c.names_meet.ensures ∙ c.if-names_meet.false in
    inner_on alike a.n o.j l.i l.invariant (omega arith) other

pub later-preserved : goal.later-preserved
later-preserved c =
    let a = c.args in
    let o = c.later in
    let shorts = a.shorts.now in
    let words = a.words.now in
    let on = later_on (names_alike shorts words) a.n o.j c.loop-i.i c.loop-i.invariant (omega arith) (omega arith)
    o.invariant.0 in (
      on,
      search rules,
      rw (c.name_key.ensures.key, c.name_key-in-later.ensures.key)
          (both_on shorts words o.j o.seen o.invariant.1 o.invariant.2),
    )

pub returns-then-j-n : goal.returns-then-j-n
returns-then-j-n c =
    let a = c.args in
    later_ends (names_alike a.shorts.now a.words.now) a.n c.later.j (omega arith) c.later.invariant.0

pub returns-then-names_meet : goal.returns-then-names_meet
returns-then-names_meet c =
    let a = c.args in
    let o = c.later in
    let l = c.loop-i in
    let alike = names_alike a.shorts.now a.words.now in
    let like = sym c.names_meet.ensures ∙ c.if-names_meet.true in
    later_found alike a.n o.j l.i l.invariant (omega arith) (omega arith) like o.invariant.0
