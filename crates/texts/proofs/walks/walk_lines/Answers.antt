use mathlib.Core.Path.{◌≡◌}
use Prim.Native.Nat.{◌-◌, ◌<◌}
use native.Mathlib.Omega.{arith}
use lib.ListN.{length, drop, length-drop}
use lib.Seq.{length-take-le}
use Rattle.texts.proofs.LineEnds.{printable_line}
use Rattle.texts.proofs.LineWalk.{walking_start, walking_next, rest_plain, bad_to, bad_left}
use borrow.Author.Rules.{rules}
use Rattle.texts.proofs.walks.walk_lines.Goals as goal

pub loop-r-init : goal.loop-r-init
loop-r-init c = (
  c.requires.0,
  (c.requires.2.0, omega arith),
  λ k e le h. walking_start k c.args.text.now
      c.args.from c.args.first e le h,
)

pub returns-then-e-text : goal.returns-then-e-text
returns-then-e-text c =
    let t = c.args.text.now in
    let v = c.loop-r in
    let e = c.line_end-e in record {
      place = v.invariant.0;
      room = v.invariant.1;
      step = λ k z le h. record {
        walking = v.invariant.2 k z le h;
        plain = rest_plain t v.at e.result e.ensures.first (omega (arith, c.if-e-text.true));
      };
    }

pub returns-then-text-e-ne10 : goal.returns-then-text-e-ne10
returns-then-text-e-ne10 c =
    let t = c.args.text.now in
    let v = c.loop-r in
    let e = c.line_end-e in
    let lt : e.result < length t = omega (arith, e.ensures.place.1, c.if-e-text.false) in
    let fits = bad_left (length t - c.args.from)
    c.args.first (length t - v.at) v.r v.invariant.1 in
    let z : length t - length t ≡ 0 = omega arith in record {
      place = search rules;
      room = rw (c.bad_byte.ensures, z) (fits);
      step = rw c.bad_byte.ensures (λ k b le h. bad_to k t c.args.from v.at e.result v.r
          (v.invariant.2 k b le h) e.ensures.first lt
          c.if-text-e-ne10.true);
    }

pub take_line-r-requires : goal.take_line-r-requires
take_line-r-requires c =
    let t = c.args.text.now in
    let p = c.requires in
    let v = c.loop-r in
    let e = c.line_end-e in
    let n = length-take-le (e.result - v.at) (drop v.at t)
    (omega (arith, e.ensures.place.1, length-drop v.at t)) in (
      (
        v.invariant.1.0,
        omega (arith, v.invariant.1.1, p.2.1),
        omega (arith, n, e.ensures.place.1, p.1),
      ),
      printable_line t v.at e.result e.ensures.first,
    )

pub overflow_add-at : goal.overflow_add-at
overflow_add-at c =
    let q = c.line_end-e.ensures.place.1 in let p = c.requires.1 in omega (arith, q, p)

pub loop-r-smaller : goal.loop-r-smaller
loop-r-smaller c =
    let q = c.line_end-e.ensures.place in let n = c.if-e-text.false in omega (arith, q.0, q.1, n)

pub loop-r-preserved : goal.loop-r-preserved
loop-r-preserved c =
    let t = c.args.text.now in
    let v = c.loop-r in
    let e = c.line_end-e in
    let q = c.take_line-r.ensures in
    let lt : e.result < length t = omega (arith, e.ensures.place.1, c.if-e-text.false) in
    let fits = v.invariant.1.1 in (
      omega (arith, lt),
      (q.room.0, omega (arith, q.room.1, fits, e.ensures.place.0, lt)),
      λ k b le h. walking_next k t c.args.from v.at e.result v.r (v.invariant.2 k b le h)
          e.ensures.first lt
          c.if-text-e-ne10.false c.take_line-r.result q.step,
    )
