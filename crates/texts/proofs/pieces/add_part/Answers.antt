use native.Mathlib.Omega.{arith}
use Prim.Native.Nat.{◌+◌, ◌≤◌}
use lib.ListN.{length}
use Rattle.rules.specs.Limits.{line_most}
use Rattle.texts.proofs.KeptStates.{part_cut, part_around, part_added, least_used}
use Rattle.texts.proofs.pieces.add_part.Goals as goal

pub returns-then-used-part : goal.returns-then-used-part
returns-then-used-part c =
    let s = c.args.s.now in
    let part = c.args.part.now in
    let size = c.args.size in
    let used = c.min-used.result in
    let is = least_used s c.two_at.ensures.0 c.min-used.ensures in
    let pre = c.requires in
    let over = c.if-used-part.true in
    let cut = c.cut_state.ensures in record {
      around = cut.around;
      step = λ plain. part_cut size used s part _ pre.0 pre.1 plain is over cut.cut;
    }

pub returns : goal.returns
returns c =
    let s = c.args.s.now in
    let part = c.args.part.now in
    let size = c.args.size in
    let used = c.min-used.result in
    let t = c.put.new.out in
    let least = c.min-used.ensures in
    let is = least_used s c.two_at.ensures.0 least in
    let pre = c.requires in
    let room = pre.0 in
    let not_over = c.if-used-part.false in
    let fit : used + length part ≤ line_most = omega (arith, not_over, least) in
    let add = c.put.ensures in
    let two = c.put_two.ensures in record {
      around = part_around used s part t room fit add two;
      step = λ plain. part_added used s part t room fit add two size pre.1 plain is;
    }
