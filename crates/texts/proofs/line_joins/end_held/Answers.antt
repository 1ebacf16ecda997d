use mathlib.Core.Path.{◌≡◌, ap, ◌∙◌}
use Prim.Native.Nat.{ℕ, ◌-◌}
use native.Mathlib.Omega.{arith}
use lib.ListN.{take}
use lib.Seq.{length-take-le}
use borrow.Rule.Slice.PartMut.{put_mid}
use Rattle.texts.specs.HeldAreas.{held_room}
use Rattle.texts.specs.StateNumbers.{held_at}
use Rattle.texts.proofs.JoinLaws.{held_long, held_put, held_back, around_put, around_same, ended_cut, ended_joined}
use Rattle.texts.proofs.line_joins.end_held.Goals as goal

pub returns-then-used-part : goal.returns-then-used-part
returns-then-used-part c =
    let s = c.args.s.now in
    let p = c.requires in record {
      room = c.cut_line.ensures.room;
      around = around_same s;
      step = ended_cut s c.args.used c.args.part.now c.args.r
          c.cut_line.result p.2 p.3 (omega arith)
          c.cut_line.ensures.step;
    }

pub end_joined-requires : goal.end_joined-requires
end_joined-requires c =
    let p = c.requires in
    let j = c.join_line-n.ensures in
    let z : c.join_line-n.result - 0 ≡ c.join_line-n.result = omega arith in
    let n = length-take-le c.join_line-n.result c.join_line-n.new.line (omega (arith, j.long)) in
    rw z ((p.0, p.1, omega (arith, n, j.long)), j.free, held_long c.args.s.now p.2)

pub shape_of-s : goal.shape_of-s
shape_of-s c =
    let s = c.args.s.now in
    let room = c.requires.2 in
    held_back s room c.end_joined.new.area (c.end_joined.auto.area ∙ held_long s room)

pub returns : goal.returns
returns c =
    let s = c.args.s.now in
    let p = c.requires in
    let q = c.end_joined.ensures in
    let part = c.end_joined.new.area in
    let long = c.end_joined.auto.area ∙ held_long s p.2 in
    let z : c.join_line-n.result - 0 ≡ c.join_line-n.result = omega arith in record {
      room = q.room;
      around = around_put s p.2 part long;
      step = ended_joined s c.args.used
          c.args.part.now c.args.r
          c.end_joined.result
          (put_mid held_at held_room s part) c.join_line-n.ensures
          (ap (λ (n : ℕ). take n c.join_line-n.new.line) z) (held_put s p.2 part long)
          q.step;
    }
