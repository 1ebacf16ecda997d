use Rattle.std.proofs.Common.{◌≡◌, false, [], ◌-◌, ◌*◌, ◌≤◌, length, take}
use Rattle.rules.specs.Limits.{fixed_most}
use Rattle.packets.specs.TableTest.{walk_at}
use Rattle.packets.proofs.NameSteps.{Gathering}
use Rattle.packets.proofs.CountSteps.{Tallying}
use Rattle.packets.proofs.tables.walk.Given as goal

abbrev pub invariant-loop-i : goal.invariant-loop-i
invariant-loop-i g l = record {
  fixed : l.place ≤ fixed_most * l.i;
  inside : l.at ≤ length l.s;
  walked : walk_at l.w l.count [] 0 false l.s l.from
      ≡ walk_at l.w (l.count - l.i) (take l.i l.columns.marks) l.place l.ended l.s l.at;
  gathering : Gathering l.s l.count l.from l.i l.at l.columns.places l.columns.keys l.columns.shorts l.columns.words;
  tallying : Tallying l.s l.count l.from l.i l.at l.columns.counts;
}
