use native.Mathlib.Omega.{arith}
use mathlib.Core.Path.{ap}
use Rattle.texts.specs.Kinds.{tree_length}
use Rattle.texts.proofs.PartBytes.{width_fixed, width_two, width_measured}
use Rattle.texts.proofs.part_records.put_width.Goals as goal

pub put_tree-requires : goal.put_tree-requires
put_tree-requires c =
    let a = c.args in
    let m = c.in-Measured in (
      omega (arith, ap tree_length m.is, c.requires.0),
      width_two a.w a.wide.now a.out.now a.at c.requires.1 m.bits m.t m.is c.put_two-next.ensures,
    )

pub returns-in-Fixed : goal.returns-in-Fixed
returns-in-Fixed c =
    let a = c.args in
    let both = width_fixed a.w a.wide.now a.out.now a.at c.requires.1 c.in-Fixed.bits c.in-Fixed.is
    c.put_two.ensures in record {
      end = both.0;
      bytes = both.1;
    }

pub returns-in-Measured : goal.returns-in-Measured
returns-in-Measured c =
    let a = c.args in
    let m = c.in-Measured in
    let t = c.put_tree.ensures in
    let both = width_measured a.w a.wide.now a.out.now a.at c.requires.1 m.bits m.t m.is c.put_two-next.ensures
    t.end t.bytes in
    record {
      end = both.0;
      bytes = both.1;
    }
