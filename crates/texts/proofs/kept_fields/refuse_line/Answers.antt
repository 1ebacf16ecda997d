use mathlib.Core.Path.{refl}
use Prim.Native.Nat.{◌+◌}
use native.Mathlib.Omega.{arith}
use Rattle.texts.proofs.LineForms.{room_refused}
use borrow.Author.Rules.{rules}
use Rattle.texts.proofs.kept_fields.refuse_line.Goals as goal

pub overflow_add-r : goal.overflow_add-r
overflow_add-r c = let q = c.requires.2 in search (rules, q)

pub onward-requires : goal.onward-requires
onward-requires c = c.requires.1

pub returns : goal.returns
returns c =
    let a = c.args in
    let low = c.lower-a.ensures in record {
      room = rw c.onward.ensures (
        room_refused a.r c.lower-a.result c.requires.0 c.requires.2
            (low.place (a.r.lines + 1) c.requires.0.placed c.requires.3),
        omega arith,
      );
      same = rw c.onward.ensures (refl);
      note = rw c.onward.ensures low.lowest;
    }
