-- The parts of a field that has its form and small trees fit into two bytes each.
use mathlib.Core.Path.{◌≡◌}
use mathlib.Core.Bool.{true, ◌||◌, not}
use mathlib.Core.List.{◌++◌}
use Prim.Native.Nat.{ℕ, ◌<◌}
use native.Mathlib.Omega.{arith}
use lib.Dec.{eqb}
use lib.ListN.{length}
use Rattle.base.specs.Lists.{all, list_of}
use Rattle.base.proofs.Breaks.{and_true, all_one, all_append}
use Rattle.rules.specs.Trees.{is_small, is_number}
use Rattle.rules.specs.Fields.{Width, fixed, measured, rest, Field, width_trees, trees}
use Rattle.rules.specs.Within.{is_width, is_formed}
use Rattle.rules.specs.Stored.{stored_expression}
use Rattle.laws.proofs.ReadsFields.{unit_bound, fixed_bound, formed_parts}
use Rattle.laws.proofs.FieldSizes.{small_length, field_sizes, body_size}
use Rattle.packets.proofs.PartsLaws.{WidthBounds}
use Rattle.packets.proofs.RecordLaws.{Bounds}

width_bounds : (w : Width ℕ) → is_width w ≡ true → all is_small (width_trees w) ≡ true → WidthBounds w
width_bounds (fixed n) h small = fixed_bound n h
width_bounds (measured u t) h small =
    let e = and_true (eqb u 1 || eqb u 8) (not (is_number t)) h in
    let b : length (stored_expression t) < 65536 = omega (arith, small_length t (all_one is_small t small)) in
    (unit_bound u e.0, b)
width_bounds rest h small = tt

pub field_bounds : (f : Field ℕ) → is_formed f ≡ true → all is_small (trees f) ≡ true → Bounds f
field_bounds f formed small =
    let z = field_sizes f formed small in
    let c = list_of f.constraint in
    let k = list_of f.condition in
    let size = all_append is_small (width_trees f.width) (c ++ k) small in
    record {
      label = omega (arith, z.label);
      short = omega (arith, z.short);
      width = width_bounds f.width (formed_parts f formed).2 size.0;
      constraint = omega (arith, z.constraint);
      condition = omega (arith, z.condition);
      body = omega (arith, body_size f z);
    }
