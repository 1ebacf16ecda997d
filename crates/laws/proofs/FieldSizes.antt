-- How long the record of a field is that has its form and small trees.
use mathlib.Core.Path.{◌≡◌}
use mathlib.Core.Bool.{true}
use mathlib.Core.List.{List, ◌++◌}
use mathlib.Core.Option.{Option, none, some}
use Prim.Native.Nat.{ℕ, ◌+◌, ◌*◌, ◌≤◌}
use native.Mathlib.Omega.{arith}
use lib.ListN.{length, length-append}
use Rattle.base.specs.Lists.{all, if_any, list_of}
use Rattle.base.proofs.Breaks.{all_one, all_append}
use Rattle.rules.specs.Limits.{label_most, short_most, stored_most}
use Rattle.rules.specs.Names.{is_short}
use Rattle.rules.specs.Trees.{Tree, is_small, le2}
use Rattle.rules.specs.Fields.{Width, fixed, measured, rest, Field, width_trees, trees}
use Rattle.rules.specs.Within.{is_formed}
use Rattle.rules.specs.Stored.{
  counted,
  kind_number,
  stored_expression,
  stored_width,
  stored_name,
  stored_maybe,
  field_body,
  stored_field,
  stored_field_in,
}
use Rattle.laws.proofs.PlacesOfNumbers.{length_le2}
use Rattle.laws.proofs.ReadsTrees.{small_bounds, length_stored}
use Rattle.laws.proofs.ReadsFields.{label_length, short_length, formed_parts}

pub length_counted : (l : List ℕ) → length (counted l) ≡ 2 + length l
length_counted l = omega (arith, length-append (le2 (length l)) l, length_le2 (length l))

pub small_length : (t : Tree ℕ) → is_small t ≡ true → length (stored_expression t) ≤ stored_most
small_length t h = omega (arith, (small_bounds t h).1, length_stored (λ i. i) (λ i. 0) t)

maybe_size : (o : Option (Tree ℕ)) → all is_small (list_of o) ≡ true → length (stored_maybe o) ≤ stored_most
maybe_size none h = omega arith
maybe_size (some t) h = small_length t (all_one is_small t h)

name_size : (o : Option (List ℕ)) → if_any is_short o ≡ true → length (stored_name o) ≤ short_most
name_size none h = omega arith
name_size (some w) h = short_length w h

width_size_lem : (w : Width ℕ) → all is_small (width_trees w) ≡ true → length (stored_width w) ≤ 4 + stored_most
width_size_lem (fixed n) h = omega (arith, length_le2 n)
width_size_lem (measured u t) h =
    omega (
      arith,
      length-append (le2 u) (counted (stored_expression t)),
      length_le2 u,
      length_counted (stored_expression t),
      small_length t (all_one is_small t h),
    )
width_size_lem rest h = omega arith

-- the parts of a field fit their limits
pub record Sizes (f : Field ℕ) : Type 0 where
  pub label : length f.label ≤ label_most
  pub short : length (stored_name f.short) ≤ short_most
  pub width : length (stored_width f.width) ≤ 4 + stored_most
  pub constraint : length (stored_maybe f.constraint) ≤ stored_most
  pub condition : length (stored_maybe f.condition) ≤ stored_most

pub field_sizes : (f : Field ℕ) → is_formed f ≡ true → all is_small (trees f) ≡ true → Sizes f
field_sizes f formed small =
    let c = list_of f.constraint in
    let k = list_of f.condition in
    let e = formed_parts f formed in
    let size = all_append is_small (width_trees f.width) (c ++ k) small in
    let sizes = all_append is_small c k size.1 in
    record {
      label = label_length f.label e.0;
      short = name_size f.short e.1;
      width = width_size_lem f.width size.0;
      constraint = maybe_size f.constraint sizes.0;
      condition = maybe_size f.condition sizes.1;
    }

-- with a length, a kind and a number in front of it
pub body_size : (f : Field ℕ) → Sizes f → 6 + length (field_body f) ≤ 18 + label_most + short_most + 3 * stored_most
unfolding field_body
body_size f z =
    let l = counted f.label in
    let n = counted (stored_name f.short) in
    let w = stored_width f.width in
    let c = counted (stored_maybe f.constraint) in
    let k = counted (stored_maybe f.condition) in
    omega (
      arith,
      length-append l (n ++ (w ++ (c ++ k))),
      length-append n (w ++ (c ++ k)),
      length-append w (c ++ k),
      length-append c k,
      length_counted f.label,
      length_counted (stored_name f.short),
      length_counted (stored_maybe f.constraint),
      length_counted (stored_maybe f.condition),
      z.label,
      z.short,
      z.width,
      z.constraint,
      z.condition,
    )

pub record_size : (n : ℕ) (f : Field ℕ) → length (stored_field n f) ≡ 6 + length (field_body f)
unfolding stored_field_in
record_size n f =
    let body = le2 n ++ field_body f in
    omega (
      arith,
      length-append (le2 (4 + length body)) (le2 (kind_number f.width) ++ body),
      length-append (le2 (kind_number f.width)) body,
      length-append (le2 n) (field_body f),
      length_le2 (4 + length body),
      length_le2 (kind_number f.width),
      length_le2 n,
    )
