-- One field of a packet by its record: what the code finds is what the reading of the field says.
use mathlib.Core.Path.{◌≡◌, refl, ◌∙◌}
use mathlib.Core.Bool.{true, false, cond, ◌||◌, not}
use mathlib.Core.List.{List}
use mathlib.Core.Option.{Option, none, some}
use Prim.Native.Nat.{ℕ, ◌+◌, ◌<◌}
use native.Mathlib.Omega.{arith}
use lib.Dec.{ltb, leb, eqb}
use lib.ListN.{length}
use borrow.Author.Tests.{eq-eqb, ne_eqb, eqb-true}
use Rattle.base.specs.Lists.{all, if_any, list_of}
use Rattle.laws.specs.Places.{Stands}
use Rattle.base.proofs.Breaks.{and_true, or_true, all_one}
use Rattle.rules.specs.declared.Fault.TheVariants.{BitsMissing}
use Rattle.rules.specs.declared.ValueType.{ValueType}
use Rattle.rules.specs.declared.ValueType.TheVariants.{Number, YesNo}
use Rattle.rules.specs.Trees.{Tree, num, read, two, negation, stored_tree, is_in_range, is_small, has_type, is_number}
use Rattle.rules.specs.Values.{Value, value, fault, evaluate}
use Rattle.rules.specs.Fields.{Width, fixed, measured, rest, Field, width_trees, fixed_width_bits}
use Rattle.rules.specs.Within.{is_width, width_has_type, index_readable}
use Rattle.rules.specs.Stored.{stored_expression, stored_maybe, kind_number}
use Rattle.rules.specs.Reading.{Entry, value_in, holds, Step, step, stop, and_then, width_at, entry_at, bit_total}
use Rattle.laws.proofs.ReadsTrees.{small_bounds}
use Rattle.writing.specs.declared.spans.Span.{Span}
use Rattle.rules.specs.Limits.{depth_most, fixed_most}
use Rattle.packets.specs.declared.records.Parts.{Parts}
use Rattle.packets.specs.PartsStand.{In, WidthStands}
use Rattle.packets.specs.StoredTrees.{placed, run_value}
use Rattle.packets.specs.Steps.{
  value_of,
  tree_value,
  holds_at,
  unit_of,
  fixed_of,
  later_bits,
  measured_at,
  rest_at,
  extent_at,
  number_of,
  bounded_at,
  present_at,
}
use Rattle.packets.proofs.TreeValues.{value_stored, evaluate_agree}

placed_value : (v : Value) (next : ℕ) → value_of (placed v next) ≡ v
placed_value (value n) next = refl
placed_value (fault f) next = refl

stored_long : (t : Tree ℕ) → 0 < length (stored_expression t)
unfolding stored_tree
stored_long (num n) = omega arith
stored_long (read a) = omega arith
stored_long (two o a b) = omega arith
stored_long (negation a) = omega arith

unit_is : (u : ℕ) → (eqb u 1 || eqb u 8) ≡ true → unit_of u ≡ u
unfolding unit_of
unit_is u h =
    or_true (eqb u 1) (eqb u 8) (λ e. let q = eqb-true u 1 e in rw q) (λ e. let q = eqb-true u 8 e in rw q) h

-- the bits of a fixed field's record, 0 for another's
pub fixed_part : (p : Parts) (w : Width ℕ) → p.kind ≡ kind_number w → (s : List ℕ) (tree : Span)
    → WidthStands s p.number tree w → is_width w ≡ true → fixed_of p ≡ fixed_width_bits w
unfolding fixed_of
fixed_part p (fixed n) kind s tree stands form =
    let le : leb n fixed_most ≡ true = (and_true (leb 1 n) (leb n fixed_most) form).1 in
    rw (kind, stands, le)
fixed_part p (measured u t) kind s tree stands form = rw kind
fixed_part p rest kind s tree stands form = rw kind

-- the field, where its bits are there
abbrev pub opened : List ℕ → ℕ → Width ℕ → ℕ → Step
opened packet place w n =
    cond (ltb (bit_total packet) (place + n)) (stop BitsMissing) (step (entry_at packet place w n) (place + n))

-- the run's values are those of the entries
module _ (s run : List ℕ) (before : List (Field ℕ)) (entries : List Entry)
    (agrees : (i : ℕ) → index_readable before i ≡ true → run_value run i ≡ value_in entries i) where
  tree_reads_lem : (k : ValueType) (t : Tree ℕ) (at next : ℕ) → has_type (index_readable before) k t ≡ true
      → is_in_range t ≡ true → is_small t ≡ true → Stands s at (stored_expression t) next
      → tree_value s run at ≡ evaluate (value_in entries) t
  unfolding tree_value
  tree_reads_lem k t at next typed range small p =
      let e = value_stored depth_most s run at t next range (small_bounds t small).0 p in
      rw e
      (placed_value (evaluate (run_value run) t) next
      ∙ evaluate_agree (index_readable before) k t (run_value run) (value_in entries) typed agrees)

  pub holds_reads : (o : Option (Tree ℕ)) (p : Span) → if_any (has_type (index_readable before) YesNo) o ≡ true
      → all is_in_range (list_of o) ≡ true → all is_small (list_of o) ≡ true → In s p (stored_maybe o)
      → holds_at s run p ≡ holds entries o
  unfolding holds_at
  holds_reads none p typed range small q =
      let e : p.len ≡ 0 = omega (arith, q.end) in
      rw (eq-eqb p.len 0 e)
  holds_reads (some t) p typed range small q =
      let lt = stored_long t in
      let e : eqb p.len 0 ≡ false = ne_eqb p.len 0 (λ z. omega (arith, q.end)) in
      rw e (tree_reads_lem YesNo t p.at _ typed (all_one is_in_range t range) (all_one is_small t small) q)

  pub width_reads : (packet : List ℕ) (w : Width ℕ) (p : Parts) (later total place : ℕ) → p.kind ≡ kind_number w
      → WidthStands s p.number p.tree w → is_width w ≡ true → width_has_type (index_readable before) w ≡ true
      → all is_in_range (width_trees w) ≡ true → all is_small (width_trees w) ≡ true → later_bits later s p.next ≡ total
      → present_at s packet run p later place ≡ and_then (width_at packet entries place total w) (opened packet place w)
  unfolding present_at extent_at bounded_at number_of measured_at rest_at
  width_reads packet (fixed n) p later total place kind stands form typed range small sums =
      let le : leb n fixed_most ≡ true = (and_true (leb 1 n) (leb n fixed_most) form).1 in
      rw (fixed_part p (fixed n) kind s p.tree stands form, kind, le)
  width_reads packet (measured u t) p later total place kind stands form typed range small sums =
      let unit = unit_is u (and_true (eqb u 1 || eqb u 8) (not (is_number t)) form).0 in
      let e =
      tree_reads_lem Number t p.tree.at _ typed (all_one is_in_range t range) (all_one is_small t small) stands.1 in
      rw (kind, stands.0, unit, e)
  width_reads packet rest p later total place kind stands form typed range small sums = rw (kind, sums)
