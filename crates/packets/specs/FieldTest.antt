-- The tests of one field's record. This mirrors the code of src/fields.rt: no public promise rests on this file.
use Rattle.std.specs.Prelude.{Bool, true, false, cond, ◌&&◌, ◌||◌, not, List, ℕ, ◌+◌, ◌-◌, ◌%◌, ◌≤◌, leb, eqb, length}
use Rattle.std.specs.Prelude.{get_or, take, drop}
use Rattle.base.specs.Lists.{between}
use Rattle.laws.specs.Places.{two_at}
use Rattle.rules.specs.declared.ValueType.{ValueType}
use Rattle.rules.specs.declared.ValueType.TheVariants.{Number, YesNo}
use Rattle.rules.specs.Names.{is_label, is_short}
use Rattle.rules.specs.Trees.{same_type}
use Rattle.writing.specs.declared.spans.Span.{Span}
use Rattle.rules.specs.Limits.{depth_most, stored_most, fixed_most}
use Rattle.packets.specs.declared.records.Parts.{Parts}
use Rattle.packets.specs.declared.trees.Checked.{Checked}
use Rattle.packets.specs.declared.trees.Checked.TheVariants.{Typed, Bad}
use Rattle.packets.specs.StoredTrees.{check_at}
use Rattle.packets.specs.Parts.{ending}

-- the bytes of a part
abbrev pub bytes_in : List ℕ → Span → List ℕ
bytes_in s p = take (ending p - p.at) (drop p.at s)

-- the parts lie in the table
pub record Inside (s : List ℕ) (p : Parts) : Type 0 where
  pub label : ending p.label ≤ length s
  pub short : ending p.short ≤ length s
  pub tree : ending p.tree ≤ length s
  pub constraint : ending p.constraint ≤ length s
  pub condition : ending p.condition ≤ length s

-- ── trees ──

-- the answer is a tree of the type that ends there
abbrev pub ends_as : ValueType → ℕ → Checked → Bool
ends_as k end (Typed j next) = same_type j k && eqb next.at end
ends_as k end Bad = false

unfoldable pub tree_test : List ℕ → List ℕ → ValueType → Span → Bool
tree_test s marks k p = leb p.len stored_most && ends_as k (ending p) (check_at depth_most s marks p.at)

-- none, or yes or no
unfoldable pub maybe_test : List ℕ → List ℕ → Span → Bool
maybe_test s marks p = eqb p.len 0 || tree_test s marks YesNo p

-- a measured width's tree is no single number
unfoldable pub width_test : List ℕ → List ℕ → Parts → Bool
width_test s marks p =
    not (eqb p.kind 13) || (not (eqb (get_or s p.tree.at 0) 1) && tree_test s marks Number p.tree)

-- marks of the fields before, and with the own field
unfoldable pub trees_test : List ℕ → List ℕ → List ℕ → Parts → Bool
trees_test s marks own p = width_test s marks p && (maybe_test s own p.constraint && maybe_test s marks p.condition)

-- ── names and numbers ──

-- the record lies in the table, ends where its length says, and is a field's
unfoldable pub bounds_test : List ℕ → ℕ → Parts → Bool
bounds_test s at p = leb p.next (length s) && (eqb (at + two_at s at) p.next && between 12 p.kind 14)

unfoldable pub number_test : ℕ → ℕ → Bool
number_test kind number =
    cond (eqb kind 12) (between 1 number fixed_most) (cond (eqb kind 13) (eqb number 1 || eqb number 8) true)

unfoldable pub short_test : List ℕ → Span → Bool
short_test s p = eqb p.len 0 || is_short (bytes_in s p)

unfoldable pub form_test : List ℕ → Parts → Bool
form_test s p = is_label (bytes_in s p.label) && (short_test s p.short && number_test p.kind p.number)

-- rows are not crossed and end before a long field; after the rest field come fixed fields without a condition
unfoldable pub order_test : ℕ → ℕ → Bool → Parts → Bool
order_test w place ended p =
    cond (eqb p.kind 12) (leb (place % w + p.number) w && (not ended || eqb p.condition.len 0))
    (eqb (place % w) 0 && not ended)

unfoldable pub field_test : ℕ → ℕ → Bool → List ℕ → ℕ → Parts → Bool
field_test w place ended s at p = bounds_test s at p && (form_test s p && order_test w place ended p)

-- ── what the fields behind see ──

-- 1 where the field may be read: word says whether its label has the form of a short name
unfoldable pub mark_by : Bool → Parts → ℕ
mark_by word p = cond (eqb p.kind 12) (cond word 1 (cond (eqb p.short.len 0) 0 1)) 0

abbrev pub mark_of : List ℕ → Parts → ℕ
mark_of s p = mark_by (is_short (bytes_in s p.label)) p

unfoldable pub bits_of : Parts → ℕ
bits_of p = cond (eqb p.kind 12) p.number 0
