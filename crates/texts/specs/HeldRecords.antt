-- The record of a field line by the parts that the code holds, and what it tests of them: mirrors the code, no public
-- promise rests on it.
use Rattle.std.specs.Prelude.{Option, None, Some}
use Rattle.rules.specs.declared.ValueType.{ValueType}
use Rattle.std.specs.Prelude.{◌≡◌, Bool, true, ◌&&◌, ◌||◌, not, List, [], ◌++◌, ℕ, ◌+◌, ◌≤◌, eqb, leb, length}
use Rattle.std.specs.Prelude.{take, drop}
use Rattle.base.specs.Lists.{same}
use Rattle.rules.specs.Limits.{depth_most, stored_most}
use Rattle.rules.specs.Names.{is_label}
use Rattle.rules.specs.Trees.{le2}
use Rattle.rules.specs.Fields.{Form}
use Rattle.rules.specs.Frames.{Slot}
use Rattle.rules.specs.Spelling.{shows}
use Rattle.rules.specs.Stored.{counted}
use Rattle.references.specs.Scans.{references}
use Rattle.references.specs.Tallies.{tallied}
use Rattle.texts.specs.PartPlaces.{span_in}
use Rattle.texts.specs.Slots.{stored_slot}
use Rattle.texts.specs.HeldNames.{Names}
use Rattle.texts.specs.StoredTrees.{is_type, form_length}
use Rattle.texts.specs.Kinds.{kind_code, tree_length}
use Rattle.texts.specs.HeldParts.{LineBytes, PartsHeld}
use Rattle.texts.specs.declared.kinds.Width.{Width}
use Rattle.texts.specs.declared.kinds.Width.TheVariants.{Fixed, Measured, Rest}
use Rattle.texts.specs.declared.stored_trees.StoredTree.{StoredTree}
use Rattle.texts.specs.declared.line_parts.Parts.{Parts}

-- ── tests ──

-- depth and stored length of an expression
abbrev pub is_small_as : StoredTree → Bool
is_small_as t = leb t.depth depth_most && leb t.len stored_most

abbrev pub is_small_maybe : Option StoredTree → Bool
is_small_maybe None = true
is_small_maybe (Some t) = is_small_as t

-- its type
abbrev pub is_type_maybe : Option StoredTree → ValueType → Bool
is_type_maybe None wanted = true
is_type_maybe (Some t) wanted = is_type wanted t.gives

-- a test of each form that the parts are of
abbrev pub TestsForm : Parts → (Names → ℕ → Form → Bool) → Bool → Type 0
TestsForm p test r = (names : Names) (n : ℕ) (s : List ℕ) (x : Form) (b : LineBytes)
    → PartsHeld names n s x b p → r ≡ test names n x

-- ── the record ──

-- an expression, counted
abbrev pub tree_bytes : ℕ → List ℕ → List ℕ
tree_bytes len b = counted (take len b)

abbrev pub width_bytes : List ℕ → Width → List ℕ
width_bytes b (Fixed m) = le2 m
width_bytes b (Measured u t) = le2 u ++ tree_bytes t.len b
width_bytes b Rest = []

abbrev pub width_size : Width → ℕ
width_size (Fixed m) = 2
width_size (Measured u t) = 4 + t.len
width_size Rest = 0

abbrev pub name_bytes : List ℕ → Parts → List ℕ
name_bytes line p = counted (take p.label line) ++ counted (span_in line p.short)

abbrev pub body_bytes : List ℕ → LineBytes → Parts → List ℕ
body_bytes line b p =
    name_bytes line p ++ (width_bytes b.width p.width ++ (tree_bytes (form_length p.constraint) b.constraint
    ++ tree_bytes (form_length p.condition) b.condition))

-- the length of a field's record
unfoldable pub field_size : Parts → ℕ
field_size p = 14 + p.label + p.short.len + width_size p.width + form_length p.constraint + form_length p.condition

-- the record, with the number 0
abbrev pub field_bytes : List ℕ → LineBytes → Parts → List ℕ
field_bytes line b p = le2 (field_size p) ++ (le2 (kind_code p.width) ++ (le2 0 ++ body_bytes line b p))

-- what the expressions of the field of an index read, counted
abbrev pub tree_tallied : ℕ → ℕ → List ℕ → List ℕ → List ℕ
tree_tallied own len b counts = tallied own counts (references (take len b))

abbrev pub line_tallied : ℕ → LineBytes → Parts → List ℕ → List ℕ
line_tallied own b p counts =
    tree_tallied own (form_length p.condition) b.condition
    (tree_tallied own (form_length p.constraint) b.constraint (tree_tallied own (tree_length p.width) b.width counts))

-- label and short name lie within m bytes, and the stored forms are not too long
pub record Writable (m : ℕ) (p : Parts) : Type 0 where
  pub label : p.label ≤ m
  pub short : p.short.at + p.short.len ≤ m
  pub width : tree_length p.width ≤ stored_most
  pub constraint : form_length p.constraint ≤ stored_most
  pub condition : form_length p.condition ≤ stored_most

-- the three outputs have room for each stored form that is not too long
pub record BytesRoom (b : LineBytes) : Type 0 where
  pub width : stored_most ≤ length b.width
  pub constraint : stored_most ≤ length b.constraint
  pub condition : stored_most ≤ length b.condition

-- ── a kept cell ──

-- the name is the label or the short name of the line s
abbrev pub is_named_by : List ℕ → List ℕ → Parts → Bool
is_named_by name s p = same name (take p.label s) || same name (span_in s p.short)

-- a fixed field has a bit cell of its width, any other a long row
abbrev pub is_placed_by : Bool → ℕ → Width → Bool
is_placed_by long bits (Fixed m) = not long && eqb bits m
is_placed_by long bits (Measured u t) = long
is_placed_by long bits Rest = long

-- whether the cell that is kept at a place is one for the field of the line
abbrev pub PartShows : List ℕ → ℕ → List ℕ → Parts → Bool → Type 0
PartShows cells at line p r = (c : Slot) (behind : List ℕ) (names : Names) (n : ℕ) (x : Form) (b : LineBytes)
    → drop at cells ≡ stored_slot c ++ behind → is_label c.text ≡ true → PartsHeld names n line x b p → r ≡ shows c x
