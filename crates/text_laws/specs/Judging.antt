-- One field line at a time: what is kept of it, and the lowest refusal so far. No public promise rests on this file.
use Rattle.std.specs.Prelude.{Bool, true, false, cond, ◌||◌, List, [], ◌∷◌, ◌++◌, map, ℕ, suc, ltb, leb, eqb, length}
use Rattle.std.proofs.Math.Option.{Option, none, some}
use Rattle.std.proofs.Math.ListN.{get_elem?}
use Rattle.rules.specs.Answers.{Answer, refused}
use Rattle.rules.specs.Limits.{fields_most}
use Rattle.rules.specs.Trees.{num}
use Rattle.rules.specs.Fields.{Width, fixed, measured, rest, Field, Form}
use Rattle.rules.specs.Within.{keeps_size, keeps_names, keeps_types, keeps_rest, name_readable}
use Rattle.rules.specs.Frames.{Slot}
use Rattle.rules.specs.Spelling.{shows}
use Rattle.text_laws.specs.LineReader.{read_form}
use Rattle.text_laws.specs.Resolving.{index_of, rename_field}
use Rattle.text_laws.specs.Lowest.{lower, broken}

-- ── what later lines see of a field ──

-- names and the kind of width: all that the rules 8 to 10 of a later line look at
abbrev pub face_width : {N : Type 0} → Width N → Width (List ℕ)
face_width (fixed n) = fixed n
face_width (measured u t) = measured u (num 0)
face_width rest = rest

abbrev pub face : {N : Type 0} → Field N → Form
face f = record {
  label = f.label;
  short = f.short;
  width = face_width f.width;
  constraint = none;
  condition = none;
}

abbrev pub faces : {N : Type 0} → List (Field N) → List Form
faces fields = map face fields

-- the form with each name resolved among the fields so far and its own: an unknown name stands for the index behind
abbrev pub resolved_in : List (Field ℕ) → Form → Field ℕ
resolved_in fields x = rename_field (index_of (faces fields ++ (x ∷ []))) x

-- ── the rules of one line ──

abbrev pub shown_by : Option Slot → Form → Bool
shown_by none x = false
shown_by (some c) x = shows c x

-- 7 at a line: there is a cell of its index, and it is one for the field
abbrev pub shows_cell : List Slot → List Form → Form → Bool
shows_cell cells before x = shown_by (get_elem? cells (length before)) x

-- 6 to 10
abbrev pub rules : List Slot → List (List Form → Form → Bool)
rules cells = keeps_size ∷ shows_cell cells ∷ keeps_names ∷ keeps_types name_readable ∷ keeps_rest ∷ []

-- ── what is kept of field lines ──

pub record Judged : Type 0 where
  -- field lines, up to the most that there may be
  pub count : ℕ
  pub fields : List (Field ℕ)
  pub lowest : Option Answer

-- behind a refusal by 4, 5 or 6 no field is looked at again, and none is kept
abbrev pub is_open : Option Answer → Bool
is_open none = true
is_open (some a) = ltb 6 a.number

abbrev pub is_many : Option Answer → Bool
is_many none = false
is_many (some a) = eqb a.number 4

-- nothing but a 3 could matter now, or a field line too many has come
abbrev pub is_full : Judged → Bool
is_full j = is_many j.lowest || leb fields_most j.count

-- 4
abbrev pub many : Judged → Judged
many j = record { count = j.count; fields = j.fields; lowest = some (refused 4 0) }

abbrev pub grown : Option Answer → List (Field ℕ) → Form → List (Field ℕ)
grown o fields x = cond (is_open o) (fields ++ (resolved_in fields x ∷ [])) fields

abbrev pub with_rules : Judged → Form → Option Answer → Judged
with_rules j x o = record { count = suc j.count; fields = grown o j.fields x; lowest = o }

-- 5, or else the first rule that is broken; p is the number of the line
unfoldable pub with_form : List Slot → ℕ → Judged → Option Form → Judged
with_form cells p j none = record {
  count = suc j.count;
  fields = j.fields;
  lowest = lower j.lowest (some (refused 5 p));
}
with_form cells p j (some x) =
    with_rules j x (lower j.lowest (broken 6 p (rules cells) (faces j.fields) x))

-- one more field line
unfoldable pub judge : List Slot → ℕ → Judged → List ℕ → Judged
judge cells p j l = cond (is_full j) (many j) (with_form cells p j (read_form l))
