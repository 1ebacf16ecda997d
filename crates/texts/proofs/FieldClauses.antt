-- Constraint and condition at a place of a text, against the reader over what is left of it.
use mathlib.Core.Path.{◌≡◌, refl}
use mathlib.Core.Bool.{true, false, and-false}
use mathlib.Core.List.{List}
use mathlib.Core.Option.{none}
use Prim.Native.Nat.{ℕ, ◌+◌, ◌≤◌}
use lib.ListN.{length, drop}
use Rattle.base.specs.Bytes.{bytes}
use Rattle.text_laws.specs.LineReader.{hit, literal, begins, read_phrase, read_maybe}
use Rattle.text_laws.specs.LineReader.{is_condition, is_constraint, read_constraint, read_condition}
use Rattle.texts.specs.FieldPlaces.{tree_clause}
use Rattle.texts.proofs.FieldNames.{literal_at}

-- ── behind a phrase ──

pub condition_there : (z q : List ℕ) → begins (bytes "; present only when ") z ≡ true
    → literal (bytes "; present only when ") z ≡ hit tt q → read_condition z ≡ tree_clause q
unfolding read_condition read_maybe read_phrase is_condition tree_clause
condition_there z q y l = rw (y, l) refl

pub condition_none : (z : List ℕ) → begins (bytes "; present only when ") z ≡ false → read_condition z ≡ hit none z
unfolding read_condition read_maybe is_condition
condition_none z n = rw n refl

pub constraint_there : (z q : List ℕ) → begins (bytes "; present only when ") z ≡ false
    → begins (bytes "; ") z ≡ true → literal (bytes "; ") z ≡ hit tt q → read_constraint z ≡ tree_clause q
unfolding read_constraint read_maybe read_phrase is_constraint is_condition tree_clause
constraint_there z q n y l = rw (y, n, l) refl

pub constraint_none : (z : List ℕ) → begins (bytes "; ") z ≡ false → read_constraint z ≡ hit none z
unfolding read_constraint read_maybe is_constraint
constraint_none z n = rw n refl

pub constraint_later : (z : List ℕ) → begins (bytes "; present only when ") z ≡ true → read_constraint z ≡ hit none z
unfolding read_constraint read_maybe is_constraint is_condition
constraint_later z y = rw (y, and-false (begins (bytes "; ") z)) refl

module _ (s : List ℕ) (at : ℕ) (le : at ≤ length s) where
  pub clause_room : (w : List ℕ) → begins w (drop at s) ≡ true → at + length w ≤ length s
  clause_room w y = (literal_at w s at le y).0
