-- Constraint and condition in their stored form, against the reader over what is left of the text.
use mathlib.Core.Path.{◌≡◌, refl}
use mathlib.Core.Bool.{true, false}
use mathlib.Core.List.{List}
use mathlib.Core.Option.{Option, none, some}
use Prim.Native.Nat.{ℕ, ◌+◌, ◌≤◌}
use native.Mathlib.Omega.{arith}
use lib.ListN.{length, drop}
use Rattle.base.specs.Bytes.{bytes}
use Rattle.rules.specs.Trees.{Tree}
use Rattle.text_laws.specs.LineReader.{
  Got,
  miss,
  hit,
  begins,
  read_tree,
  read_constraint,
  read_condition,
  is_remark,
  form_of,
}
use Rattle.texts.specs.HeldNames.{Names}
use Rattle.texts.specs.FieldPlaces.{tree_clause}
use Rattle.texts.specs.PartPlaces.{Ending, read_ends}
use Rattle.texts.specs.HeldParts.{ClauseAs, ClauseFor, ClauseWithin, EndsAs}
use Rattle.texts.specs.StoredTrees.{held, TreeAs}
use Rattle.texts.specs.declared.stored_trees.StoredTree.{StoredTree}
use Rattle.std.specs.Prelude.{Option as CodeOption, None, Some}
use Rattle.texts.proofs.FieldNames.{literal_at, literal_none}
use Rattle.texts.proofs.FieldClauses.{
  condition_there,
  condition_none,
  constraint_there,
  constraint_none,
  constraint_later,
}
use Rattle.texts.proofs.FieldEnds.{ends_first, ends_second, ends_open, ends_bad, ends_good}

module _ (names : Names) (n : ℕ) (s : List ℕ) where
  -- ── an expression ──

  clause_none : (z : List ℕ) → read_tree z ≡ miss → tree_clause z ≡ miss
  unfolding tree_clause
  clause_none z e = rw e refl

  clause_some : (z : List ℕ) (v : Tree (List ℕ)) (q : List ℕ) → read_tree z ≡ hit v q → tree_clause z ≡ hit (some v) q
  unfolding tree_clause
  clause_some z v q e = rw e refl

  pub tree_missing : (at : ℕ) (b : List ℕ) → read_tree (drop at s) ≡ miss
      → ClauseFor names n s (tree_clause (drop at s)) b None
  tree_missing at b e = clause_none (drop at s) e

  pub tree_there : (at : ℕ) (t : StoredTree) (b : List ℕ) → TreeAs names n s (read_tree (drop at s)) (held t b)
      → ClauseFor names n s (tree_clause (drop at s)) b (Some (Some t, t.next))
  tree_there at t b x = record {
    tree = some x.tree;
    is_read = clause_some (drop at s) x.tree (drop t.next s) x.is_read;
    stored = (t, refl, x.stored);
  }

  -- ── behind a phrase ──

  within_from : (at from : ℕ) (r : CodeOption (CodeOption StoredTree × ℕ)) → at ≤ from → ClauseWithin s from r
      → ClauseWithin s at r
  within_from at from None le h = h
  within_from at from (Some t) le h = (omega arith, h.1)

  bare : (at : ℕ) (g : Got (Option (Tree (List ℕ)))) → at ≤ length s → g ≡ hit none (drop at s) → (b : List ℕ)
      → ClauseWithin s at (Some (None, at)) × ClauseFor names n s g b (Some (None, at))
  bare at g le e b = ((omega arith, le), record { tree = none; is_read = e; stored = refl })

module _ (names : Names) (n : ℕ) (s : List ℕ) (at : ℕ) (le : at ≤ length s) (b : List ℕ) where
  pub condition_yes : (r : CodeOption (CodeOption StoredTree × ℕ)) → begins (bytes "; present only when ")
      (drop at s) ≡ true
      → ClauseWithin s (at + 20) r
      → ClauseFor names n s (tree_clause (drop (at + 20) s)) b r
      → ClauseWithin s at r × ClauseFor names n s (read_condition (drop at s)) b r
  condition_yes r y w h =
      let l = (literal_at (bytes "; present only when ") s at le y).1 in
      (within_from names n s at (at + 20) r (omega arith) w, rw (condition_there (drop at s) (drop (at + 20) s) y l) h)

  pub condition_no : begins (bytes "; present only when ") (drop at s) ≡ false
      → ClauseWithin s at (Some (None, at)) × ClauseFor names n s (read_condition (drop at s)) b (Some (None, at))
  condition_no k = bare names n s at (read_condition (drop at s)) le (condition_none (drop at s) k) b

  pub constraint_yes : (r : CodeOption (CodeOption StoredTree × ℕ)) → begins (bytes "; present only when ")
      (drop at s) ≡ false
      → begins (bytes "; ") (drop at s) ≡ true → ClauseWithin s (at + 2) r
      → ClauseFor names n s (tree_clause (drop (at + 2) s)) b r
      → ClauseWithin s at r × ClauseFor names n s (read_constraint (drop at s)) b r
  constraint_yes r k y w h =
      let l = (literal_at (bytes "; ") s at le y).1 in
      (within_from names n s at (at + 2) r (omega arith) w, rw (constraint_there (drop at s) (drop (at + 2) s) k y l) h)

  pub constraint_no : begins (bytes "; ") (drop at s) ≡ false
      → ClauseWithin s at (Some (None, at)) × ClauseFor names n s (read_constraint (drop at s)) b (Some (None, at))
  constraint_no k = bare names n s at (read_constraint (drop at s)) le (constraint_none (drop at s) k) b

  pub constraint_not_yet : begins (bytes "; present only when ") (drop at s) ≡ true
      → ClauseWithin s at (Some (None, at)) × ClauseFor names n s (read_constraint (drop at s)) b (Some (None, at))
  constraint_not_yet y = bare names n s at (read_constraint (drop at s)) le (constraint_later (drop at s) y) b

-- ── up to the end of the line ──

-- the line has no form
abbrev pub Formless : List ℕ → ℕ → Type 0
Formless s at = (form : Ending) → form_of (read_ends form (drop at s)) ≡ none

pub ends_none : (s : List ℕ) (at : ℕ) → read_constraint (drop at s) ≡ miss → Formless s at
ends_none s at x form = ends_first form (drop at s) x

module _ (names : Names) (n : ℕ) (s : List ℕ) (at : ℕ) (c : CodeOption StoredTree) (m : ℕ) (v : List ℕ)
    (x : ClauseAs names (n + 1) s (read_constraint (drop at s)) c m v) where
  pub ends_later : read_condition (drop m s) ≡ miss → Formless s at
  ends_later y form = ends_second form (drop at s) (drop m s) x.tree x.is_read y

  module _ (d : CodeOption StoredTree) (k : ℕ) (w : List ℕ) (y : ClauseAs names n s (read_condition (drop m s)) d k w)
      (le : k ≤ length s) where
    pub ends_unstopped : begins (bytes ".") (drop k s) ≡ false → Formless s at
    ends_unstopped l form =
        ends_open form (drop at s) (drop m s) (drop k s) x.tree y.tree x.is_read y.is_read
        (literal_none (bytes ".") (drop k s) l)

    pub ends_remark : begins (bytes ".") (drop k s) ≡ true → is_remark (drop (k + 1) s) ≡ false
        → Formless s at
    ends_remark l bad form =
        ends_bad form (drop at s) (drop m s) (drop k s) (drop (k + 1) s) x.tree y.tree x.is_read
        y.is_read (literal_at (bytes ".") s k le l).1 bad

    pub ends_whole : begins (bytes ".") (drop k s) ≡ true → is_remark (drop (k + 1) s) ≡ true
        → EndsAs names n s at v w (record { constraint = c; condition = d })
    ends_whole l good = record {
      constraint = x.tree;
      condition = y.tree;
      is_read = λ form. ends_good form (drop at s) (drop m s) (drop k s) (drop (k + 1) s) x.tree
          y.tree x.is_read y.is_read (literal_at (bytes ".") s k le l).1 good;
      first = x.stored;
      second = y.stored;
    }
