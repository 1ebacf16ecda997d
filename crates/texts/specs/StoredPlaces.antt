-- How the code makes stored expressions, and what it promises of them at places of a text: mirrors the code, no public
-- promise rests on it.
use Rattle.std.specs.Prelude.{Option, None, Some, IfSome}
use Rattle.std.specs.Prelude.{◌≡◌, Bool, cond, ◌&&◌, List, ◌∷◌, ℕ, suc, ◌+◌, ◌*◌, ◌≤◌, ◌<◌, max, length, take}
use Rattle.std.specs.Prelude.{drop}
use Rattle.rules.specs.declared.Op.{Op}
use Rattle.rules.specs.declared.ValueType.{ValueType}
use Rattle.rules.specs.declared.ValueType.TheVariants.{YesNo}
use Rattle.rules.specs.Operators.{code, takes, gives, not_code}
use Rattle.rules.specs.Trees.{Tree}
use Rattle.text_laws.specs.Reader.{got, word, behind, leaf, close, atom, expr}
use Rattle.text_laws.specs.Reader.{more}
use Rattle.texts.specs.ExprPlaces.{wrap_of}
use Rattle.texts.specs.HeldNames.{Names}
use Rattle.texts.specs.StoredTrees.{is_type, TreeBytes, StoredIs, SameStored}
use Rattle.texts.specs.declared.stored_trees.StoredTree.{StoredTree}

-- ── expressions made of expressions ──

-- r ends before the place `at` and has the type k, the depth d and the stored length l and form
pub record Made (at : ℕ) (k : Option ValueType) (d l : ℕ) (front : List ℕ) (r : TreeBytes) : Type 0 where
  pub next : r.next ≡ at
  pub gives : r.gives ≡ k
  pub deep : r.depth ≡ d
  pub len : r.len ≡ l
  pub bytes : l ≤ length r.bytes → take l r.bytes ≡ front

-- the type of a whole with operands of the types a and b
abbrev pub two_type : Op → Option ValueType → Option ValueType → Option ValueType
two_type o a b = cond (is_type (takes o) a && is_type (takes o) b) (Some (gives o)) None

abbrev pub not_type : Option ValueType → Option ValueType
not_type a = cond (is_type YesNo a) (Some YesNo) None

-- the stored form of p stands in front of the bytes
abbrev pub NotMade : StoredTree → List ℕ → ℕ → TreeBytes → Type 0
NotMade p bytes at r = Made at (not_type p.gives) (1 + p.depth) (1 + p.len) (not_code ∷ take p.len bytes) r

-- those of a and b stand in front of them, one behind the other
abbrev pub TwoMade : Op → StoredTree → StoredTree → List ℕ → TreeBytes → Type 0
TwoMade o a b bytes r =
    Made b.next (two_type o a.gives b.gives) (1 + max a.depth b.depth) (1 + (a.len + b.len))
    (code o ∷ take (a.len + b.len) bytes) r

-- ── what the code promises at the place `at` of the text s, whatever fuel the reader has, if it is enough ──

-- the place behind an expression is `lo` or behind it, within the text; from `at` on, where a tree of stored length z
-- was read, each byte of text made the tree at most 5 longer; a tree is not deeper than long
abbrev pub TreeWithin : List ℕ → ℕ → ℕ → ℕ → StoredTree → Type 0
TreeWithin s lo at z t =
    (lo ≤ t.next) × (t.next ≤ length s) × (t.len + 5 * at ≤ z + 5 * t.next) × (t.depth ≤ t.len)

abbrev pub WithinStored : List ℕ → ℕ → ℕ → ℕ → Option StoredTree → Type 0
WithinStored s lo at z r = IfSome r (λ t. TreeWithin s lo at z t)

abbrev pub LeafStored : Names → ℕ → List ℕ → ℕ → Option TreeBytes → Type 0
LeafStored names n s at r = SameStored names n s (leaf (word (drop at s)) (behind (drop at s))) r

abbrev pub ExprStored : Names → ℕ → List ℕ → ℕ → ℕ → ℕ → Option TreeBytes → Type 0
ExprStored names n s at k b r =
    (f : ℕ) → length (drop at s) < f → SameStored names n s (expr f k b (drop at s)) r

abbrev pub AtomStored : Names → ℕ → List ℕ → ℕ → ℕ → Option TreeBytes → Type 0
AtomStored names n s at b r =
    (f : ℕ) → length (drop at s) < suc f → SameStored names n s (atom (expr f 0) b (drop at s)) r

-- the closing parenthesis behind the expression p
abbrev pub ClosedStored : List ℕ → Bool → TreeBytes → Option TreeBytes → Type 0
ClosedStored s neg p r =
    (names : Names) (n : ℕ) (t : Tree (List ℕ)) → StoredIs names n t p
    → SameStored names n s (close (wrap_of neg) (got t (drop p.next s))) r

-- what goes on behind the expression p of level h
abbrev pub MoreStored : Names → ℕ → List ℕ → ℕ → ℕ → ℕ → ℕ → TreeBytes → Option TreeBytes → Type 0
MoreStored names n s at k h b p r =
    (t : Tree (List ℕ)) (f : ℕ) → StoredIs names n t p → length (drop at s) < f
    → SameStored names n s (more f k h b t (drop at s)) r
