-- What the code tests of the expressions of a field line is what the rules ask.
use mathlib.Core.Path.{◌≡◌, refl, ap₂, sym, ◌∙◌}
use mathlib.Core.Bool.{Bool, true, false, ◌&&◌}
use mathlib.Core.List.{List, [], ◌∷◌, ◌++◌}
use mathlib.Core.Option.{Option, none, some}
use Prim.Native.Nat.{ℕ, ◌+◌}
use Rattle.texts.specs.declared.stored_trees.StoredTree.{StoredTree}
use lib.Dec.{leb}
use Rattle.rules.specs.Limits.{depth_most, stored_most}
use Rattle.std.specs.Prelude.{Option as CodeOption}
use Rattle.base.specs.Lists.{all, if_any, list_of}
use Rattle.rules.specs.declared.ValueType.TheVariants.{Number, YesNo}
use Rattle.rules.specs.Trees.{Tree, is_small, has_type}
use Rattle.rules.specs.Fields.{Width, fixed, measured, rest, trees, width_trees}
use Rattle.rules.specs.Within.{width_has_type}
use Rattle.texts.specs.HeldNames.{Names}
use Rattle.texts.specs.Resolved.{types_kept}
use Rattle.texts.specs.StoredTrees.{may_read, TreeBytes, held, StoredIs}
use Rattle.texts.specs.HeldParts.{MaybeHeld, WidthHeld}
use Rattle.texts.specs.HeldRecords.{is_small_maybe, is_type_maybe, TestsForm}
use Rattle.texts.specs.Kinds.{tree_of}
use Rattle.texts.specs.declared.kinds.Width.{Width as CodeWidth}
use Rattle.texts.specs.declared.line_parts.Parts.{Parts}
use Rattle.texts.proofs.TreeTypes.{type_of_lem}
use Rattle.texts.proofs.FieldParts.{all_join}

-- ── tests ──

tree_small : (names : Names) (n : ℕ) (v : Tree (List ℕ)) (t : TreeBytes) → StoredIs names n v t
    → all is_small (v ∷ []) ≡ (leb t.depth depth_most && leb t.len stored_most)
unfolding all
tree_small names n v t h = rw (h.deep, h.len) (go (is_small v))
  where
    go : (b : Bool) → (b && true) ≡ b
    go true = refl
    go false = refl

maybe_small : (names : Names) (n : ℕ) (o : Option (Tree (List ℕ))) (r : CodeOption StoredTree) (b : List ℕ)
    → MaybeHeld names n o r b → all is_small (list_of o) ≡ is_small_maybe r
unfolding all
maybe_small names n none r b h = rw h refl
maybe_small names n (some v) r b h = rw h.1 (tree_small names n v (held h.0 b) h.2)

width_small : (names : Names) (n : ℕ) (v : Width (List ℕ)) (w : CodeWidth) (b : List ℕ)
    → WidthHeld names n v w b → all is_small (width_trees v) ≡ is_small_maybe (tree_of w)
unfolding all
width_small names n (fixed m) w b h = rw h refl
width_small names n (measured u v) w b h = rw h.1 (tree_small names n v (held h.0 b) h.2)
width_small names n rest w b h = rw h refl

pub sizes_are : (p : Parts) (r : Bool)
    → r ≡ (is_small_maybe (tree_of p.width)
    && (is_small_maybe p.constraint && is_small_maybe p.condition))
    → TestsForm p (λ names n x. all is_small (trees x)) r
sizes_are p r e names n s x b h =
    e ∙ sym (all_join is_small (width_trees x.width) (list_of x.constraint ++ list_of x.condition)
    ∙ ap₂ ◌&&◌ (width_small names n x.width p.width b.width h.width)
    (all_join is_small (list_of x.constraint) (list_of x.condition)
    ∙ ap₂ ◌&&◌ (maybe_small names (n + 1) x.constraint p.constraint b.constraint h.constraint)
    (maybe_small names n x.condition p.condition b.condition h.condition)))

maybe_type : (names : Names) (n : ℕ) (o : Option (Tree (List ℕ))) (r : CodeOption StoredTree) (b : List ℕ)
    → MaybeHeld names n o r b → if_any (has_type (may_read names n) YesNo) o ≡ is_type_maybe r YesNo
maybe_type names n none r b h = rw h refl
maybe_type names n (some v) r b h = rw (h.1, h.2.gives) (type_of_lem (may_read names n) YesNo v)

width_type : (names : Names) (n : ℕ) (v : Width (List ℕ)) (w : CodeWidth) (b : List ℕ)
    → WidthHeld names n v w b → width_has_type (may_read names n) v ≡ is_type_maybe (tree_of w) Number
width_type names n (fixed m) w b h = rw h refl
width_type names n (measured u v) w b h =
    rw (h.1, h.2.gives) (type_of_lem (may_read names n) Number v)
width_type names n rest w b h = rw h refl

pub types_are : (p : Parts) (r : Bool)
    → r ≡ (is_type_maybe (tree_of p.width) Number
    && (is_type_maybe p.constraint YesNo && is_type_maybe p.condition YesNo))
    → TestsForm p types_kept r
types_are p r e names n s x b h =
    e ∙ sym (ap₂ ◌&&◌ (width_type names n x.width p.width b.width h.width)
    (ap₂ ◌&&◌ (maybe_type names (n + 1) x.constraint p.constraint b.constraint h.constraint)
    (maybe_type names n x.condition p.condition b.condition h.condition)))
