-- The types that the code tests are those that rule 9 asks of the forms; and the index that it finds for a name.
use mathlib.Core.Path.{◌≡◌, refl}
use mathlib.Core.Bool.{Bool, true, ◌&&◌}
use mathlib.Core.List.{List}
use mathlib.Core.Option.{Option, none, some}
use Prim.Native.Nat.{ℕ}
use Rattle.base.specs.Lists.{all, if_any}
use Rattle.base.proofs.Lists.{and_left, and_right, and_both}
use Rattle.rules.specs.declared.ValueType.{ValueType}
use Rattle.rules.specs.declared.ValueType.TheVariants.{YesNo}
use Rattle.rules.specs.Operators.{takes}
use Rattle.rules.specs.Names.{is_short}
use Rattle.rules.specs.Trees.{Tree, num, read, two, negation, has_type}
use Rattle.rules.specs.Fields.{Width, fixed, measured, rest, Form, width_trees}
use Rattle.rules.specs.Expressions.{SpellsAt, number, field, two_sided, negated, parentheses}
use Rattle.base.specs.Bytes.{bytes}
use Rattle.rules.specs.Lines.{SpellsWidth, SpellsMaybe, SpellsField, Unresolved}

-- ── the names in a tree ──

-- each name passes a test
unfoldable pub all_names : {N : Type 0} → (N → Bool) → Tree N → Bool
all_names p (num n) = true
all_names p (read a) = p a
all_names p (two o x y) = all_names p x && all_names p y
all_names p (negation x) = all_names p x

pub type_same : {N : Type 0} (p f g : N → Bool) → ((a : N) → p a ≡ true → f a ≡ g a) → (k : ValueType) (t : Tree N)
    → all_names p t ≡ true → has_type f k t ≡ has_type g k t
unfolding has_type all_names
type_same p f g h k (num n) e = refl
type_same p f g h k (read a) e = rw (h a e) refl
type_same p f g h k (two o x y) e =
    rw (
      type_same p f g h (takes o) x (and_left (all_names p x) (all_names p y) e),
      type_same p f g h (takes o) y (and_right (all_names p x) (all_names p y) e),
    )
    refl
type_same p f g h k (negation x) e = rw (type_same p f g h YesNo x e) refl

-- those of a line that is not yet resolved have the form of short names
tree_short : {k b : ℕ} {t : Tree (List ℕ)} {s : List ℕ} → SpellsAt Unresolved k b t s → all_names is_short t ≡ true
unfolding all_names
tree_short (number le e) = refl
tree_short (field h) = h.1
tree_short (two_sided g h le p q) = and_both _ _ (tree_short p) (tree_short q)
tree_short (negated p) = tree_short p
tree_short (parentheses p) = tree_short p

width_short : (v : Width (List ℕ)) (s : List ℕ) → SpellsWidth Unresolved v s
    → all (all_names is_short) (width_trees v) ≡ true
unfolding all
width_short (fixed n) s h = refl
width_short (measured u t) s h = and_both (all_names is_short t) true (tree_short h.spelled) refl
width_short rest s h = refl

maybe_short : (phrase : List ℕ) (o : Option (Tree (List ℕ))) (s : List ℕ) → SpellsMaybe Unresolved phrase o s
    → if_any (all_names is_short) o ≡ true
maybe_short phrase none s h = refl
maybe_short phrase (some t) s h = tree_short h.2

-- ── a line ──

pub record ShortNames (x : Form) : Type 0 where
  pub width : all (all_names is_short) (width_trees x.width) ≡ true
  pub constraint : if_any (all_names is_short) x.constraint ≡ true
  pub condition : if_any (all_names is_short) x.condition ≡ true

pub spelled_short : (x : Form) (l : List ℕ) → SpellsField Unresolved x l → ShortNames x
spelled_short x l h = record {
  width = width_short x.width h.line.width h.line.is_width;
  constraint = maybe_short (bytes "; ") x.constraint h.line.constraint h.line.is_constraint;
  condition = maybe_short (bytes "; present only when ") x.condition h.line.condition h.line.is_condition;
}
