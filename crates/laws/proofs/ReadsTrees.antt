-- What a tree's stored form stores is read again; how long that form is.
use mathlib.Core.Path.{◌≡◌, refl, ap}
use mathlib.Core.Bool.{true}
use mathlib.Core.List.{List, [], ◌++◌, append_assoc, append-nil}
use mathlib.Core.Option.{some}
use Prim.Native.Nat.{ℕ, zero, suc, ◌<◌, ◌≤◌}
use native.Mathlib.Omega.{arith}
use lib.Dec.{leb}
use lib.ListN.{length, length-append}
use borrow.Author.Tests.{leb-true}
use Rattle.base.proofs.Breaks.{and_true}
use Rattle.rules.specs.declared.Op.{Op}
use Rattle.rules.specs.declared.Op.TheVariants.{Or, And, Eq, Ne, Lt, Le, Gt, Ge, Add, Sub, Mul, Div, Rem, Pow}
use Rattle.rules.specs.Limits.{depth_most, stored_most}
use Rattle.rules.specs.Operators.{operator, operators, code}
use Rattle.rules.specs.Trees.{Tree, num, read, two, negation, depth, le4, stored_tree, stored_length, is_small}
use Rattle.rules.specs.Trees.{is_in_range}
use Rattle.rules.specs.Stored.{stored_expression}
use Rattle.laws.proofs.Readers.{code_of, code_in, operation, read_after, read_tree, tree_of, unless_empty}
use Rattle.laws.proofs.ReadsNumbers.{read_four_le4}

pub code_of_code : (o : Op) → code_of (code o) ≡ operation o
unfolding code_of code_in operator operators
code_of_code Or = refl
code_of_code And = refl
code_of_code Eq = refl
code_of_code Ne = refl
code_of_code Lt = refl
code_of_code Le = refl
code_of_code Gt = refl
code_of_code Ge = refl
code_of_code Add = refl
code_of_code Sub = refl
code_of_code Mul = refl
code_of_code Div = refl
code_of_code Rem = refl
code_of_code Pow = refl

depth_positive : (t : Tree ℕ) → 0 < depth t
unfolding depth
depth_positive (num n) = omega arith
depth_positive (read i) = omega arith
depth_positive (two o a b) = omega arith
depth_positive (negation a) = omega arith

pub read_tree_stored : (d : ℕ) (t : Tree ℕ) → depth t ≤ d → is_in_range t ≡ true
    → (r : List ℕ) → read_tree d (stored_expression t ++ r) ≡ (t, r)
unfolding depth is_in_range stored_tree read_tree read_after code_of
read_tree_stored zero t le h r = absurd (omega (arith, depth_positive t))
read_tree_stored (suc d) (num n) le h r = rw (read_four_le4 n (leb-true _ _ h))
read_tree_stored (suc d) (read i) le h r = refl
read_tree_stored (suc d) (two o a b) le h r =
    let e = and_true (is_in_range a) (is_in_range b) h in
    rw (
      code_of_code o,
      append_assoc (stored_expression a) (stored_expression b) r,
      read_tree_stored d a (omega arith) e.0,
      read_tree_stored d b (omega arith) e.1,
    )
read_tree_stored (suc d) (negation a) le h r = rw (read_tree_stored d a (omega arith) h)

pub small_bounds : {N : Type 0} (t : Tree N) → is_small t ≡ true
    → (depth t ≤ depth_most) × (stored_length t ≤ stored_most)
small_bounds t h =
    let e = and_true (leb (depth t) depth_most) (leb (stored_length t) stored_most) h in
    (leb-true _ _ e.0, leb-true _ _ e.1)

pub tree_of_stored : (t : Tree ℕ) → is_in_range t ≡ true → is_small t ≡ true → tree_of (stored_expression t) ≡ t
unfolding tree_of
tree_of_stored t h small =
    let e = read_tree_stored depth_most t (small_bounds t small).0 h [] in
    rw (append-nil (stored_expression t)) at (ap (λ p. p.0) e)

-- a stored form is never empty
pub stored_some : (t : Tree ℕ) → unless_empty tree_of (stored_expression t) ≡ some (tree_of (stored_expression t))
unfolding stored_tree
stored_some (num n) = refl
stored_some (read i) = refl
stored_some (two o a b) = refl
stored_some (negation a) = refl

-- the length of a stored form does not depend on the indexes
pub length_stored : {N : Type 0} (f g : N → ℕ) (t : Tree N) → length (stored_tree f t) ≡ length (stored_tree g t)
unfolding stored_tree le4
length_stored f g (num n) = refl
length_stored f g (read a) = refl
length_stored f g (two o a b) =
    rw (
      length-append (stored_tree f a) (stored_tree f b),
      length-append (stored_tree g a) (stored_tree g b),
      length_stored f g a,
      length_stored f g b,
    )
length_stored f g (negation a) = rw (length_stored f g a)

pub stored_short : (t : Tree ℕ) → is_small t ≡ true → length (stored_expression t) < 65536
stored_short t h = omega (arith, small_bounds t h, length_stored (λ i. i) (λ i. 0) t)
