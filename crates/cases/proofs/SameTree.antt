-- Two trees are equal where a test says so.
use mathlib.Core.Path.{◌≡◌, ap, ◌∙◌, sym}
use mathlib.Core.Bool.{Bool, true, false, ◌&&◌, false≢true}
use mathlib.Core.List.{List}
use Prim.Native.Nat.{ℕ}
use lib.Dec.{eqb}
use borrow.Author.Tests.{eqb-true}
use Rattle.base.specs.Lists.{same}
use Rattle.base.proofs.Lists.{and_left, and_right, same_true}
use Rattle.rules.specs.declared.Op.{Op}
use Rattle.rules.specs.Operators.{code}
use Rattle.rules.specs.Trees.{Tree, num, read, two, negation}
use Rattle.laws.proofs.Readers.{code_of, operation}
use Rattle.laws.proofs.ReadsTrees.{code_of_code}

-- no two operators have one code
pub code_unique : (o p : Op) → code o ≡ code p → o ≡ p
code_unique o p e =
    let q : operation o ≡ operation p = sym (code_of_code o) ∙ ap code_of e ∙ code_of_code p in
    cc

unfoldable pub same_tree : Tree (List ℕ) → Tree (List ℕ) → Bool
same_tree (num m) (num n) = eqb m n
same_tree (num m) (read w) = false
same_tree (num m) (two p c d) = false
same_tree (num m) (negation c) = false
same_tree (read v) (num n) = false
same_tree (read v) (read w) = same v w
same_tree (read v) (two p c d) = false
same_tree (read v) (negation c) = false
same_tree (two o a b) (num n) = false
same_tree (two o a b) (read w) = false
same_tree (two o a b) (two p c d) = eqb (code o) (code p) && (same_tree a c && same_tree b d)
same_tree (two o a b) (negation c) = false
same_tree (negation a) (num n) = false
same_tree (negation a) (read w) = false
same_tree (negation a) (two p c d) = false
same_tree (negation a) (negation c) = same_tree a c

pub same_tree_lem : (t u : Tree (List ℕ)) → same_tree t u ≡ true → t ≡ u
unfolding same_tree
same_tree_lem (num m) (num n) h = ap num (eqb-true m n h)
same_tree_lem (num m) (read w) h = absurd (false≢true h)
same_tree_lem (num m) (two p c d) h = absurd (false≢true h)
same_tree_lem (num m) (negation c) h = absurd (false≢true h)
same_tree_lem (read v) (num n) h = absurd (false≢true h)
same_tree_lem (read v) (read w) h = ap read (same_true v w h)
same_tree_lem (read v) (two p c d) h = absurd (false≢true h)
same_tree_lem (read v) (negation c) h = absurd (false≢true h)
same_tree_lem (two o a b) (num n) h = absurd (false≢true h)
same_tree_lem (two o a b) (read w) h = absurd (false≢true h)
same_tree_lem (two o a b) (two p c d) h =
    let rest : same_tree a c && same_tree b d ≡ true = and_right (eqb (code o) (code p)) _ h in
    let x : o ≡ p = code_unique o p (eqb-true (code o) (code p) (and_left (eqb (code o) (code p)) _ h)) in
    let y : a ≡ c = same_tree_lem a c (and_left (same_tree a c) (same_tree b d) rest) in
    let z : b ≡ d = same_tree_lem b d (and_right (same_tree a c) (same_tree b d) rest) in
    cc
same_tree_lem (two o a b) (negation c) h = absurd (false≢true h)
same_tree_lem (negation a) (num n) h = absurd (false≢true h)
same_tree_lem (negation a) (read w) h = absurd (false≢true h)
same_tree_lem (negation a) (two p c d) h = absurd (false≢true h)
same_tree_lem (negation a) (negation c) h = ap negation (same_tree_lem a c h)
