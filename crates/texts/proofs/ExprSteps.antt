-- The length of a tree, and where an operator may not stand.
use mathlib.Core.Path.{◌≡◌, refl}
use mathlib.Core.Bool.{Bool, true, false, ◌&&◌}
use mathlib.Core.Logic.{◌⊎◌, inl, inr}
use mathlib.Core.List.{List}
use Prim.Native.Nat.{ℕ, ◌+◌, ◌<◌}
use native.Mathlib.Omega.{arith}
use lib.Dec.{leb}
use lib.ListN.{length-append}
use borrow.Author.Tests.{lt-leb}
use Rattle.rules.specs.declared.Op.{Op}
use Rattle.rules.specs.Operators.{level, left_level}
use Rattle.rules.specs.Trees.{Tree, two, stored_tree, stored_length}
use Rattle.operators.specs.declared.rows.Row.{Row}
use Rattle.operators.specs.Rows.{row_of}
use Rattle.texts.proofs.OperatorRows.{row_level, row_left}

-- ── what a tree is made of ──

pub two_length : (o : Op) (x y : Tree (List ℕ)) (z v : ℕ) → stored_length x ≡ z → stored_length y ≡ v
    → stored_length (two o x y) ≡ 1 + (z + v)
unfolding stored_tree
two_length o x y z v p q =
    let h = length-append (stored_tree (λ a. 0) x) (stored_tree (λ a. 0) y) in omega (arith, h, p, q)

-- ── where an operator may stand ──

-- an operator may not stand at level k behind a tree of level h: it is looser, or its left side binds tighter
stops : (k l e h : ℕ) → (l < k) ⊎ (h < e) → (leb k l && leb e h) ≡ false
stops k l e h (inl lt) = rw (lt-leb k l lt) refl
stops k l e h (inr lt) = rw (lt-leb e h lt) (go (leb k l))
  where
    go : (b : Bool) → (b && false) ≡ false
    go true = refl
    go false = refl

pub row_stops : (k h : ℕ) (o : Op) (row : Row) → row ≡ row_of o → (row.level < k) ⊎ (h < row.left)
    → (leb k (level o) && leb (left_level o) h) ≡ false
row_stops k h o row is (inl lt) =
    let lv = row_level row o is in
    stops k (level o) (left_level o) h (inl (omega (arith, lv)))
row_stops k h o row is (inr lt) =
    let lv = row_left row o is in
    stops k (level o) (left_level o) h (inr (omega (arith, lv)))
