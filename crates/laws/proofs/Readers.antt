-- Readers of the parts of a stored table. Each gives the value that is stored and the bytes after it;
-- what it gives where no such value is stored does not matter.
use mathlib.Core.Bool.{cond}
use mathlib.Core.List.{List, [], ◌∷◌}
use mathlib.Core.Option.{Option, none, some}
use Prim.Native.Nat.{ℕ, zero, suc, ◌+◌, ◌*◌}
use lib.Dec.{eqb}
use lib.ListN.{get_or, take, drop}
use Rattle.rules.specs.declared.Op.{Op}
use Rattle.rules.specs.Limits.{depth_most}
use Rattle.rules.specs.Operators.{operators, code, number_code, field_code, not_code}
use Rattle.rules.specs.Trees.{Tree, num, read, two, negation}
use Rattle.rules.specs.Fields.{Width, fixed, measured, rest, Field, Description}
use Rattle.rules.specs.Editions.{Edition}

abbrev pub Reader : Type 0 → Type 0
Reader A = List ℕ → A × List ℕ

abbrev pub and_then : {A B : Type 0} → A × List ℕ → (A → List ℕ → B) → B
and_then p k = k p.0 p.1

-- what le2 and le4 write
unfoldable pub read_two : Reader ℕ
read_two s = (get_or s 0 0 + 256 * get_or s 1 0, drop 2 s)

unfoldable pub read_four : Reader ℕ
read_four s = (get_or s 0 0 + 256 * (get_or s 1 0 + 256 * (get_or s 2 0 + 256 * get_or s 3 0)), drop 4 s)

-- a length and as many bytes
unfoldable pub read_counted : Reader (List ℕ)
read_counted s = and_then (read_two s) (λ n r. (take n r, drop n r))

-- what the first byte of a stored tree says
pub data Code : Type 0 where
  number field other : Code
  operation : Op → Code
  opposite : Code

unfoldable pub code_in : List Op → ℕ → Code
code_in [] c = other
code_in (o ∷ l) c = cond (eqb c (code o)) (operation o) (code_in l c)

unfoldable pub code_of : ℕ → Code
code_of c =
    cond (eqb c number_code) number
    (cond (eqb c field_code) field
    (cond (eqb c not_code) opposite (code_in operators c)))

-- the bytes after the first; part reads an operand
unfoldable pub read_after : Code → Reader (Tree ℕ) → Reader (Tree ℕ)
read_after number part s = and_then (read_four s) (λ n r. (num n, r))
read_after field part s = (read (get_or s 0 0), drop 1 s)
read_after other part s = (num 0, s)
read_after (operation o) part s = and_then (part s) (λ a r. and_then (part r) (λ b q. (two o a b, q)))
read_after opposite part s = and_then (part s) (λ a r. (negation a, r))

-- a tree of at most the given depth
unfoldable pub read_tree : ℕ → Reader (Tree ℕ)
read_tree zero s = (num 0, s)
read_tree (suc d) s = read_after (code_of (get_or s 0 0)) (read_tree d) (drop 1 s)

unfoldable pub tree_of : List ℕ → Tree ℕ
tree_of l = (read_tree depth_most l).0

-- no bytes stand for none
abbrev pub unless_empty : {A : Type 0} → (List ℕ → A) → List ℕ → Option A
unless_empty f [] = none
unless_empty f (b ∷ l) = some (f (b ∷ l))

-- a width, by the kind of its record, of which the first is that of fixed fields
unfoldable pub read_fixed : Reader (Width ℕ)
read_fixed s = and_then (read_two s) (λ n r. (fixed n, r))

unfoldable pub read_measured : Reader (Width ℕ)
read_measured s = and_then (read_two s) (λ u r. and_then (read_counted r) (λ l q. (measured u (tree_of l), q)))

unfoldable pub read_width : ℕ → ℕ → Reader (Width ℕ)
read_width first kind s =
    cond (eqb kind first) (read_fixed s) (cond (eqb kind (first + 1)) (read_measured s) (rest, s))

unfoldable pub field_from : List ℕ → List ℕ → Width ℕ → List ℕ → List ℕ → Field ℕ
field_from label short width constraint condition = record {
  label = label;
  short = unless_empty (λ l. l) short;
  width = width;
  constraint = unless_empty tree_of constraint;
  condition = unless_empty tree_of condition;
}

-- the number in front of a field's body, where the edition keeps it, is skipped
abbrev pub behind_kept : Edition → List ℕ → List ℕ
behind_kept e s = cond e.keeps_readers (drop 2 s) s

-- a field's record; its length is skipped
unfoldable pub read_field : Edition → Reader (Field ℕ)
read_field e s =
    and_then (read_two (drop 2 s)) (λ kind s₁.
    and_then (read_counted (behind_kept e s₁)) (λ label s₂.
    and_then (read_counted s₂) (λ short s₃.
    and_then (read_width e.fixed_kind kind s₃) (λ width s₄.
    and_then (read_counted s₄) (λ constraint s₅.
    and_then (read_counted s₅) (λ condition r. (field_from label short width constraint condition, r)))))))

unfoldable pub read_fields : Edition → ℕ → Reader (List (Field ℕ))
read_fields e zero s = ([], s)
read_fields e (suc n) s = and_then (read_field e s) (λ f r. and_then (read_fields e n r) (λ l q. (f ∷ l, q)))

-- the description that a stored table of an edition stores; the first record's length and kind, and the last record,
-- are skipped
unfoldable pub described_in : Edition → List ℕ → Description
described_in e s =
    and_then (read_two (drop 2 (drop 2 s))) (λ row s₁.
    and_then (read_two s₁) (λ count s₂.
    and_then (read_counted s₂) (λ name s₃.
    and_then (read_fields e count s₃) (λ fields r.
    record { name = name; row_width = row; fields = fields }))))
