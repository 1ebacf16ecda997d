-- The types of a line's expressions, by the stored forms that the code makes of them.
use mathlib.Core.Path.{◌≡◌, refl}
use mathlib.Core.Bool.{Bool, true, false, cond, ◌&&◌}
use mathlib.Core.List.{List}
use Prim.Native.Nat.{ℕ, ◌+◌, ◌-◌, ◌≤◌}
use native.Mathlib.Omega.{arith}
use lib.ListN.{length, take, drop, length-drop}
use lib.Seq.{length-take-le}
use Rattle.std.specs.Prelude.{None, Some}
use Rattle.rules.specs.declared.ValueType.{ValueType}
use Rattle.rules.specs.declared.ValueType.TheVariants.{Number, YesNo}
use Rattle.rules.specs.Operators.{takes, gives}
use Rattle.rules.specs.Trees.{Tree, num, read, two, negation, same_type, has_type}
use Rattle.texts.specs.PartPlaces.{span_in}
use Rattle.texts.specs.StoredTrees.{is_type, type_of}
use Rattle.texts.proofs.LineSearches.{part_text}
use Rattle.writing.specs.declared.spans.Span.{Span}

-- ── the type of a tree ──

module _ {N : Type 0} (may : N → Bool) where
  by_test : (k j : ValueType) (x : Bool) → same_type k j && x ≡ is_type k (cond x (Some j) None)
  by_test k j true = and_true' (same_type k j)
    where
      and_true' : (b : Bool) → b && true ≡ b
      and_true' true = refl
      and_true' false = refl
  by_test k j false = and_false' (same_type k j)
    where
      and_false' : (b : Bool) → b && false ≡ false
      and_false' true = refl
      and_false' false = refl

  pub type_of_lem : (k : ValueType) (t : Tree N) → has_type may k t ≡ is_type k (type_of may t)
  unfolding has_type type_of
  type_of_lem k (num n) = refl
  type_of_lem k (read a) = by_test k Number (may a)
  type_of_lem k (two o a b) =
      rw (type_of_lem (takes o) a, type_of_lem (takes o) b)
      (by_test k (gives o) (is_type (takes o) (type_of may a) && is_type (takes o) (type_of may b)))
  type_of_lem k (negation a) = rw (type_of_lem YesNo a) (by_test k YesNo (is_type YesNo (type_of may a)))

-- ── a line as a part of the text ──

-- a span by its ends
abbrev pub part_of : List ℕ → Span → List ℕ
part_of s p = take (p.at + p.len - p.at) (drop p.at s)

pub part_span : (s : List ℕ) (p : Span) → part_of s p ≡ span_in s p
part_span s p = part_text s p.at p.len

-- it has its length
pub part_length : (s : List ℕ) (p : Span) → p.at + p.len ≤ length s → length (part_of s p) ≡ p.len
part_length s p le = rw (part_span s p) (length-take-le p.len (drop p.at s) (omega (
  arith,
  length-drop p.at
      s,
)))
