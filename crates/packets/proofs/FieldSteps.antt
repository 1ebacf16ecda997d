-- What the code that tests a field's record is told: its parts lie in the table.
use mathlib.Core.Path.{◌≡◌, refl}
use mathlib.Core.Bool.{Bool, true, false, cond, ◌||◌}
use mathlib.Core.List.{List}
use Prim.Native.Nat.{ℕ, ◌+◌, ◌≤◌}
use native.Mathlib.Omega.{arith}
use lib.Dec.{leb, eqb}
use lib.ListN.{length}
use borrow.Author.Tests.{leb-true, eqb-true}
use Rattle.base.specs.Lists.{between}
use Rattle.laws.specs.Places.{two_at}
use Rattle.base.proofs.Lists.{and_left, and_right, between_true}
use Rattle.rules.specs.Names.{is_label, is_short}
use Rattle.rules.specs.Limits.{fixed_most}
use Rattle.writing.specs.declared.spans.Span.{Span}
use Rattle.packets.specs.declared.records.WidthParts.{WidthParts}
use Rattle.packets.specs.declared.records.Parts.{Parts}
use Rattle.packets.specs.Parts.{span_of, ending, span_at, width_of, width_at, parts_at}
use Rattle.packets.specs.FieldTest.{
  bytes_in,
  Inside,
  bounds_test,
  number_test,
  short_test,
  form_test,
  field_test,
  bits_of,
}

-- a short name's test: it is none, or of the form
pub short_is : (s : List ℕ) (p : Span) → short_test s p ≡ (eqb p.len 0 || is_short (bytes_in s p))
unfolding short_test
short_is s p = refl

-- a width's place and its tree's end are not behind the width's end
width_ends : (s : List ℕ) (k a : ℕ) → (a ≤ (width_at s k a).next)
    × (ending (width_at s k a).tree ≤ (width_at s k a).next)
unfolding width_at
width_ends s k a = go (eqb k 12) (eqb k 13)
  where
    first : WidthParts
    first = width_of (two_at s a) (span_of a 0) (a + 2)

    second : WidthParts
    second = width_of (two_at s a) (span_at s (a + 2)) (ending (span_at s (a + 2)))

    third : WidthParts
    third = width_of 0 (span_of a 0) a

    go : (x y : Bool)
        → (a ≤ (cond x first (cond y second third)).next)
        × (ending (cond x first (cond y second third)).tree ≤ (cond x first (cond y second third)).next)
    go true y = (omega arith, omega arith)
    go false true = (omega arith, omega arith)
    go false false = (omega arith, omega arith)

pub parts_inside : (s : List ℕ) (at : ℕ) → (parts_at s at).next ≤ length s → Inside s (parts_at s at)
unfolding parts_at
parts_inside s at h =
    let e = width_ends s (two_at s (at + 2)) (ending (span_at s (ending (span_at s (at + 6))))) in
    record {
      label = omega (arith, h, e);
      short = omega (arith, h, e);
      tree = omega (arith, h, e);
      constraint = omega (arith, h, e);
      condition = omega (arith, h, e);
    }

pub bounds_next : (s : List ℕ) (at : ℕ) (p : Parts) → bounds_test s at p ≡ true → p.next ≤ length s
unfolding bounds_test
bounds_next s at p h = leb-true _ _ (and_left (leb p.next (length s)) _ h)

pub field_next : (w place : ℕ) (ended : Bool) (s : List ℕ) (at : ℕ) (p : Parts)
    → field_test w place ended s at p ≡ true
    → p.next ≤ length s
unfolding field_test
field_next w place ended s at p h = bounds_next s at p (and_left (bounds_test s at p) _ h)

pub field_ends : (w place : ℕ) (ended : Bool) (s : List ℕ) (at : ℕ) (p : Parts)
    → field_test w place ended s at p ≡ true
    → at + two_at s at ≡ p.next
unfolding field_test bounds_test
field_ends w place ended s at p h =
    let bounds = and_left (bounds_test s at p) _ h in
    let rest = and_right (leb p.next (length s)) _ bounds in
    eqb-true _ _ (and_left (eqb (at + two_at s at) p.next) _ rest)

pub inside_of : (s : List ℕ) (at : ℕ) (p : Parts) → p ≡ parts_at s at → bounds_test s at p ≡ true → Inside s p
inside_of s at p e h =
    let n : (parts_at s at).next ≤ length s = rw e at (bounds_next s at p h) in
    rw e (parts_inside s at n)

-- a fixed field has at most so many bits
pub bits_small : (w place : ℕ) (ended : Bool) (s : List ℕ) (at : ℕ) (p : Parts)
    → field_test w place ended s at p ≡ true
    → bits_of p ≤ fixed_most
unfolding field_test form_test number_test bits_of
bits_small w place ended s at p h =
    let f = and_left (form_test s p) _ (and_right (bounds_test s at p) _ h) in
    let n = and_right (short_test s p.short) _ (and_right (is_label (bytes_in s p.label)) _ f) in
    go (eqb p.kind 12) n
  where
    go : (b : Bool) → cond b (between 1 p.number fixed_most)
        (cond (eqb p.kind 13) (eqb p.number 1 || eqb p.number 8) true) ≡ true
        → cond b p.number 0 ≤ fixed_most
    go true e = (between_true 1 p.number fixed_most e).1
    go false e = omega arith
