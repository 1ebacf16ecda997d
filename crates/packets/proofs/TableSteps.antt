-- What the code that checks a whole table is told at its steps.
use mathlib.Core.Path.{◌≡◌, sym, ap, ◌∙◌}
use mathlib.Core.Bool.{Bool, true, false, cond, ◌||◌}
use mathlib.Core.List.{List, []}
use Prim.Native.Nat.{ℕ, zero, suc, ◌+◌, ◌%◌, ◌<◌, ◌≤◌}
use native.Mathlib.Omega.{arith}
use lib.Dec.{leb, eqb}
use lib.ListN.{length, take}
use borrow.Author.Tests.{leb-true, eqb-true}
use Rattle.base.specs.Lists.{between}
use Rattle.laws.specs.Places.{two_at}
use Rattle.base.proofs.Lists.{and_left, and_right, between_true}
use Rattle.base.proofs.Breaks.{or_true}
use Rattle.rules.specs.Names.{is_label}
use Rattle.rules.specs.Within.{is_row_width}
use Rattle.rules.specs.Limits.{fields_most}
use Rattle.std.specs.Prelude.{Option, Some, None}
use Rattle.std.proofs.lemmas.Option.{none-some}
use Rattle.packets.specs.Parts.{table_most, span_at, parts_at}
use Rattle.packets.specs.FieldTest.{bytes_in}
use Rattle.packets.specs.NamesTest.{places_from, FieldPlaces, Gathered}
use Rattle.packets.specs.CountsTest.{Tallied}
use Rattle.packets.specs.TableTest.{walk_at, head_test, GatheredBy, TalliedBy, GatheredAll}
use Rattle.packets.proofs.FieldSteps.{parts_inside, field_next}
use Rattle.packets.proofs.WalkLaws.{walk_parts}

-- ── the first record ──

pub record HeadIs (s : List ℕ) : Type 0 where
  pub end : 10 + two_at s 8 ≤ length s
  pub size : two_at s 0 ≡ 10 + two_at s 8
  pub kind : two_at s 2 ≡ 1
  pub row : is_row_width (two_at s 4) ≡ true
  pub count : between 1 (two_at s 6) fields_most ≡ true
  pub name : is_label (bytes_in s (span_at s 8)) ≡ true

pub head_is_lem : (s : List ℕ) → head_test s ≡ true → HeadIs s
unfolding head_test
head_is_lem s h =
    let a = and_right (leb (10 + two_at s 8) (length s)) _ h in
    let b = and_right (eqb (two_at s 0) (10 + two_at s 8)) _ a in
    let c = and_right (eqb (two_at s 2) 1) _ b in
    let d = and_right (is_row_width (two_at s 4)) _ c in
    record {
      end = leb-true _ _ (and_left (leb (10 + two_at s 8) (length s)) _ h);
      size = eqb-true _ _ (and_left (eqb (two_at s 0) (10 + two_at s 8)) _ a);
      kind = eqb-true _ _ (and_left (eqb (two_at s 2) 1) _ b);
      row = and_left (is_row_width (two_at s 4)) _ c;
      count = and_left (between 1 (two_at s 6) fields_most) _ d;
      name = and_right (between 1 (two_at s 6) fields_most) _ d;
    }

-- the field records begin within the table
pub head_inside : (s : List ℕ) → head_test s ≡ true → (n : ℕ) → n ≡ two_at s 0 → n ≤ length s
head_inside s h n e = let is = head_is_lem s h in omega (arith, is.size, is.end, e)

pub row_positive : (w : ℕ) → is_row_width w ≡ true → 0 < w
row_positive w h =
    or_true (eqb w 8) (eqb w 16 || eqb w 32)
    (λ e. omega (arith, eqb-true w 8 e))
    (or_true (eqb w 16) (eqb w 32) (λ e. omega (arith, eqb-true w 16 e)) (λ e. omega (arith, eqb-true w 32 e)))
    h

-- ── places in the walk ──

pub walk_past : (w n : ℕ) (marks : List ℕ) (place : ℕ) (ended : Bool) (s : List ℕ) (at next : ℕ) → at ≤ length s
    → walk_at w n marks place ended s at ≡ Some next → next ≤ length s
unfolding walk_at
walk_past w zero marks place ended s at next le h = go (eqb (place % w) 0) h
  where
    go : (x : Bool) → cond x (Some at) None ≡ Some next → next ≤ length s
    go true f = let m : at ≡ next = cc in omega arith
    go false f = absurd (none-some next f)
walk_past w (suc n) marks place ended s at next le h =
    let q = walk_parts w n marks place ended s at next h in
    walk_past w n _ _ _ s (parts_at s at).next next (field_next w place ended s at (parts_at s at) q.0) q.2

pub walk_places : (w n : ℕ) (marks : List ℕ) (place : ℕ) (ended : Bool) (s : List ℕ) (at next : ℕ)
    → length s ≤ table_most
    → at ≤ length s → walk_at w n marks place ended s at ≡ Some next → FieldPlaces s n (places_from s n at)
unfolding places_from
walk_places w zero marks place ended s at next short le h i lt = absurd (omega arith)
walk_places w (suc n) marks place ended s at next short le h zero lt =
    let q = walk_parts w n marks place ended s at next h in
    record {
      place = omega arith;
      inside = parts_inside s at (field_next w place ended s at (parts_at s at) q.0);
    }
walk_places w (suc n) marks place ended s at next short le h (suc i) lt =
    let q = walk_parts w n marks place ended s at next h in
    walk_places w n _ _ _ s (parts_at s at).next next short (field_next w place ended s at (parts_at s at) q.0)
    q.2 i (omega arith)

pub count_most : (n : ℕ) → between 1 n fields_most ≡ true → n ≤ fields_most
count_most n h = (between_true 1 n fields_most h).1

-- the code's walk, by the numbers that it read
pub walk_of : (s : List ℕ) {w n from : ℕ} {r x : Option ℕ} → w ≡ two_at s 4 → n ≡ two_at s 6 → from ≡ two_at s 8
    → r ≡ walk_at w n [] 0 false s (10 + from) → r ≡ x
    → walk_at (two_at s 4) (two_at s 6) [] 0 false s (10 + two_at s 8) ≡ x
walk_of s a b c e f = rw (← a, ← b, ← c) (sym e ∙ f)

-- what a walk to the end has gathered
pub gathered_past : {r : Option ℕ} {at : ℕ} {s : List ℕ} {n from : ℕ} {places keys : List ℕ}
    {shorts words : List (List ℕ)}
    → r ≡ Some at → GatheredBy r s n from places keys shorts words → Gathered s n from places keys shorts words
gathered_past e g = rw e at g

pub tallied_past : (s : List ℕ) (n from : ℕ) (counts : List ℕ) {r : Option ℕ} {at : ℕ} → r ≡ Some at
    → TalliedBy r s n from counts → Tallied s n from counts
tallied_past s n from counts e g = rw e at g

-- the same by the table's own numbers
pub gathered_all : (s places counts : List ℕ) (n from : ℕ) (r : Bool) → n ≡ two_at s 6 → from ≡ two_at s 8
    → take n places ≡ places_from s n (10 + from) → Tallied s n (10 + from) counts → GatheredAll r s places counts
gathered_all s places counts n from true a b p t =
    let z : 10 + from ≡ 10 + two_at s 8 = ap (λ (k : ℕ). 10 + k) b in
    (rw (← a, ← z) p, rw (← a, ← z) t)
gathered_all s places counts n from false a b p t = tt
