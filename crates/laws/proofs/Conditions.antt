-- In an accepted packet a field is present exactly where its condition is yes, and then its constraint is yes.
use mathlib.Core.Path.{◌≡◌, refl, ap, ◌∙◌}
use mathlib.Core.Bool.{Bool, true, false, cond}
use mathlib.Core.Logic.{inl, inr}
use mathlib.Core.List.{List, [], ◌∷◌, ◌++◌, append_assoc, append-nil}
use Prim.Native.Nat.{ℕ, ◌+◌, ◌<◌}
use native.Mathlib.Omega.{arith}
use lib.Dec.{ltb, eqb}
use borrow.Author.Tests.{eqb-true, eqb-false}
use Rattle.base.specs.Lists.{sum}
use Rattle.rules.specs.declared.Fault.TheVariants.{BitsMissing, ConstraintFalse}
use Rattle.rules.specs.Values.{Value, value, fault}
use Rattle.rules.specs.Fields.{Field, Description, fixed_bits}
use Rattle.rules.specs.Reading.{Entry, absent, Step, step, stop, and_then, complete, left_over, read_on, read_field}
use Rattle.rules.specs.Reading.{read_field_in, read_fields, read_fields_in, reading, bit_total, holds, width_at}
use Rattle.rules.specs.Reading.{entry_at, constrained, bounded}
use Rattle.rules.specs.Cover.{IsYes, KeptBy, Kept}
use Rattle.laws.proofs.Readings.{accepted_fields}

-- ── one field ──

-- the entry of a step keeps condition and constraint
abbrev KeptIn : List Entry → Field ℕ → Step → Type 0
KeptIn before f (step e next) = KeptBy before f e
KeptIn before f (stop x) = Unit {0}

positive : (n : ℕ) → (n ≡ 0 → ⊥) → 0 < n
positive n h = omega (arith, h)

module _ (before : List Entry) (f : Field ℕ) where
  -- the condition is yes: what is left to show is the constraint
  present_kept : IsYes (holds before f.condition) → (e : Entry) (next : ℕ) → e.present ≡ 1
      → KeptIn before f (constrained before e next f.constraint)
  present_kept y e next p = go (holds (before ++ (e ∷ [])) f.constraint) refl
    where
      test : (n : ℕ) (b : Bool) → eqb n 0 ≡ b → holds (before ++ (e ∷ [])) f.constraint ≡ value n
          → KeptIn before f (cond b (stop ConstraintFalse) (step e next))
      test n true q h = tt
      test n false q h = inr (y, p, rw h (positive n (eqb-false n 0 q)))

      go : (v : Value) → holds (before ++ (e ∷ [])) f.constraint ≡ v
          → KeptIn before f (and_then v (λ c. cond (eqb c 0) (stop ConstraintFalse) (step e next)))
      go (value n) h = test n (eqb n 0) refl h
      go (fault x) h = tt

  bounded_kept : IsYes (holds before f.condition) → (packet : List ℕ) (place n : ℕ)
      → KeptIn before f (bounded packet before place f n)
  bounded_kept y packet place n = go (ltb (bit_total packet) (place + n))
    where
      e : Entry
      e = entry_at packet place f.width n

      go : (b : Bool) → KeptIn before f (cond b (stop BitsMissing) (constrained before e (place + n) f.constraint))
      go true = tt
      go false = present_kept y e (place + n) refl

  field_kept : (packet : List ℕ) (place later : ℕ) → KeptIn before f (read_field packet before place later f)
  unfolding read_field_in
  field_kept packet place later = go (holds before f.condition) refl
    where
      present : Step
      present = and_then (width_at packet before place later f.width) (bounded packet before place f)

      widths : IsYes (holds before f.condition) → (v : Value) → KeptIn before f (and_then v
          (bounded packet before place f))
      widths y (value n) = bounded_kept y packet place n
      widths y (fault x) = tt

      test : (n : ℕ) (b : Bool) → eqb n 0 ≡ b → holds before f.condition ≡ value n
          → KeptIn before f (cond b (step absent place) present)
      test n true q h = inl (h ∙ ap value (eqb-true n 0 q), refl)
      test n false q h = widths (rw h (positive n (eqb-false n 0 q))) (width_at packet before place later f.width)

      go : (v : Value) → holds before f.condition ≡ v
          → KeptIn before f (and_then v (λ c. cond (eqb c 0) (step absent place) present))
      go (value n) h = test n (eqb n 0) refl h
      go (fault x) h = tt

-- ── all fields ──

-- the entries behind some entries, each kept
record Behind (before : List Entry) (fs : List (Field ℕ)) (all : List Entry) : Type 0 where
  more : List Entry
  joined : all ≡ before ++ more
  kept : Kept before fs more

at_end : (before all : List Entry) (b : Bool) → cond b (complete before) left_over ≡ complete all → Behind before [] all
at_end before all true h = record { more = []; joined = cc (append-nil before); kept = tt }
at_end before all false h = let z : ◌≡◌ {A = ℕ} 0 1 = cc in absurd (omega arith)

fields_kept : (packet : List ℕ) (before all : List Entry) (place : ℕ) (fs : List (Field ℕ))
    → read_fields packet before place fs ≡ complete all → Behind before fs all
unfolding read_fields_in
fields_kept packet before all place [] h = at_end before all (eqb place (bit_total packet)) h
fields_kept packet before all place (f ∷ fs) h =
    go (read_field packet before place (sum fixed_bits fs) f) (field_kept before f packet place (sum fixed_bits fs)) h
    (λ more next. fields_kept packet more all next fs)
  where
    go : (s : Step) → KeptIn before f s → read_on before s (λ more next. read_fields packet more next fs) ≡ complete all
        → ((more : List Entry) (next : ℕ) → read_fields packet more next fs ≡ complete all → Behind more fs all)
        → Behind before (f ∷ fs) all
    go (step e next) k h ih = let w = ih (before ++ (e ∷ [])) next h in record {
      more = e ∷ w.more;
      joined = w.joined ∙ append_assoc before (e ∷ []) w.more;
      kept = (k, w.kept);
    }
    go (stop x) k h ih = let z : ◌≡◌ {A = ℕ} 0 1 = cc in absurd (omega arith)

pub conditions_kept : (d : Description) (packet : List ℕ) (entries : List Entry) → reading d packet ≡ complete entries
    → Kept [] d.fields entries
conditions_kept d packet entries h =
    let w = fields_kept packet [] entries 0 d.fields (accepted_fields d packet entries h) in
    rw w.joined w.kept
