-- An accepted packet is within the limit, and its entries are what reading the fields gives; a refused one is told by
-- a number of 22 or more.
use mathlib.Core.Path.{◌≡◌, refl}
use mathlib.Core.Bool.{Bool, true, false, cond}
use mathlib.Core.List.{List, [], ◌∷◌, ◌++◌}
use Prim.Native.Nat.{ℕ, ◌<◌}
use native.Mathlib.Omega.{arith}
use lib.Dec.{eqb}
use Rattle.base.specs.Lists.{sum}
use Rattle.rules.specs.declared.Fault.{Fault}
use Rattle.rules.specs.Answers.{fault_number}
use Rattle.rules.specs.Fields.{Field, Description, fixed_bits}
use Rattle.rules.specs.Reading.{
  Entry,
  Step,
  step,
  stop,
  Reading,
  complete,
  refusing,
  too_long,
  left_over,
  bit_total,
  read_on,
  read_field,
  read_fields,
  read_fields_in,
  is_too_long,
  reading,
  reading_in,
}

pub accepted_short : (d : Description) (packet : List ℕ) (entries : List Entry) → reading d packet ≡ complete entries
    → is_too_long packet ≡ false
unfolding reading_in
accepted_short d packet entries h = go (is_too_long packet) h
  where
    go : (b : Bool) → cond b too_long (read_fields packet [] 0 d.fields) ≡ complete entries → b ≡ false
    go true h = let z : ◌≡◌ {A = ℕ} 0 1 = cc in absurd (omega arith)
    go false h = refl

pub accepted_fields : (d : Description) (packet : List ℕ) (entries : List Entry) → reading d packet ≡ complete entries
    → read_fields packet [] 0 d.fields ≡ complete entries
unfolding reading_in
accepted_fields d packet entries h = rw (accepted_short d packet entries h) at h

-- ── refusals ──

pub fault_large : (f : Fault) → 21 < fault_number f
unfolding fault_number
fault_large Fault.BitsMissing = omega arith
fault_large Fault.ConstraintFalse = omega arith
fault_large Fault.AbsentRead = omega arith
fault_large Fault.OutOfRange = omega arith
fault_large Fault.ZeroDivisor = omega arith

-- a refusal has a number of 22 or more, and no value
abbrev pub Told : Reading → Type 0
Told (complete entries) = Unit {0}
Told (refusing a) = (21 < a.number) × (a.amount ≡ 0)

at_end : (entries : List Entry) (b : Bool) → Told (cond b (complete entries) left_over)
at_end entries true = tt
at_end entries false = (omega arith, refl)

fields_told : (packet : List ℕ) (entries : List Entry) (place : ℕ) (fs : List (Field ℕ))
    → Told (read_fields packet entries place fs)
unfolding read_fields_in
fields_told packet entries place [] = at_end entries (eqb place (bit_total packet))
fields_told packet entries place (f ∷ fs) =
    go (read_field packet entries place (sum fixed_bits fs) f) (λ more next. fields_told packet more next fs)
  where
    go : (s : Step) → ((more : List Entry) (next : ℕ) → Told (read_fields packet more next fs))
        → Told (read_on entries s (λ more next. read_fields packet more next fs))
    go (step e next) ih = ih (entries ++ (e ∷ [])) next
    go (stop f) ih = (fault_large f, refl)

pub reading_told : (d : Description) (packet : List ℕ) → Told (reading d packet)
unfolding reading_in
reading_told d packet = go (is_too_long packet)
  where
    go : (b : Bool) → Told (cond b too_long (read_fields packet [] 0 d.fields))
    go true = (omega arith, refl)
    go false = fields_told packet [] 0 d.fields
