-- In an accepted packet each field was read to its entry, from behind the entries before it.
use mathlib.Core.Path.{◌≡◌, refl, ap, ◌∙◌}
use mathlib.Core.List.{List, [], ◌∷◌, ◌++◌, append_assoc}
use mathlib.Core.Logic.{inl, inr}
use Prim.Native.Nat.{ℕ, suc, ◌+◌}
use native.Mathlib.Omega.{arith}
use native.Mathlib.Nat.{zero-add}
use lib.ListN.{length, length-append}
use Rattle.base.specs.Lists.{sum}
use Rattle.rules.specs.Fields.{Field, Description, fixed_bits}
use Rattle.rules.specs.Reading.{
  Entry,
  Step,
  step,
  stop,
  complete,
  read_on,
  read_field,
  read_fields,
  read_fields_in,
  reading,
}
use Rattle.rules.specs.EditResults.{width_of}
use Rattle.laws.proofs.Readings.{accepted_fields}
use Rattle.laws.proofs.Cover.{Placed, field_placed, fields_behind}

pub width_append : (l m : List Entry) → width_of (l ++ m) ≡ width_of l + width_of m
unfolding sum
width_append [] m = omega arith
width_append (e ∷ l) m = omega (arith, width_append l m)

pub width_one : (l : List Entry) (e : Entry) → width_of (l ++ (e ∷ [])) ≡ width_of l + e.width
unfolding sum
width_one l e = omega (arith, width_append l (e ∷ []))

-- the next place is behind the entry
next_place : (place : ℕ) (e : Entry) (next : ℕ) → Placed place (step e next) → next ≡ place + e.width
next_place place e next (inl p) = let w : e.width ≡ 0 = ap (λ (x : Entry). x.width) p.0 in omega (arith, p.1)
next_place place e next (inr p) = p.2

-- the field of an index, with the fixed widths that come after it, was read to its entry
pub record ReadTo (packet : List ℕ) (all : List Entry) (index later : ℕ) (f : Field ℕ) : Type 0 where
  pub before : List Entry
  pub entry : Entry
  pub more : List Entry
  pub whole : all ≡ before ++ (entry ∷ more)
  pub size : length before ≡ index
  pub reads : read_field packet before (width_of before) later f ≡ step entry (width_of before + entry.width)

-- the next field, behind the entries
here : (packet : List ℕ) (before all : List Entry) (f : Field ℕ) (after : List (Field ℕ))
    → read_fields packet before (width_of before) (f ∷ after) ≡ complete all
    → ReadTo packet all (length before) (sum fixed_bits after) f
unfolding read_fields_in
here packet before all f after h =
    go (read_field packet before (width_of before) (sum fixed_bits after) f) refl h
  where
    go : (s : Step) → read_field packet before (width_of before) (sum fixed_bits after) f ≡ s
        → read_on before s (λ more next. read_fields packet more next after) ≡ complete all
        → ReadTo packet all (length before) (sum fixed_bits after) f
    go (step e next) r h =
        let w = fields_behind packet (before ++ (e ∷ [])) all next after h in
        let p = rw r at (field_placed packet before (width_of before) (sum fixed_bits after) f) in
        record {
          before = before;
          entry = e;
          more = w.more;
          whole = w.joined ∙ append_assoc before (e ∷ []) w.more;
          size = refl;
          reads = r ∙ ap (step e) (next_place (width_of before) e next p);
        }
    go (stop x) r h = let z : ◌≡◌ {A = ℕ} 0 1 = cc in absurd (omega arith)

fields_read : (packet : List ℕ) (before all : List Entry) (place : ℕ) (fs : List (Field ℕ)) (f : Field ℕ)
    (after : List (Field ℕ)) → place ≡ width_of before
    → read_fields packet before place (fs ++ (f ∷ after)) ≡ complete all
    → ReadTo packet all (length before + length fs) (sum fixed_bits after) f
unfolding read_fields_in
fields_read packet before all place [] f after p h =
    let n : length before + 0 ≡ length before = omega arith in
    rw n (here packet before all f after (rw p at h))
fields_read packet before all place (x ∷ fs) f after p h =
    go (read_field packet before place (sum fixed_bits (fs ++ (f ∷ after))) x)
    (field_placed packet before place (sum fixed_bits (fs ++ (f ∷ after))) x) h
    (λ more next. fields_read packet more all next fs f after)
  where
    go : (s : Step) → Placed place s
        → read_on before s (λ more next. read_fields packet more next (fs ++ (f ∷ after))) ≡ complete all
        → ((more : List Entry) (next : ℕ) → next ≡ width_of more
        → read_fields packet more next (fs ++ (f ∷ after)) ≡ complete all
        → ReadTo packet all (length more + length fs) (sum fixed_bits after) f)
        → ReadTo packet all (length before + suc (length fs)) (sum fixed_bits after) f
    go (step e next) q h ih =
        let n : length (before ++ (e ∷ [])) + length fs ≡ length before + suc (length fs)
        = omega (arith, length-append before (e ∷ [])) in
        let w : next ≡ width_of (before ++ (e ∷ []))
        = omega (arith, next_place place e next q, p, width_one before e) in
        rw n at (ih (before ++ (e ∷ [])) next w h)
    go (stop y) q h ih = let z : ◌≡◌ {A = ℕ} 0 1 = cc in absurd (omega arith)

-- a field behind others, and before others
pub field_read : (d : Description) (packet : List ℕ) (entries : List Entry) (fs : List (Field ℕ)) (f : Field ℕ)
    (after : List (Field ℕ)) → d.fields ≡ fs ++ (f ∷ after) → reading d packet ≡ complete entries
    → ReadTo packet entries (length fs) (sum fixed_bits after) f
unfolding sum
field_read d packet entries fs f after e h =
    rw zero-add at
    (fields_read packet [] entries 0 fs f after refl (rw e at (accepted_fields d packet entries h)))
