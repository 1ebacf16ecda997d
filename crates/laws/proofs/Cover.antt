-- In an accepted packet the present fields lie in order without gaps, and each bit lies in exactly one of them.
use mathlib.Core.Path.{◌≡◌, refl, ap, ◌∙◌}
use mathlib.Core.Bool.{Bool, true, false, cond}
use mathlib.Core.Logic.{◌⊎◌, inl, inr}
use mathlib.Core.List.{List, [], ◌∷◌, ◌++◌, append_assoc, append-nil}
use Prim.Native.Nat.{ℕ, zero, suc, ◌+◌, ◌≤◌, ◌<◌}
use native.Mathlib.Omega.{arith}
use native.Mathlib.Nat.{zero-add}
use lib.Dec.{ltb, eqb}
use borrow.Author.Tests.{eqb-true, ltb-true, ltb-false}
use Rattle.base.specs.Lists.{sum}
use Rattle.rules.specs.Fields.{Field, Description, fixed_bits}
use Rattle.rules.specs.declared.Fault.TheVariants.{BitsMissing, ConstraintFalse}
use Rattle.rules.specs.Values.{Value, value, fault}
use Rattle.rules.specs.Reading.{Entry, absent, Step, step, stop, and_then, complete, left_over, read_on, read_field}
use Rattle.rules.specs.Reading.{read_field_in, read_fields, read_fields_in, reading, bit_total, holds, width_at}
use Rattle.rules.specs.Reading.{entry_at, constrained, bounded}
use Rattle.rules.specs.Cover.{LiesIn, Covers, OnlyOne, InOrder}
use Rattle.laws.proofs.Readings.{accepted_fields}

-- ── one field ──

-- an absent field takes nothing; a present one starts at the place, and the next place is behind it
abbrev pub Placed : ℕ → Step → Type 0
Placed place (step e next) =
    ((e ≡ absent) × (next ≡ place)) ⊎ ((e.present ≡ 1) × (e.offset ≡ place) × (next ≡ place + e.width))
Placed place (stop f) = Unit {0}

either : (place : ℕ) (b : Bool) (s t : Step) → Placed place s → Placed place t → Placed place (cond b s t)
either place true s t p q = p
either place false s t p q = q

both : (place : ℕ) (v : Value) (next : ℕ → Step) → ((n : ℕ) → Placed place (next n)) → Placed place (and_then v next)
both place (value n) next p = p n
both place (fault f) next p = tt

present_placed : (packet : List ℕ) (entries : List Entry) (place : ℕ) (f : Field ℕ) (n : ℕ)
    → Placed place (bounded packet entries place f n)
present_placed packet entries place f n =
    let e : Entry = entry_at packet place f.width n in
    either place (ltb (bit_total packet) (place + n)) (stop BitsMissing)
    (constrained entries e (place + n) f.constraint) tt
    (both place (holds (entries ++ (e ∷ [])) f.constraint)
    (λ c. cond (eqb c 0) (stop ConstraintFalse) (step e (place + n)))
    (λ c. either place (eqb c 0) (stop ConstraintFalse) (step e (place + n)) tt (inr (refl, refl, refl))))

pub field_placed : (packet : List ℕ) (entries : List Entry) (place later : ℕ) (f : Field ℕ)
    → Placed place (read_field packet entries place later f)
unfolding read_field_in
field_placed packet entries place later f =
    let present : Step = and_then (width_at packet entries place later f.width) (bounded packet entries place f) in
    both place (holds entries f.condition) (λ c. cond (eqb c 0) (step absent place) present)
    (λ c. either place (eqb c 0) (step absent place) present (inl (refl, refl))
    (both place (width_at packet entries place later f.width) (bounded packet entries place f)
    (present_placed packet entries place f)))

-- ── all fields ──

-- the entries that come behind the first ones
pub record Behind (entries : List Entry) (place : ℕ) (packet : List ℕ) (all : List Entry) : Type 0 where
  pub more : List Entry
  pub joined : all ≡ entries ++ more
  pub ordered : InOrder place more (bit_total packet)

at_end : (packet : List ℕ) (entries all : List Entry) (place : ℕ) (b : Bool) → eqb place (bit_total packet) ≡ b
    → cond b (complete entries) left_over ≡ complete all → Behind entries place packet all
at_end packet entries all place true e h =
    record { more = []; joined = cc (append-nil entries); ordered = eqb-true place (bit_total packet) e }
at_end packet entries all place false e h = let z : ◌≡◌ {A = ℕ} 0 1 = cc in absurd (omega arith)

cons_behind : (packet : List ℕ) (entries all : List Entry) (place next : ℕ) (e : Entry) → Placed place (step e next)
    → Behind (entries ++ (e ∷ [])) next packet all → Behind entries place packet all
cons_behind packet entries all place next e (inl p) w = record {
  more = e ∷ w.more;
  joined = w.joined ∙ append_assoc entries (e ∷ []) w.more;
  ordered = inl (p.0, rw p.1 at w.ordered);
}
cons_behind packet entries all place next e (inr p) w = record {
  more = e ∷ w.more;
  joined = w.joined ∙ append_assoc entries (e ∷ []) w.more;
  ordered = inr (p.0, p.1, rw p.2 at w.ordered);
}

pub fields_behind : (packet : List ℕ) (entries all : List Entry) (place : ℕ) (fs : List (Field ℕ))
    → read_fields packet entries place fs ≡ complete all → Behind entries place packet all
unfolding read_fields_in
fields_behind packet entries all place [] h = at_end packet entries all place (eqb place (bit_total packet)) refl h
fields_behind packet entries all place (f ∷ fs) h =
    go (read_field packet entries place (sum fixed_bits fs) f)
    (field_placed packet entries place (sum fixed_bits fs) f) h
    (λ more next. fields_behind packet more all next fs)
  where
    go : (s : Step) → Placed place s → read_on entries s (λ more next. read_fields packet more next fs) ≡ complete all
        → ((more : List Entry) (next : ℕ) → read_fields packet more next fs ≡ complete all
        → Behind more next packet all)
        → Behind entries place packet all
    go (step e next) p h ih = cons_behind packet entries all place next e p (ih (entries ++ (e ∷ [])) next h)
    go (stop f) p h ih = let z : ◌≡◌ {A = ℕ} 0 1 = cc in absurd (omega arith)

in_order : (d : Description) (packet : List ℕ) (entries : List Entry) → reading d packet ≡ complete entries
    → InOrder 0 entries (bit_total packet)
in_order d packet entries h =
    let w = fields_behind packet [] entries 0 d.fields (accepted_fields d packet entries h) in
    rw w.joined w.ordered

-- ── from the order to sums and bits ──

order_sum : (es : List Entry) (place end : ℕ) → InOrder place es end → place + sum (λ e. e.width) es ≡ end
unfolding sum
order_sum [] place end p = omega arith
order_sum (e ∷ es) place end (inl p) = let w : e.width ≡ 0 = ap (λ (x : Entry). x.width) p.0 in
    let q = order_sum es place end p.1 in omega arith
order_sum (e ∷ es) place end (inr p) = let q = order_sum es (place + e.width) end p.2 in omega arith

-- a bit that lies in an entry does not lie before the first place
order_from : (es : List Entry) (place end bit j : ℕ) → InOrder place es end → Covers es bit j → place ≤ bit
order_from [] place end bit zero p h = let z : ◌≡◌ {A = ℕ} 0 1 = h.present in absurd (omega arith)
order_from [] place end bit (suc j) p h = let z : ◌≡◌ {A = ℕ} 0 1 = h.present in absurd (omega arith)
order_from (e ∷ es) place end bit zero (inl p) h =
    let z : e.present ≡ 0 = ap (λ (x : Entry). x.present) p.0 in let o = h.present in absurd (omega arith)
order_from (e ∷ es) place end bit zero (inr p) h = let o = p.1 in let f = h.from in omega arith
order_from (e ∷ es) place end bit (suc j) (inl p) h = order_from es place end bit j p.1 h
order_from (e ∷ es) place end bit (suc j) (inr p) h =
    let q = order_from es (place + e.width) end bit j p.2 h in omega arith

-- what holds of one index behind the first entry, and not of the first, holds of one index
later : (e : Entry) (es : List Entry) (bit : ℕ) → (LiesIn bit e → ⊥) → OnlyOne (Covers es bit) → OnlyOne (Covers
    (e ∷ es) bit)
later e es bit not_here w = record { index = suc w.index; has = w.has; only = only }
  where
    only : (j : ℕ) → Covers (e ∷ es) bit j → j ≡ suc w.index
    only zero h = absurd (not_here h)
    only (suc j) h = ap suc (w.only j h)

order_only : (es : List Entry) (place end bit : ℕ) → InOrder place es end → place ≤ bit → bit < end → OnlyOne
    (Covers es bit)
order_only [] place end bit p ge lt = absurd (omega arith)
order_only (e ∷ es) place end bit (inl p) ge lt =
    later e es bit
    (λ h. let z : e.present ≡ 0 = ap (λ (x : Entry). x.present) p.0 in let o = h.present in omega arith)
    (order_only es place end bit p.1 ge lt)
order_only (e ∷ es) place end bit (inr p) ge lt =
    go (ltb bit (place + e.width)) refl (λ q. order_only es (place + e.width) end bit p.2 q lt)
  where
    only : bit < place + e.width → (j : ℕ) → Covers (e ∷ es) bit j → j ≡ 0
    only lt zero h = refl
    only lt (suc j) h = let q = order_from es (place + e.width) end bit j p.2 h in absurd (omega arith)

    go : (b : Bool) → ltb bit (place + e.width) ≡ b → (place + e.width ≤ bit → OnlyOne (Covers es bit))
        → OnlyOne (Covers (e ∷ es) bit)
    go true q ih =
        let o = p.1 in
        let lt : bit < place + e.width = ltb-true _ _ q in
        record {
          index = 0;
          has = record { present = p.0; from = omega arith; to = omega arith };
          only = only lt;
        }
    go false q ih =
        let o = p.1 in
        let le : place + e.width ≤ bit = ltb-false _ _ q in
        later e es bit (λ h. let t = h.to in omega arith) (ih le)

pub cover_in_order : (d : Description) (packet : List ℕ) (entries : List Entry) → reading d packet ≡ complete entries
    → InOrder 0 entries (bit_total packet) × (sum (λ e. e.width) entries ≡ bit_total packet)
cover_in_order d packet entries h =
    let o = in_order d packet entries h in
    (o, rw zero-add at (order_sum entries 0 (bit_total packet) o))

pub cover_unique : (d : Description) (packet : List ℕ) (entries : List Entry) → reading d packet ≡ complete entries
    → (bit : ℕ) → bit < bit_total packet → OnlyOne (Covers entries bit)
cover_unique d packet entries h bit lt =
    order_only entries 0 (bit_total packet) bit (in_order d packet entries h) (omega arith) lt
