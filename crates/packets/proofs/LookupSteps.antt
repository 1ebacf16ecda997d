-- Records by index and fields by name, one record after the other: what the loops need.
use mathlib.Core.Path.{◌≡◌, refl, ap, sym, ◌∙◌}
use mathlib.Core.Bool.{Bool, true, false, cond, ◌||◌, not}
use mathlib.Core.List.{List, [], ◌∷◌}
use Prim.Native.Nat.{ℕ, zero, suc, ◌+◌, ◌-◌, ◌<◌, ◌≤◌}
use native.Mathlib.Omega.{arith}
use lib.Dec.{ltb, eqb}
use lib.ListN.{length, take, drop, length-drop}
use lib.Seq.{length-take-le}
use borrow.Author.Tests.{lt-ltb, le-ltb, ltb-true, ltb-false}
use Rattle.base.specs.Lists.{same}
use Rattle.base.proofs.Lists.{fails, same_true, or_right, or_false_right}
use Rattle.rules.specs.declared.FieldRefusal.{FieldRefusal}
use Rattle.rules.specs.Answers.{FieldAnswer}
use native.Mathlib.Nat.{add-zero, zero-add}
use Rattle.std.specs.Prelude.{Option, Some, None, Ok, Err}
use Rattle.std.specs.Option.{ok_or}
use Rattle.std.proofs.Common.{sub-one}
use Rattle.std.specs.List.{fold, position_or_len}
use Rattle.packets.specs.declared.records.Parts.{Parts}
use Rattle.writing.specs.declared.spans.Span.{Span}
use Rattle.packets.specs.Parts.{table_most, ending, parts_at}
use Rattle.packets.specs.Lookups.{is_missing, is_named_in, place_from, records_from, has_name, find_from}

-- ── a part ──

module _ (s : List ℕ) (p : Span) where
  pub outside_span : length s < ending p → (ltb (length s) p.at || ltb (length s - p.at) p.len) ≡ true
  outside_span h = go (ltb (length s) p.at) refl
    where
      go : (b : Bool) → ltb (length s) p.at ≡ b → (b || ltb (length s - p.at) p.len) ≡ true
      go true e = refl
      go false e = let le = ltb-false _ _ e in lt-ltb (length s - p.at) p.len (omega arith)

  pub inside_span : ending p ≤ length s → (ltb (length s) p.at || ltb (length s - p.at) p.len) ≡ false
  inside_span h = rw (le-ltb (length s) p.at (omega arith), le-ltb (length s - p.at) p.len (omega arith))

  pub missing_past : length s < ending p → is_missing s p ≡ true
  missing_past h = or_right (eqb p.len 0) _ (outside_span h)

  pub missing_empty : ending p ≤ length s → is_missing s p ≡ (eqb p.len 0 || false)
  missing_empty h = rw (inside_span h)

-- a part of another length is not the name
pub named_other : (s : List ℕ) (p : Span) (name : List ℕ) → (length name ≡ p.len → ⊥) → false ≡ is_named_in s p name
unfolding is_named_in
named_other s p name other = go (is_missing s p) refl
  where
    part : List ℕ
    part = take p.len (drop p.at s)

    go : (b : Bool) → is_missing s p ≡ b → false ≡ cond b false (same name part)
    go true e = refl
    go false e =
        let outside = or_false_right (eqb p.len 0) (ltb (length s) p.at || ltb (length s - p.at) p.len) e in
        let inside : p.len ≤ length s - p.at =
        ltb-false _ _ (or_false_right (ltb (length s) p.at) (ltb (length s - p.at) p.len) outside) in
        let long = length-take-le p.len (drop p.at s) (omega (arith, inside, length-drop p.at s)) in
        sym (fails (same name part) (λ h. other (ap length (same_true name part h) ∙ long)))

-- ── the records that are left ──

module _ (s : List ℕ) (n place : ℕ) where
  pub records_none : n ≡ 0 → records_from s n place ≡ []
  unfolding records_from
  records_none e = rw e

  pub records_past : table_most < place → records_from s n place ≡ []
  unfolding records_from
  records_past t = go n
    where
      go : (m : ℕ) → records_from s m place ≡ []
      go zero = refl
      go (suc m) = rw (lt-ltb table_most place t)

pub records_step : (s : List ℕ) (n place : ℕ) → (n ≡ 0 → ⊥) → place ≤ table_most
    → records_from s n place ≡ parts_at s place ∷ records_from s (n - 1) (parts_at s place).next
unfolding records_from
records_step s zero place h t = absurd (h refl)
records_step s (suc n) place h t = rw (sub-one, le-ltb table_most place t)

pub ruleset records_rules = (records_none, records_past, records_step)

pub records_few : (s : List ℕ) (n place : ℕ) → length (records_from s n place) ≤ n
unfolding records_from
records_few s zero place = omega arith
records_few s (suc n) place =
    go (ltb table_most place) (parts_at s place) (records_from s n (parts_at s place).next)
    (records_few s n (parts_at s place).next)
  where
    go : (b : Bool) (p : Parts) (ps : List Parts) → length ps ≤ n → length (cond b [] (p ∷ ps)) ≤ suc n
    go true p ps h = omega arith
    go false p ps h = omega arith

-- the place behind the last of them
pub place_is : (s : List ℕ) (n place : ℕ)
    → fold (λ (_ : ℕ) (p : Parts). p.next) place (records_from s n place) ≡ place_from s n place
unfolding records_from place_from
place_is s zero place = refl
place_is s (suc n) place = go (ltb table_most place) (place_is s n (parts_at s place).next)
  where
    p : Parts
    p = parts_at s place

    all : List Parts
    all = records_from s n p.next

    go : {x : ℕ} (b : Bool) → fold (λ (_ : ℕ) (p : Parts). p.next) p.next all ≡ x
        → fold (λ (_ : ℕ) (p : Parts). p.next) place (cond b [] (p ∷ all)) ≡ cond b place x
    go true e = refl
    go false e = e

-- the index from i on of what stands k behind it, where n do
abbrev answer_at : ℕ → ℕ → ℕ → FieldAnswer
answer_at i k n = cond (ltb k n) (Ok (i + k)) (Err FieldRefusal.Unknown)

one_behind : (i k n : ℕ) → answer_at (i + 1) k n ≡ answer_at i (1 + k) (suc n)
one_behind i k n =
    let e : i + 1 + k ≡ i + (1 + k) = omega arith in
    rw e (go (ltb k n) refl)
  where
    go : (b : Bool) → ltb k n ≡ b
        → cond b (Ok (i + (1 + k))) (Err FieldRefusal.Unknown) ≡ answer_at i (1 + k) (suc n)
    go true e = let h = ltb-true k n e in rw (lt-ltb (1 + k) (suc n) (omega arith))
    go false e = let h = ltb-false k n e in rw (le-ltb (1 + k) (suc n) (omega arith))

-- the first of some records has the name, or does not
here_or_behind : (i k n : ℕ) (x : FieldAnswer) (h : Bool) → x ≡ answer_at i (1 + k) (suc n)
    → cond h (Ok i) x ≡ answer_at i (cond (not h) (1 + k) 0) (suc n)
here_or_behind i k n x true e = rw (add-zero i, lt-ltb 0 (suc n) (omega arith))
here_or_behind i k n x false e = e

-- what is found from an index on, by how many records stand before the first that has the name
pub find_is : (s name : List ℕ) (i n place : ℕ) → find_from s name i n place
    ≡ answer_at i (position_or_len (λ p. has_name s p name) (records_from s n place)) (length (records_from s n place))
unfolding find_from records_from
find_is s name i zero place = refl
find_is s name i (suc n) place =
    go (ltb table_most place)
    (here_or_behind i (position_or_len test all) (length all) _ (test p)
    (find_is s name (i + 1) n p.next ∙ one_behind i (position_or_len test all) (length all)))
  where
    test : Parts → Bool
    test r = has_name s r name

    p : Parts
    p = parts_at s place

    all : List Parts
    all = records_from s n p.next

    go : {x : FieldAnswer} (b : Bool) → x ≡ answer_at i (position_or_len test (p ∷ all)) (length (p ∷ all))
        → cond b (Err FieldRefusal.Unknown) x
        ≡ answer_at i (position_or_len test (cond b [] (p ∷ all))) (length (cond b [] (p ∷ all)))
    go true e = refl
    go false e = e

-- what the code makes of how many records stand before the first that has the name, if one does
pub found : (s name : List ℕ) (n place : ℕ) (r : Option ℕ)
    → r ≡ (let all = records_from s n place in
    let k = position_or_len (λ p. has_name s p name) all in cond (ltb k (length all)) (Some k) None)
    → ok_or r FieldRefusal.Unknown ≡ find_from s name 0 n place
found s name n place r is = rw is (go (ltb k (length all)) ∙ sym (find_is s name 0 n place))
  where
    all : List Parts
    all = records_from s n place

    k : ℕ
    k = position_or_len (λ p. has_name s p name) all

    go : (b : Bool) → ok_or (cond b (Some k) None) FieldRefusal.Unknown
        ≡ cond b (Ok (0 + k)) (Err FieldRefusal.Unknown)
    go true = rw (zero-add k)
    go false = refl
