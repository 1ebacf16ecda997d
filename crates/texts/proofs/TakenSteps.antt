-- Operators that may stand at a level, as the code finds them, against the steps of the reader.
use mathlib.Core.Path.{◌≡◌, refl, ap, sym}
use mathlib.Core.Bool.{Bool, true, false, cond, ◌&&◌, ◌||◌}
use mathlib.Core.Logic.{◌⊎◌, inl, inr}
use mathlib.Core.List.{List}
use Prim.Native.Nat.{ℕ, ◌≤◌, ◌<◌}
use native.Mathlib.Omega.{arith}
use lib.Dec.{leb, ltb, eqb}
use lib.ListN.{length, drop}
use borrow.Author.Tests.{le-leb, lt-leb, leb-true, ltb-true, eqb-true}
use Rattle.base.specs.Lists.{all}
use Rattle.base.proofs.Lists.{and_left, or_cases}
use Rattle.base.proofs.Breaks.{and_true}
use Rattle.rules.specs.declared.Op.{Op}
use Rattle.rules.specs.Operators.{operator, operators, level, left_level, right_level}
use Rattle.text_laws.specs.Reader.{Out, Found, missing, found, first_of, order, skip, skip_behind, operator_at, step}
use Rattle.text_laws.proofs.OperatorTable.{each}
use Rattle.operators.specs.declared.rows.Row.{Row}
use Rattle.operators.specs.Rows.{row_of}
use Rattle.texts.specs.ExprPlaces.{SameSign, WithinSign, taken_by as taken_of, taken_in, SameTaken, WithinTaken}
use Rattle.texts.specs.Chains.{tightest_level}
use Rattle.std.specs.Prelude.{Option, None, Some}
use Rattle.texts.specs.declared.signs.Taken.{Taken}
use Rattle.texts.proofs.OperatorRows.{row_level, row_left, row_right}
use Rattle.texts.proofs.ExprSigns.{sign_none, sign_some, sign_within}
use Rattle.texts.proofs.ExprSteps.{row_stops}

-- ── what the code finds ──

-- the sign g behind a space or none, at `from`
module _ (s : List ℕ) (at from k h : ℕ) (g : Option (Op × ℕ)) (skips : drop from s ≡ skip (drop at s))
    (w : SameSign s (first_of order (drop from s)) g) where
  abbrev pub TakenHere : Option Taken → Type 0
  TakenHere r = WithinTaken s at r × SameTaken s (taken_in k h (operator_at (drop at s))) r

  pub taken_none : g ≡ None → TakenHere None
  unfolding taken_in SameTaken WithinTaken operator_at skip_behind
  taken_none e =
      let q : first_of order (skip (drop at s)) ≡ missing =
      rw skips at (sign_none s (first_of order (drop from s)) g e w) in
      (tt, rw q refl)

  operator_is : (o : Op) (n : ℕ) → g ≡ Some (o, n) → operator_at (drop at s) ≡ found o (skip (drop n s))
  unfolding operator_at skip_behind
  operator_is o n i =
      let q : first_of order (skip (drop at s)) ≡ found o (drop n s) =
      rw skips at (sign_some s (first_of order (drop from s)) g o n i w) in
      rw q refl

  pub taken_stop : (o : Op) (n : ℕ) → g ≡ Some (o, n) → (row : Row) → row ≡ row_of o
      → (row.level < k) ⊎ (h < row.left) → TakenHere None
  unfolding taken_in SameTaken WithinTaken
  taken_stop o n i row is out = (tt, rw (operator_is o n i, row_stops k h o row is out) refl)

  pub taken_by : (o : Op) (n : ℕ) → g ≡ Some (o, n) → (row : Row) → row ≡ row_of o → k ≤ row.level → row.left ≤ h
      → at ≤ from → WithinSign s from g → (m : ℕ) → n ≤ m → m ≤ length s → drop m s ≡ skip (drop n s)
      → TakenHere (Some (record { op = o; end = m; level = row.level; right = row.right }))
  unfolding taken_in SameTaken WithinTaken
  taken_by o n i row is kl lh lo u m nm hi d =
      let l : k ≤ level o = omega (arith, row_level row o is) in
      let e : left_level o ≤ h = omega (arith, row_left row o is) in
      let v = sign_within s from g o n i u in (
        (omega (arith, v.0), hi),
        rw (operator_is o n i, le-leb k (level o) l, le-leb (left_level o) h e)
            (m, rw (← row_level row o is, ← row_right row o is) refl, d),
      )

-- ── what it tells ──

pub is_missing_lem : (s : List ℕ) (a : Found) (r : Option Taken) → r ≡ None → SameTaken s a r → a ≡ missing
unfolding SameTaken
is_missing_lem s missing r e w = refl
is_missing_lem s (found o q) r e w = let e' = w.1 in cc

pub record Told (s : List ℕ) (at : ℕ) (a : Found) (t : Taken) : Type 0 where
  pub found : a ≡ found t.op (drop t.end s)
  pub low : at < t.end
  pub high : t.end ≤ length s
  pub level : t.level ≡ level t.op
  pub right : t.right ≡ right_level t.op

pub is_found : (s : List ℕ) (at : ℕ) (a : Found) (r : Option Taken) (t : Taken) → r ≡ Some t
    → WithinTaken s at r → SameTaken s a r → Told s at a t
unfolding WithinTaken SameTaken
is_found s at a r t p i w =
    let u : (at < t.end) × (t.end ≤ length s) = rw p at i in
    let f = by a w in record { found = f.0; low = u.0; high = u.1; level = f.1; right = f.2 }
  where
    by : (a : Found) → SameTaken s a r
        → (a ≡ found t.op (drop t.end s)) × (t.level ≡ level t.op) × (t.right ≡ right_level t.op)
    by missing w = let z : ◌≡◌ {A = ℕ} 0 1 = cc in absurd (omega arith)
    by (found o' r') w =
        let e' : t ≡ taken_of o' w.0 = cc in
        rw e' (ap (found o') (sym w.2), refl, refl)

-- ── the reader's step ──

module _ (k h : ℕ) (stop : Out) (go : Op → List ℕ → Out) where
  pub step_none : (a : Found) → taken_in k h a ≡ missing → step k h stop a go ≡ stop
  unfolding step taken_in
  step_none missing e = refl
  step_none (found o r) e = pick (leb k (level o) && leb (left_level o) h) e
    where
      pick : (b : Bool) → cond b (found o r) missing ≡ missing → cond b (go o r) stop ≡ stop
      pick true e = let z : ◌≡◌ {A = ℕ} 0 1 = cc in absurd (omega arith)
      pick false e = refl

  pub step_some : (a : Found) (o : Op) (r : List ℕ) → taken_in k h a ≡ found o r → step k h stop a go ≡ go o r
  unfolding step taken_in
  step_some missing o r e = let z : ◌≡◌ {A = ℕ} 0 1 = cc in absurd (omega arith)
  step_some (found p q) o r e = pick (leb k (level p) && leb (left_level p) h) e
    where
      pick : (b : Bool) → cond b (found p q) missing ≡ found o r → cond b (go p q) stop ≡ go o r
      pick true e = let x : p ≡ o = cc in let y : q ≡ r = cc in rw (x, y)
      pick false e = let z : ◌≡◌ {A = ℕ} 0 1 = cc in absurd (omega arith)

-- an operator that is taken binds as tightly as the level asks
pub taken_level : (k h : ℕ) (a : Found) (o : Op) (r : List ℕ) → taken_in k h a ≡ found o r → k ≤ level o
unfolding taken_in
taken_level k h missing o r e = let z : ◌≡◌ {A = ℕ} 0 1 = cc in absurd (omega arith)
taken_level k h (found p q) o r e = pick (leb k (level p) && leb (left_level p) h) refl e
  where
    pick : (b : Bool) → (leb k (level p) && leb (left_level p) h) ≡ b → cond b (found p q) missing ≡ found o r
        → k ≤ level o
    pick true t e =
        let x : p ≡ o = cc in
        rw (← x) (leb-true k (level p) (and_left (leb k (level p)) (leb (left_level p) h) t))
    pick false t e = let z : ◌≡◌ {A = ℕ} 0 1 = cc in absurd (omega arith)

-- ── the tightest level ──

-- it is that of operators that group to the right
abbrev is_tight : Op → Bool
is_tight o = ltb (level o) tightest_level
    || (eqb (level o) tightest_level && (eqb (right_level o) tightest_level && ltb tightest_level (left_level o)))

abbrev Tight : Op → Type 0
Tight o = (level o < tightest_level)
    ⊎ ((level o ≡ tightest_level) × (right_level o ≡ tightest_level) × (tightest_level < left_level o))

tightest : (o : Op) → Tight o
unfolding all operators operator
tightest o = tell (or_cases (ltb (level o) tightest_level) _ (each is_tight refl o))
  where
    tell : (ltb (level o) tightest_level ≡ true)
        ⊎ ((eqb (level o) tightest_level && (eqb (right_level o) tightest_level && ltb tightest_level (left_level o)))
        ≡ true) → Tight o
    tell (inl e) = inl (ltb-true (level o) tightest_level e)
    tell (inr e) =
        let q = and_true (eqb (level o) tightest_level) _ e in
        let p = and_true (eqb (right_level o) tightest_level) (ltb tightest_level (left_level o)) q.1 in
        inr (eqb-true _ _ q.0, eqb-true _ _ p.0, ltb-true _ _ p.1)

module _ (k : ℕ) (ge : tightest_level ≤ k) where
  -- an operator that is taken there has its right operand there
  pub tightest_right : (o : Op) → k ≤ level o → (right_level o ≡ k) × (level o ≡ k)
  tightest_right o le = tell (tightest o)
    where
      tell : Tight o → (right_level o ≡ k) × (level o ≡ k)
      tell (inl lt) = absurd (omega arith)
      tell (inr p) = (omega (arith, p.0, p.1), omega (arith, p.0))

  -- and none is taken behind a whole of that level
  pub tightest_stops : (a : Found) → taken_in k k a ≡ missing
  unfolding taken_in
  tightest_stops missing = refl
  tightest_stops (found o r) = rw (off (tightest o)) refl
    where
      off : Tight o → (leb k (level o) && leb (left_level o) k) ≡ false
      off (inl lt) = rw (lt-leb k (level o) (omega arith)) refl
      off (inr p) = pick (leb k (level o)) refl
        where
          pick : (b : Bool) → leb k (level o) ≡ b → (b && leb (left_level o) k) ≡ false
          pick true t = lt-leb (left_level o) k (omega (arith, p.0, p.2, leb-true k (level o) t))
          pick false t = refl
