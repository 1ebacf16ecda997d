-- What the code that cuts fields out and puts them in is told at its steps.
use mathlib.Core.Path.{◌≡◌, refl, sym, subst, ap, ◌∙◌}
use mathlib.Core.Bool.{Bool, true, false}
use mathlib.Core.List.{List, [], ◌∷◌, ◌++◌}
use Prim.Native.Nat.{ℕ, zero, suc, ◌+◌, ◌-◌, ◌<◌, ◌≤◌}
use native.Mathlib.Omega.{arith}
use native.Mathlib.Nat.{zero-add, add-zero}
use lib.Dec.{leb}
use lib.ListN.{length, take, drop, length-drop, take-append-drop}
use lib.Seq.{take_all, length-take-le, drop-drop, drop-length}
use borrow.Author.Tests.{le-leb, leb-true}
use Rattle.base.proofs.Lists.{and_left, and_right, not_both}
use Rattle.laws.specs.Places.{two_at}
use Rattle.laws.specs.Records.{whole}
use Rattle.std.specs.Prelude.{Ok, Err}
use Rattle.rules.specs.declared.EditRefusal.{EditRefusal}
use Rattle.rules.specs.Trees.{le2}
use Rattle.rules.specs.Answers.{accepted, of_edit}
use Rattle.rules.specs.Promises.{Outcome, leaves, delivered}
use Rattle.writing.specs.Delivery.{delivery_answer}
use Rattle.writing.specs.Puts.{placed, put}
use Rattle.writing.specs.Writes.{Writes}
use Rattle.writing.proofs.PutLaws.{put_writes}
use Rattle.writing.proofs.Writing.{writes_join}
use Rattle.packets.specs.Conversions.{NumbersTable}
use Rattle.packets.specs.EditSteps.{start_with, Judged, right, wrong}
use Rattle.packets.proofs.WidenSteps.{two_put, two_there}

-- ── what is written ──

pub start_put : (out table : List ℕ) (end count : ℕ) {a b c : List ℕ} {i j k : ℕ} → 8 ≤ end → end ≤ length table
    → end ≤ length out → placed i a ≡ put out 0 (take (6 - 0) table) → placed j b ≡ put a i (le2 count)
    → placed k c ≡ put b j (take (end - 8) (drop 8 table)) → Writes out 0 (start_with table end count) c k
start_put out table end count low le room e₁ e₂ e₃ =
    let six = length-take-le 6 table (omega (arith, low, le)) in
    let more = length-take-le (end - 8) (drop 8 table) (omega (arith, length-drop 8 table, le)) in
    let w₁ = put_writes (omega (arith, six, low, room)) e₁ in
    let q₂ = two_put count (omega (arith, six, low, room, w₁.end, w₁.kept)) e₂ in
    let w₃ = put_writes (omega (arith, more, six, room, low, w₁.end, w₁.kept, q₂.1, q₂.2)) e₃ in
    writes_join w₁ (writes_join q₂.0 w₃)

-- one more text behind what was written from the start on
pub more_put : {a b c : List ℕ} {mid end : ℕ} {w : List ℕ} (u : List ℕ) → Writes a 0 w b mid
    → length w + length u ≤ length a → placed end c ≡ put b mid u → Writes a 0 (w ++ u) c end
more_put u p room e = writes_join p (put_writes (omega (arith, room, p.end, p.kept)) e)

-- the rest of a table
pub rest_of : (table : List ℕ) (at : ℕ) → take (length table - at) (drop at table) ≡ drop at table
rest_of table at = take_all (length table - at) (drop at table) (omega (arith, length-drop at table))

-- what was written stands in front
pub in_front_lem : {a c : List ℕ} {end : ℕ} {w : List ℕ} → Writes a 0 w c end
    → (c ≡ w ++ drop end c) × (end ≡ length w) × (length c ≡ length a)
in_front_lem {a} {c} {end} {w} p = (
  sym (take-append-drop end c) ∙ ap (λ (l : List ℕ). l ++ drop end c) p.text,
  p.end ∙ zero-add (length w),
  p.kept,
)

-- ── what is judged and delivered ──

module _ (new after out : List ℕ) where
  pub judged_not : (x : Bool) → NumbersTable x new after → x ≡ false
      → Judged new out (leaves (of_edit (Err EditRefusal.BeyondLimits)) out)
  unfolding of_edit
  judged_not true h e = absurd (not_both true refl e)
  judged_not false h e = wrong (λ numbers d within is. h d within numbers is)

  judged_to : NumbersTable true new after → (o : Outcome) → o ≡ delivered after out → Judged new out o
  judged_to h o e =
      subst (Judged new out) (ap (λ (l : List ℕ). delivered l out) h.3 ∙ sym e)
      (right h.2.0 h.0 h.1 h.2.1)

  module _ (x : Bool) (h : NumbersTable x new after) (t : x ≡ true) (z : Bool) (left : List ℕ)
      (e : leaves (delivery_answer z after) left ≡ delivered after out) where
    known : NumbersTable true new after
    known = subst (λ (b : Bool). NumbersTable b new after) t h

    pub judged_room : z ≡ true → (n : ℕ) → n ≡ length after
        → Judged new out (leaves (of_edit (Ok n)) left)
    unfolding of_edit
    judged_room r n size = judged_to known _ (ap (λ (m : ℕ). leaves (accepted m) left) size ∙ rw r at e)

    pub judged_full : z ≡ false → Judged new out (leaves (of_edit (Err EditRefusal.NoRoom)) left)
    unfolding of_edit
    judged_full r = judged_to known _ (rw r at e)

-- ── how many records there are ──

-- k records end at a place
pub record Passed (s : List ℕ) (k at : ℕ) : Type 0 where
  pub more : (m : ℕ) → whole m (drop at s) ≡ true → whole (k + m) s ≡ true
  pub less : (j : ℕ) → whole j s ≡ true → (k ≤ j) × (whole (j - k) (drop at s) ≡ true)

pub none_passed : (s : List ℕ) → Passed s 0 0
none_passed s = record {
  more = λ m h. let z = zero-add m in rw z h;
  less = λ j h. let z : j - 0 ≡ j = omega arith in (omega arith, rw z h);
}

-- where bytes are left there is one record more
some_left : (n : ℕ) (s : List ℕ) → 0 < length s → whole n s ≡ true
    → (0 < n) × (6 ≤ two_at s 0) × (two_at s 0 ≤ length s) × (whole (n - 1) (drop (two_at s 0) s) ≡ true)
unfolding whole
some_left zero [] lt h = absurd (omega arith)
some_left zero (b ∷ s) lt h = absurd (not_both true refl (sym h))
some_left (suc n) s lt h =
    let w = and_right (leb 6 (two_at s 0)) _ h in
    let z : suc n - 1 ≡ n = omega arith in (
      omega arith,
      leb-true 6 (two_at s 0) (and_left (leb 6 (two_at s 0)) _ h),
      leb-true (two_at s 0) (length s) (and_left (leb (two_at s 0) (length s)) _ w),
      rw z (and_right (leb (two_at s 0) (length s)) _ w),
    )

module _ (s : List ℕ) (k at : ℕ) (lt : at < length s) (p : Passed s k at) where
  abbrev left : List ℕ
  left = drop at s

  size_at : two_at left 0 ≡ two_at s at
  size_at = two_there s at 0 ∙ ap (two_at s) (add-zero at)

  -- any number of records is one more at least
  found : (j : ℕ) → whole j s ≡ true → (k < j) × (6 ≤ two_at s at) × (two_at s at ≤ length s - at)
      × (whole (j - (k + 1)) (drop (at + two_at s at) s) ≡ true)
  found j h =
      let q = p.less j h in
      let n = length-drop at s in
      let r = some_left (j - k) left (omega (arith, n, lt)) q.1 in
      let e : j - k - 1 ≡ j - (k + 1) = omega arith in
      let w : whole (j - k - 1) (drop (two_at s at) left) ≡ true = rw size_at at r.3 in (
        omega (arith, r.0, q.0),
        omega (arith, size_at, r.1),
        omega (arith, size_at, r.2, n),
        rw e at (ap (whole (j - k - 1)) (sym (drop-drop (two_at s at) at s)) ∙ w),
      )

  pub bad_many : (most : ℕ) → most ≤ k → (j : ℕ) → j ≤ most → whole j s ≡ true → ⊥
  bad_many most le j few h = let q = found j h in omega (arith, q.0, le, few)

  pub bad_short : two_at s at < 6 → (j : ℕ) → whole j s ≡ true → ⊥
  bad_short less j h = let q = found j h in omega (arith, q.1, less)

  pub bad_long : length s - at < two_at s at → (j : ℕ) → whole j s ≡ true → ⊥
  bad_long over j h = let q = found j h in omega (arith, q.2, over)

  pub one_passed : 6 ≤ two_at s at → two_at s at ≤ length s - at → Passed s (k + 1) (at + two_at s at)
  unfolding whole
  one_passed low high = record {
    more = λ m h.
        let e : k + 1 + m ≡ k + suc m = omega arith in
        let n = length-drop at s in
        let w : whole (suc m) left ≡ true =
        rw (size_at, le-leb 6 (two_at s at) low, le-leb (two_at s at) (length left) (omega (arith, n, high)))
        (ap (whole m) (drop-drop (two_at s at) at s) ∙ h) in
        rw e (p.more (suc m) w);
    less = λ j h. let q = found j h in (omega (arith, q.0), q.3);
  }

pub all_passed : (s : List ℕ) (k at : ℕ) → Passed s k at → at ≡ length s → whole k s ≡ true
unfolding whole
all_passed s k at p e =
    let z = add-zero k in
    rw z at (p.more 0 (rw (e, drop-length s) refl))
