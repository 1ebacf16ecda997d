-- What the code that puts the number 0 into old records is told at its steps.
use mathlib.Core.Path.{◌≡◌, refl, sym, ap, ap₂, ◌∙◌}
use mathlib.Core.Bool.{true, false}
use mathlib.Core.List.{List, ◌++◌, append_assoc}
use mathlib.Core.Option.{Option, none, some, map}
use Prim.Native.Nat.{ℕ, suc, ◌+◌, ◌-◌, ◌*◌, ◌<◌, ◌≤◌}
use native.Mathlib.Omega.{arith}
use native.Mathlib.Nat.{sub-zero}
use lib.ListN.{length, take, drop, get_or, length-append, length-drop}
use lib.Seq.{take_all, length-take-le, get_or-drop, drop-drop}
use borrow.Author.Tests.{leb-true}
use lib.Dec.{leb}
use Rattle.base.proofs.Lists.{and_left, and_right}
use Rattle.laws.specs.Places.{two_at}
use Rattle.laws.proofs.PlacesOfNumbers.{length_le2}
use Rattle.rules.specs.Trees.{le2}
use Rattle.writing.specs.Writes.{Writes}
use Rattle.writing.specs.Puts.{placed, put}
use Rattle.writing.proofs.PutLaws.{put_writes}
use Rattle.writing.proofs.Writing.{writes_join}
use Rattle.std.specs.Prelude.{Some, None}
use Rattle.packets.specs.Conversions.{widened, is_old, widen_from, widen_table, WidensTo}

-- ── one record ──

-- what stands behind its length and kind
behind_four : (r : List ℕ) → 4 ≤ length r → take (length r - 4) (drop 4 r) ≡ drop 4 r
behind_four r le = take_all (length r - 4) (drop 4 r) (omega (arith, length-drop 4 r))

-- a number that was put
pub two_put : (n : ℕ) {a b : List ℕ} {at next : ℕ} → at + 2 ≤ length a → placed next b ≡ put a at (le2 n)
    → Writes a at (le2 n) b next × (next ≡ at + 2) × (length b ≡ length a)
two_put n room e =
    let size = length_le2 n in
    let w = put_writes (omega (arith, room, size)) e in
    (w, omega (arith, w.end, size), w.kept)

pub record_put : (out r : List ℕ) (to kind : ℕ) {a b c d : List ℕ} {i j k end : ℕ} → 4 ≤ length r
    → to + (length r + 2) ≤ length out → kind ≡ two_at r 2
    → placed i a ≡ put out to (le2 (length r + 2)) → placed j b ≡ put a i (le2 (kind + 10))
    → placed k c ≡ put b j (le2 0) → placed end d ≡ put c k (take (length r - 4) (drop 4 r))
    → (end ≡ to + (length r + 2)) × Writes out to (widened r) d end
record_put out r to kind {a} {b} {c} {d} {i} {j} {k} {end} le room is e₁ e₂ e₃ e₄ =
    let len = length-drop 4 r in
    let q₁ = two_put (length r + 2) (omega (arith, room)) e₁ in
    let q₂ = two_put (kind + 10) (omega (arith, room, le, q₁.1, q₁.2)) e₂ in
    let q₃ = two_put 0 (omega (arith, room, le, q₁.1, q₁.2, q₂.1, q₂.2)) e₃ in
    let e₄' : placed end d ≡ put c k (drop 4 r) = rw (behind_four r le) at e₄ in
    let w₄ = put_writes (omega (arith, room, len, q₁.1, q₁.2, q₂.1, q₂.2, q₃.1, q₃.2)) e₄' in (
      omega (arith, le, len, q₁.1, q₂.1, q₃.1, w₄.end),
      rw is at (writes_join q₁.0 (writes_join q₂.0 (writes_join q₃.0 w₄))),
    )

-- ── all records ──

-- the bytes written so far, and those that come
abbrev pub Widening : List ℕ → ℕ → ℕ → ℕ → List ℕ → ℕ → Type 0
Widening table n i at out to =
    widen_table table ≡ map (λ (l : List ℕ). take to out ++ l) (widen_from (n - i) (drop at table))

pub two_there : (s : List ℕ) (a b : ℕ) → two_at (drop a s) b ≡ two_at s (a + b)
unfolding two_at
two_there s a b =
    let e : a + (b + 1) ≡ a + b + 1 = omega arith in
    ap₂ {C = ℕ} (λ (x y : ℕ). x + 256 * y) (get_or-drop a s b 0)
    (get_or-drop a s (b + 1) 0 ∙ ap (λ (i : ℕ). get_or s i 0) e)

pub widen_start : (table out after : List ℕ) (n head to : ℕ) → n ≡ two_at table 6 → head ≡ two_at table 0
    → head ≤ length table → head ≤ length out → placed to after ≡ put out 0 (take head table)
    → (to ≡ head) × (length after ≡ length out) × Widening table n 0 head after to
unfolding widen_table
widen_start table out after n head to a b le room e =
    let size = length-take-le head table le in
    let w = put_writes (omega (arith, size, room)) e in
    let front : take to after ≡ take head table = w.text in (
      omega (arith, w.end, size),
      w.kept,
      rw (front, sub-zero n, a, b) refl,
    )

-- an old record has at least four bytes, and lies within
pub old_size : (s : List ℕ) → is_old s ≡ true → (4 ≤ two_at s 0) × (two_at s 0 ≤ length s)
old_size s h =
    let r = and_right (leb 4 (two_at s 0)) _ h in
    (leb-true _ _ (and_left (leb 4 (two_at s 0)) _ h), leb-true _ _ (and_left (leb (two_at s 0) (length s)) _ r))

-- the bytes from a place on
pub behind : (table : List ℕ) (at : ℕ) → take (length table - at) (drop at table) ≡ drop at table
behind table at = take_all (length table - at) (drop at table) (omega (arith, length-drop at table))

module _ (table : List ℕ) (n i at : ℕ) (out : List ℕ) (to : ℕ) (h : Widening table n i at out to) (lt : i < n) where
  abbrev s : List ℕ
  s = drop at table

  one_more : n - i ≡ suc (n - (i + 1))
  one_more = omega arith

  -- bytes that are no old record
  pub widen_bad : is_old s ≡ false → WidensTo (widen_table table) None out
  unfolding widen_from
  widen_bad e = let none_here : widen_table table ≡ none = h ∙ rw (one_more, e) refl in rw none_here tt

  pub widen_next : (t r : List ℕ) → t ≡ drop at table → is_old t ≡ true → r ≡ take (two_at t 0) t → (after : List ℕ)
      (next : ℕ) → Writes out to (widened r) after next → Widening table n (i + 1) (at + length r) after next
  unfolding widen_from
  widen_next t r e ok is after next w =
      let old : is_old s ≡ true = rw e at ok in
      let here = two_at s 0 in
      let size = length-take-le here s (old_size s old).1 in
      let part : r ≡ take here s = rw e at is in
      rw (part, size) (h ∙ rw (one_more, old, drop-drop here at table, rw part at w.text)
      (go (take to out) (widened (take here s)) (widen_from (n - (i + 1)) (drop (at + here) table))))
    where
      go : (a b : List ℕ) (x : Option (List ℕ))
          → map (λ (l : List ℕ). a ++ l) (map (λ (l : List ℕ). b ++ l) x)
          ≡ map (λ (l : List ℕ). (a ++ b) ++ l) x
      go a b none = refl
      go a b (some l) = ap some (sym (append_assoc a b l))

-- the length of a record's part
pub part_size : (table : List ℕ) (at n : ℕ) → n ≤ length table - at → at ≤ length table
    → length (take (at + n - at) (drop at table)) ≡ n
part_size table at n le in_table =
    let z : at + n - at ≡ n = omega arith in
    rw z (length-take-le n (drop at table) (omega (arith, length-drop at table, le)))

pub widen_done : (table : List ℕ) (n i at : ℕ) (out after : List ℕ) (to end : ℕ) → Widening table n i at out to
    → n ≤ i → to ≤ length out → to + length (drop at table) ≤ length out → at ≤ length table
    → placed end after ≡ put out to (take (length table - at) (drop at table))
    → WidensTo (widen_table table) (Some end) after
unfolding widen_from
widen_done table n i at out after to end h le fits room in_table e =
    let z : n - i ≡ 0 = omega arith in
    let all = take_all (length table - at) (drop at table) (omega (arith, length-drop at table)) in
    let e' : placed end after ≡ put out to (drop at table) = rw all at e in
    let w = put_writes room e' in
    let size = length-take-le to out fits in
    let is : widen_table table ≡ some (take to out ++ drop at table) = h ∙ rw z refl in
    rw is (w.text, omega (arith, w.end, size, length-append (take to out) (drop at table)))
