-- Bytes in hex, one pair of digits after the other: what the loop needs.
use mathlib.Core.Path.{◌≡◌, refl, sym, ◌∙◌, ap}
use mathlib.Core.Bool.{cond}
use mathlib.Core.List.{List, [], ◌∷◌, ◌++◌, append-nil}
use Prim.Native.Nat.{ℕ, suc, ◌+◌, ◌-◌, ◌*◌, ◌≤◌, ◌<◌}
use native.Mathlib.Numerals.{add-one}
use native.Mathlib.Omega.{arith}
use lib.Dec.{ltb}
use lib.ListN.{length, take, drop, get_or, set, length-set, length-drop, take-append-drop, drop_of_length-le}
use lib.Seq.{drop-set-lt, drop-drop, take-suc-set, take_all, take-append-le, length-take-le, append_snoc}
use borrow.Author.Tests.{le-ltb}
use Rattle.requests.specs.Words.{digit_of, hex_bytes, fitting, Holds}

-- n bytes of the output hold what the digits before the rest make
pub record Filling (s before out : List ℕ) (n : ℕ) (rest : List ℕ) : Type 0 where
  pub size : length out ≡ length before
  pub within : n ≤ length out
  pub made : hex_bytes s ≡ take n out ++ hex_bytes rest
  pub beyond : drop n out ≡ drop n before

pub filling_none : (s out : List ℕ) → Filling s out out 0 s
filling_none s out = record { size = refl; within = omega arith; made = refl; beyond = refl }

-- ── the end ──

-- no further byte stands there
pub filling_stop : {s before out : List ℕ} {n : ℕ} {rest : List ℕ} → Filling s before out n rest → hex_bytes rest ≡ []
    → Holds s before n out
unfolding fitting
filling_stop {s} {before} {out} {n} {rest} f e =
    let w : hex_bytes s ≡ take n out = f.made ∙ rw e (append-nil (take n out)) in
    let m : length (take n out) ≡ n = length-take-le n out f.within in
    let t : take (length before) (take n out) ≡ take n out =
    take_all (length before) (take n out) (omega (arith, m, f.within, f.size)) in
    record {
      count = rw (w, t) (sym m);
      bytes = rw (w, t, ← f.beyond) (sym (take-append-drop n out));
    }

pub filling_full : {s before out : List ℕ} {n : ℕ} {rest : List ℕ} → Filling s before out n rest → length out ≤ n
    → Holds s before n out
unfolding fitting
filling_full {s} {before} {out} {n} {rest} f h =
    let w : take n out ≡ out = take_all n out h in
    let t : take (length before) (hex_bytes s) ≡ out =
    rw (f.made, w) (take-append-le (length before) out (hex_bytes rest) (omega (arith, f.size))
    ∙ take_all (length before) out (omega (arith, f.size))) in
    record {
      count = rw t (omega (arith, h, f.within));
      bytes = rw (t, ← f.beyond, drop_of_length-le out {i = n} h) (sym (append-nil out));
    }

pub hex_short : (s : List ℕ) → length s < 2 → hex_bytes s ≡ []
unfolding hex_bytes
hex_short [] h = refl
hex_short (x ∷ []) h = refl
hex_short (x ∷ y ∷ s) h = absurd (omega arith)

-- ── the digits ──

hex_pair : (s : List ℕ) (h l : ℕ) → 2 ≤ length s → h ≡ digit_of (get_or s 0 0) → l ≡ digit_of (get_or s 1 0)
    → hex_bytes s ≡ cond (ltb 15 h) [] (cond (ltb 15 l) [] ((16 * h + l) ∷ hex_bytes (drop 2 s)))
unfolding hex_bytes
hex_pair [] h l k e f = absurd (omega arith)
hex_pair (a ∷ []) h l k e f = absurd (omega arith)
hex_pair (a ∷ b ∷ s) h l k e f = rw (e, f) refl

pub hex_first : (s : List ℕ) → 2 ≤ length s → digit_of (get_or s 0 0) ≡ 16 → hex_bytes s ≡ []
hex_first s k e = hex_pair s 16 (digit_of (get_or s 1 0)) k (sym e) refl

pub hex_second : (s : List ℕ) (h : ℕ) → 2 ≤ length s → h ≡ digit_of (get_or s 0 0) → h ≤ 15
    → digit_of (get_or s 1 0) ≡ 16 → hex_bytes s ≡ []
hex_second s h k e o f = hex_pair s h 16 k e (sym f) ∙ rw (le-ltb 15 h o)

pub filling_on : {s before out : List ℕ} {n h l : ℕ} {rest : List ℕ} → Filling s before out n rest → 2 ≤ length rest
    → h ≡ digit_of (get_or rest 0 0) → l ≡ digit_of (get_or rest 1 0) → h ≤ 15 → l ≤ 15 → n < length out
    → Filling s before (set out n (16 * h + l)) (n + 1) (take (length rest - 2) (drop 2 rest))
filling_on {s} {before} {out} {n} {h} {l} {rest} f k e g o q r =
    let step : hex_bytes rest ≡ (16 * h + l) ∷ hex_bytes (drop 2 rest) =
    hex_pair rest h l k e g ∙ rw (le-ltb 15 h o, le-ltb 15 l q) in
    let whole : take (length rest - 2) (drop 2 rest) ≡ drop 2 rest =
    take_all (length rest - 2) (drop 2 rest) (omega (arith, length-drop 2 rest)) in
    let dropped : drop (suc n) out ≡ drop (suc n) before =
    rw (← add-one n) (sym (drop-drop 1 n out) ∙ ap (drop 1) f.beyond ∙ drop-drop 1 n before) in
    record {
      size = rw (length-set out n (16 * h + l)) f.size;
      within = rw (length-set out n (16 * h + l)) (omega (arith, r));
      made = rw (whole, add-one n, take-suc-set out n (16 * h + l) r)
          (f.made ∙ rw step (sym (append_snoc (take n out) (16 * h + l) (hex_bytes (drop 2 rest)))));
      beyond = rw (add-one n) (drop-set-lt (suc n) out n (16 * h + l) (omega arith) ∙ dropped);
    }
