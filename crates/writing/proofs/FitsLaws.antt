-- Texts written one behind the other into a buffer that may be too small.
use mathlib.Core.Path.{◌≡◌, refl, sym, ap, ◌∙◌}
use mathlib.Core.Bool.{Bool, true, false}
use mathlib.Core.List.{List, [], ◌++◌}
use Prim.Native.Nat.{ℕ, ◌+◌, ◌<◌}
use native.Mathlib.Omega.{arith}
use lib.Dec.{ltb}
use lib.ListN.{length, length-append}
use borrow.Author.Tests.{ltb-true, ltb-false}
use Rattle.writing.proofs.Writing.{writes_none, writes_join}
use Rattle.writing.specs.Puts.{Placed, placed, nowhere, put}
use Rattle.writing.specs.Fits.{Fits}
use Rattle.writing.proofs.PutLaws.{put_none, put_writes}

pub fits_none : (out : List ℕ) (at : ℕ) → Fits out at [] out at
fits_none out at = record { kept = refl; inside = λ h. writes_none out at; over = λ h. omega arith }

-- what was put, in a buffer of fewer bytes than there are places
pub put_fits : {before after : List ℕ} {at next : ℕ} {w : List ℕ} → length before < nowhere
    → placed next after ≡ put before at w → Fits before at w after next
put_fits {before} {after} {at} {next} {w} small e = go (ltb (length before) (at + length w)) refl
  where
    go : (b : Bool) → ltb (length before) (at + length w) ≡ b → Fits before at w after next
    go true f =
        let lt = ltb-true (length before) (at + length w) f in
        let p : placed next after ≡ placed nowhere before = e ∙ sym (put_none before at w lt) in
        let n : next ≡ nowhere = ap (λ (x : Placed). x.next) p in
        let a : after ≡ before = ap (λ (x : Placed). x.buffer) p in
        record { kept = ap length a; inside = λ h. absurd (omega arith); over = λ h. omega arith }
    go false f =
        let le = ltb-false (length before) (at + length w) f in
        let q = put_writes {w = w} le e in
        record { kept = q.kept; inside = λ h. q; over = λ h. absurd (omega arith) }

pub fits_join : {a b c : List ℕ} {at mid next : ℕ} {w u : List ℕ} → Fits a at w b mid → Fits b mid u c next
    → Fits a at (w ++ u) c next
fits_join {a} {b} {c} {at} {mid} {next} {w} {u} p q = record {
  kept = q.kept ∙ p.kept;
  inside = λ h.
      let front = p.inside (omega (arith, length-append w u)) in
      writes_join front (q.inside (omega (arith, length-append w u, front.end, p.kept)));
  over = λ h. go (ltb (length a) (at + length w)) refl h;
}
  where
    go : (f : Bool) → ltb (length a) (at + length w) ≡ f → length a < at + length (w ++ u) → length a < next
    go true e h =
        let m = p.over (ltb-true (length a) (at + length w) e) in
        omega (arith, p.kept, q.over (omega (arith, p.kept)))
    go false e h =
        let front = p.inside (ltb-false (length a) (at + length w) e) in
        omega (arith, p.kept, q.over (omega (arith, length-append w u, front.end, p.kept)))
