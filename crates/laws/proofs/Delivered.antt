-- What was accepted of an output: it holds the bytes at its start. [02, R-4] [02, R-5]
use mathlib.Core.Path.{◌≡◌, refl, ap}
use mathlib.Core.Bool.{Bool, true, false, cond}
use mathlib.Core.List.{List}
use Prim.Native.Nat.{ℕ, suc, ◌≤◌}
use native.Mathlib.Omega.{arith}
use lib.Dec.{ltb}
use lib.ListN.{length, take, drop}
use lib.Seq.{take-append_seam, drop-append_seam}
use borrow.Author.Tests.{ltb-false}
use Rattle.rules.specs.Answers.{accepted, refused}
use Rattle.rules.specs.Promises.{Outcome, leaves, overlaid, delivered}
use Rattle.rules.specs.EditResults.{WrittenAtStart}

-- no refusal is accepted
pub not_refused : (n k place : ℕ) (after out : List ℕ) → leaves (accepted n) after ≡ leaves (refused (suc k) place) out
    → ⊥
not_refused n k place after out e =
    let z : 0 ≡ suc k = ap (λ (o : Outcome). o.answer.number) e in omega (arith, z)

pub written_at_start : WrittenAtStart
unfolding delivered
written_at_start w out after n h = go (ltb (length out) (length w)) refl h
  where
    go : (b : Bool) → ltb (length out) (length w) ≡ b → leaves (accepted n) after
        ≡ cond b (leaves (refused 11 0) out) (leaves (accepted (length w)) (overlaid w out))
        → (n ≡ length w) × (n ≤ length out) × (take n after ≡ w) × (drop n after ≡ drop n out)
    go true short e = absurd (not_refused n 10 0 after out e)
    go false room e =
        let size : n ≡ length w = ap (λ (o : Outcome). o.answer.amount) e in
        let bytes : after ≡ overlaid w out = ap (λ (o : Outcome). o.buffer) e in (
          size,
          omega (arith, size, ltb-false (length out) (length w) room),
          rw (size, bytes) (take-append_seam w (drop (length w) out)),
          rw (size, bytes) (drop-append_seam w (drop (length w) out)),
        )
