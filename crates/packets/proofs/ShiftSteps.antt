-- What the code that puts other indexes into records is told at its steps.
use mathlib.Core.Path.{◌≡◌, refl, sym, ap, ◌∙◌}
use mathlib.Core.List.{List, ◌++◌}
use Prim.Native.Nat.{ℕ, zero, suc, ◌+◌, ◌-◌, ◌<◌, ◌≤◌}
use native.Mathlib.Omega.{arith}
use lib.ListN.{length, take, drop}
use borrow.Author.Tests.{lt-ltb, le-ltb, eq-eqb, ne_eqb}
use borrow.Rule.Slice.PartMut.{put_mid, put_same, Post-is}
use Rattle.references.specs.Renumbered.{renumbered_from, renumbered_bytes}
use Rattle.writing.specs.declared.spans.Span.{Span}
use Rattle.packets.specs.Parts.{table_most, ending, parts_at}
use Rattle.packets.specs.Shifts.{part_shifted, record_shifted, shifted_from}
use Rattle.packets.proofs.LookupSteps.{missing_past, missing_empty}

-- ── an expression ──

module _ (g : ℕ → ℕ) (s : List ℕ) (p : Span) where
  pub shift_past : length s < ending p → part_shifted g p s ≡ s
  unfolding part_shifted
  shift_past h = rw (missing_past s p h)

  pub shift_none : p.len ≡ 0 → s ≡ part_shifted g p s
  unfolding part_shifted
  shift_none e = rw (eq-eqb p.len 0 e) refl

  -- what was put into the part of the table
  pub shift_there : ending p ≤ length s → (part : List ℕ)
      → part ≡ renumbered_bytes g (take (ending p - p.at) (drop p.at s))
      → part_shifted g p s ≡ put_mid p.at (ending p - p.at) s part
  unfolding part_shifted renumbered_from
  shift_there h part e = go p.len refl
    where
      m : ending p - p.at ≡ p.len
      m = omega arith

      go : (n : ℕ) → p.len ≡ n → part_shifted g p s ≡ put_mid p.at (ending p - p.at) s part
      go zero z =
          let k : ending p - p.at ≡ 0 = omega arith in
          let none : part ≡ take (ending p - p.at) (drop p.at s) = e ∙ rw k in
          sym (shift_none z) ∙ sym (put_same p.at (ending p - p.at) s) ∙ rw none
      go (suc n) z =
          let here : part ≡ renumbered_bytes g (take p.len (drop p.at s)) = rw m at e in
          rw (missing_empty s p h, ne_eqb p.len 0 (λ q. omega (arith, q, z)), ← here)
          (ap (λ (l : List ℕ). take p.at s ++ (part ++ l)) (sym (Post-is p.at (ending p) s (omega arith))))

-- ── one record after the other ──

module _ (g : ℕ → ℕ) (s : List ℕ) (n k at : ℕ) where
  pub shifts_end : n ≤ k → shifted_from g (n - k) at s ≡ s
  unfolding shifted_from
  shifts_end h = let z : n - k ≡ 0 = omega arith in rw z

  pub shifts_stop : k < n → table_most < at → shifted_from g (n - k) at s ≡ s
  unfolding shifted_from
  shifts_stop h t = let z : n - k ≡ suc (n - (k + 1)) = omega arith in rw (z, lt-ltb table_most at t)

  pub shifts_next : k < n → at ≤ table_most → (after : List ℕ) → after ≡ record_shifted g (parts_at s at) s
      → shifted_from g (n - k) at s ≡ shifted_from g (n - (k + 1)) (parts_at s at).next after
  unfolding shifted_from
  shifts_next h t after e =
      let z : n - k ≡ suc (n - (k + 1)) = omega arith in
      rw (z, le-ltb table_most at t) (ap (shifted_from g (n - (k + 1)) (parts_at s at).next) (sym e))

pub ruleset shifts_rules = (shifts_end, shifts_stop, shifts_next)
