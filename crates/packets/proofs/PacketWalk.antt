-- Laws of the walk over a packet's fields: one field of it, and places that stay within the packet.
use mathlib.Core.Path.{◌≡◌, refl}
use mathlib.Core.Bool.{Bool, true, false, cond}
use mathlib.Core.List.{List}
use Prim.Native.Nat.{ℕ, suc, ◌+◌, ◌-◌, ◌<◌, ◌≤◌}
use native.Mathlib.Omega.{arith}
use native.Mathlib.Nat.{sub_self}
use lib.Dec.{ltb, eqb}
use lib.ListN.{length, length-set}
use borrow.Author.Tests.{ltb-false}
use Rattle.rules.specs.declared.Fault.{Fault}
use Rattle.rules.specs.declared.Fault.TheVariants.{ConstraintFalse}
use Rattle.rules.specs.Values.{Value, value, fault}
use Rattle.rules.specs.Reading.{Step, step, stop, and_then, bit_total}
use Rattle.packets.specs.declared.records.Parts.{Parts}
use Rattle.packets.specs.declared.steps.Numbers.{Numbers}
use Rattle.std.proofs.Common.{Err}
use Rattle.packets.specs.Steps.{
  Found,
  field,
  entry_in,
  found_of,
  record_at,
  holds_at,
  extent_at,
  present_entry,
  bounded_at,
  present_at,
  field_step,
  numbers_in,
}
use Rattle.packets.specs.Walks.{put_at, kept_at, step_after, run_with, ended, stopped, walk_from}
use Rattle.packets.proofs.StepLaws.{found_field, found_stop}

pub length_put : (run : List ℕ) (i : ℕ) (e : Numbers) → length (put_at run i e) ≡ length run
unfolding put_at
length_put run i e = simp length-set

pub length_with : (run : List ℕ) (i : ℕ) (s : Step) → length (run_with run i s) ≡ length run
length_with run i (step e next) = length_put run i _
length_with run i (stop f) = refl

-- ── one field ──

module _ (s packet run : List ℕ) (n i place at : ℕ) (p : Parts) (found : Found) (after : List ℕ) (lt : i < n)
    (parts : p ≡ record_at s at)
    (goes : found ≡ found_of (step_after s run i p (field_step s packet run p (n - i - 1) place))) where
  here : (t : Step) → step_after s run i p (field_step s packet run p (n - i - 1) place) ≡ t
      → step_after s run i (record_at s at) (field_step s packet run (record_at s at) (n - (i + 1)) place) ≡ t
  here t h = let d : n - i - 1 ≡ n - (i + 1) = omega arith in rw (← parts, ← d) h

  pub walk_to : (e : Numbers) (next : ℕ) → after ≡ run_with run i (field_step s packet run p (n - i - 1) place)
      → found ≡ field e next
      → walk_from s packet (n - i) i run place at ≡ walk_from s packet (n - (i + 1)) (i + 1) after next p.next
  unfolding walk_from
  walk_to e next left to =
      let m : n - i ≡ suc (n - (i + 1)) = omega arith in
      let d : n - i - 1 ≡ n - (i + 1) = omega arith in
      let t = step_after s run i p (field_step s packet run p (n - i - 1) place) in
      rw (m, here (step (entry_in e) next) (found_field found t e next goes to), left, d, parts)

  pub walk_stop : (f : Fault) → after ≡ run_with run i (field_step s packet run p (n - i - 1) place)
      → found ≡ Err f → walk_from s packet (n - i) i run place at ≡ stopped f (i + 1) after
  unfolding walk_from
  walk_stop f left to =
      let m : n - i ≡ suc (n - (i + 1)) = omega arith in
      let d : n - i - 1 ≡ n - (i + 1) = omega arith in
      let t = step_after s run i p (field_step s packet run p (n - i - 1) place) in
      rw (m, here (stop f) (found_stop found t f goes to), left, d, parts)

pub walk_end : (s packet run : List ℕ) (n place at : ℕ) → walk_from s packet (n - n) n run place at ≡ ended run place
unfolding walk_from
walk_end s packet run n place at = rw sub_self

-- ── places ──

-- the place behind a step lies within the packet
abbrev Inside : ℕ → Step → Type 0
Inside total (step e next) = next ≤ total
Inside total (stop f) = Unit {0}

inside_both : (total : ℕ) (v : Value) (go : ℕ → Step) → ((n : ℕ) → Inside total (go n)) → Inside total (and_then v go)
inside_both total (value n) go h = h n
inside_both total (fault f) go h = tt

inside_either : (total : ℕ) (b : Bool) (s t : Step) → (b ≡ true → Inside total s) → (b ≡ false → Inside total t)
    → Inside total (cond b s t)
inside_either total true s t p q = p refl
inside_either total false s t p q = q refl

bounded_inside : (packet : List ℕ) (kind place width : ℕ)
    → Inside (bit_total packet) (bounded_at packet kind place width)
unfolding bounded_at
bounded_inside packet kind place width =
    inside_either (bit_total packet) (ltb (bit_total packet) (place + width)) (stop _)
    (step (present_entry packet kind place width) (place + width)) (λ e. tt) (λ e. ltb-false _ _ e)

field_inside : (s packet run : List ℕ) (p : Parts) (later place : ℕ) → place ≤ bit_total packet
    → Inside (bit_total packet) (field_step s packet run p later place)
unfolding field_step present_at
field_inside s packet run p later place h =
    inside_both (bit_total packet) (holds_at s run p.condition) _ (λ c.
    inside_either (bit_total packet) (eqb c 0) (step _ place) (present_at s packet run p later place) (λ e. h) (λ e.
    inside_both (bit_total packet) (extent_at s packet run p later place) (bounded_at packet p.kind place)
    (bounded_inside packet p.kind place)))

after_inside : (s run : List ℕ) (i : ℕ) (p : Parts) (total : ℕ) (t : Step) → Inside total t
    → Inside total (step_after s run i p t)
unfolding step_after kept_at
after_inside s run i p total (step e m) q =
    let own = put_at run i (numbers_in e) in
    inside_either total (eqb e.present 0) (step e m) (kept_at s own p.constraint e m) (λ x. q) (λ x.
    inside_both total (holds_at s own p.constraint) _ (λ c.
    inside_either total (eqb c 0) (stop ConstraintFalse) (step e m) (λ y. tt) (λ y. q)))
after_inside s run i p total (stop f) q = tt

pub step_inside : (s packet run : List ℕ) (i : ℕ) (p : Parts) (later place : ℕ) (found : Found)
    (e : Numbers) (next : ℕ) → place ≤ bit_total packet → found ≡ found_of (step_after s run i p
    (field_step s packet run p later place))
    → found ≡ field e next → next ≤ bit_total packet
step_inside s packet run i p later place found e next h goes to =
    let st = field_step s packet run p later place in
    let t = step_after s run i p st in
    let q = after_inside s run i p (bit_total packet) st (field_inside s packet run p later place h) in
    rw (found_field found t e next goes to) at q
