-- Laws of the mirror definitions of one field's step.
use mathlib.Core.Path.{◌≡◌, ap}
use mathlib.Core.List.{List}
use Prim.Native.Nat.{ℕ, suc, ◌+◌, ◌-◌, ◌<◌}
use native.Mathlib.Omega.{arith}
use native.Mathlib.Nat.{sub_self}
use Rattle.rules.specs.declared.Fault.{Fault}
use Rattle.rules.specs.Values.{Value, value, fault}
use Rattle.rules.specs.Reading.{Step, step, stop}
use Rattle.std.proofs.Common.{Ok, Err}
use Rattle.packets.specs.declared.steps.Numbers.{Numbers}
use Rattle.packets.specs.Steps.{Got, got_of, Found, field, numbers_in, entry_in, found_of}
use Rattle.packets.specs.Steps.{record_at, fixed_of, later_bits}

pub later_step : (s : List ℕ) (n i sum at : ℕ) → i < n
    → sum + later_bits (n - i) s at ≡ (sum + fixed_of (record_at s at)) + later_bits (n - (i + 1)) s
    (record_at s at).next
unfolding later_bits
later_step s n i sum at h = let e : n - i ≡ suc (n - (i + 1)) = omega arith in rw e (omega arith)

pub later_end : (s : List ℕ) (n sum at : ℕ) → sum + later_bits (n - n) s at ≡ sum
unfolding later_bits
later_end s n sum at = rw sub_self (omega arith)

-- ── answers of the code taken back ──

pub got_value : (r : Got) (v : Value) (n : ℕ) → r ≡ got_of v → r ≡ Ok n → v ≡ value n
got_value r (value m) n e h = cc
got_value r (fault f) n e h = cc

pub got_stop : (r : Got) (v : Value) (f : Fault) → r ≡ got_of v → r ≡ Err f → v ≡ fault f
got_stop r (value m) f e h = cc
got_stop r (fault g) f e h = cc

pair_parts : (d e : Numbers) (m n : ℕ) → field d m ≡ field e n → (d ≡ e) × (m ≡ n)
pair_parts d e m n h =
    let p : ◌≡◌ {A = Numbers × ℕ} (d, m) (e, n) = cc in
    (ap (λ (x : Numbers × ℕ). x.0) p, ap (λ (x : Numbers × ℕ). x.1) p)

pub found_field : (r : Found) (s : Step) (e : Numbers) (next : ℕ) → r ≡ found_of s → r ≡ field e next
    → s ≡ step (entry_in e) next
found_field r (step d m) e next h k =
    let p = pair_parts (numbers_in d) e m next cc in
    rw (← p.0, p.1)
found_field r (stop f) e next h k = cc

pub found_stop : (r : Found) (s : Step) (f : Fault) → r ≡ found_of s → r ≡ Err f → s ≡ stop f
found_stop r (step d m) f h k = cc
found_stop r (stop g) f h k = cc
