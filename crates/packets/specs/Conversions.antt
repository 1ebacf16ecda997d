-- Old tables with a number put into each record. This mirrors the code of src/conversions.rt: no public promise rests
-- on this file.
use Rattle.std.specs.Prelude.{◌≡◌, Bool, true, false, cond, ◌&&◌, List, ◌++◌, ℕ, zero, suc, ◌+◌, ◌*◌, leb, ltb}
use Rattle.std.specs.Prelude.{length, take, drop, Option as Returned, Some, None}
use Rattle.std.proofs.Math.Option.{Option, none, some, map}
use Rattle.base.specs.Lists.{between}
use Rattle.laws.specs.Places.{two_at}
use Rattle.rules.specs.Limits.{label_most}
use Rattle.rules.specs.Trees.{le2}
use Rattle.rules.specs.Editions.{current}
use Rattle.rules.specs.Fields.{Description}
use Rattle.rules.specs.Within.{Within}
use Rattle.rules.specs.Stored.{stored_with, stored}
use Rattle.references.specs.declared.scans.Wanted.TheVariants.{Added}
use Rattle.packets.specs.Expressions.{having_from}

-- no old good table is longer, nor what it becomes
abbrev pub old_most : ℕ
old_most = 14 + label_most + 424 * 64

abbrev pub widened_most : ℕ
widened_most = old_most + 2 * 64

-- ── the number 0 in each record ──

-- an old record with the number 0: two more bytes, and a kind ten more
abbrev pub widened : List ℕ → List ℕ
widened r = le2 (length r + 2) ++ (le2 (two_at r 2 + 10) ++ (le2 0 ++ drop 4 r))

-- an old record stands in front
abbrev pub is_old : List ℕ → Bool
is_old s = leb 4 (two_at s 0) && (leb (two_at s 0) (length s) && between 2 (two_at s 2) 4)

-- n records in front; what is behind them stays
unfoldable pub widen_from : ℕ → List ℕ → Option (List ℕ)
widen_from zero s = some s
widen_from (suc n) s =
    cond (is_old s)
    (map (λ (l : List ℕ). widened (take (two_at s 0) s) ++ l) (widen_from n (drop (two_at s 0) s)))
    none

-- behind a first record, which stays
unfoldable pub widen_table : List ℕ → Option (List ℕ)
widen_table s = map (λ (l : List ℕ). take (two_at s 0) s ++ l) (widen_from (two_at s 6) (drop (two_at s 0) s))

-- the bytes that a buffer begins with, if there are any
abbrev pub WidensTo : Option (List ℕ) → Returned ℕ → List ℕ → Type 0
WidensTo none (Some n) after = ⊥
WidensTo none None after = Unit {0}
WidensTo (some w) (Some n) after = (take n after ≡ w) × (n ≡ length w)
WidensTo (some w) None after = ⊥

-- ── the true numbers ──

-- a table that is right but for its numbers gets the true ones
abbrev pub NumbersTable : Bool → List ℕ → List ℕ → Type 0
NumbersTable true before after =
    (d : Description) × Within d
    × ((numbers : ℕ → ℕ) × (stored_with current numbers d ≡ before)) × (stored d ≡ after)
NumbersTable false before after =
    (d : Description) → Within d → (numbers : ℕ → ℕ) → stored_with current numbers d ≡ before → ⊥

-- ── operators that the old rules do not know ──

abbrev pub adds_any : List ℕ → Bool
adds_any s = ltb (having_from Added s 0 (two_at s 6) (two_at s 0)) (two_at s 6)
