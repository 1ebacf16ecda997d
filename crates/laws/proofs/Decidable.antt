-- Whether a table is good is decidable: a good table stores the description that is read from it.
use mathlib.Core.Path.{◌≡◌, refl, sym, ◌∙◌, ap}
use mathlib.Core.Bool.{Bool, true, false}
use mathlib.Core.List.{List, List-discrete}
use Prim.Native.Nat.{ℕ}
use native.Mathlib.Decide.{ℕ_discrete, map_dec}
use Rattle.rules.specs.Fields.{Description}
use Rattle.rules.specs.Editions.{Edition, current}
use Rattle.rules.specs.Within.{WithinIn}
use Rattle.rules.specs.Stored.{stored_in, GoodIn, Good}
use Rattle.rules.specs.Results.{GoodDecidable}
use Rattle.laws.proofs.Readers.{described_in}
use Rattle.laws.proofs.Unique.{described_stored}
use Rattle.laws.proofs.WithinTest.{is_within_in, within_in, outside_in}

pub both_decidable : {A B : Type 0} → Dec A → Dec B → Dec (A × B)
both_decidable (yes a) (yes b) = yes (a, b)
both_decidable (yes a) (no f) = no (λ p. f p.1)
both_decidable (no f) d = no (λ p. f p.0)

pub within_decidable : (e : Edition) (d : Description) → Dec (WithinIn e d)
within_decidable e d = go (is_within_in e d) refl
  where
    go : (b : Bool) → is_within_in e d ≡ b → Dec (WithinIn e d)
    go true h = yes (within_in e d h)
    go false h = no (outside_in e d h)

pub described_good : (e : Edition) (table : List ℕ) (g : GoodIn e table) → g.description ≡ described_in e table
described_good e table g =
    sym (described_stored e g.description g.within) ∙ ap (described_in e) g.is_stored

pub good_decidable_in : GoodDecidable
good_decidable_in e table =
    map_dec
    (λ p. record { description = described_in e table; within = p.0; is_stored = p.1 })
    (λ g. (rw (← described_good e table g) g.within, rw (← described_good e table g) g.is_stored))
    (both_decidable (within_decidable e (described_in e table))
    (List-discrete ℕ_discrete (stored_in e (described_in e table)) table))

-- by the edition in force
pub good_decidable : (table : List ℕ) → Dec (Good table)
good_decidable table = good_decidable_in current table
