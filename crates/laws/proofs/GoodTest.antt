-- A table is good, by an edition, where what is read from it is within the limits and has this table: one test of its
-- bytes.
use mathlib.Core.Path.{◌≡◌, refl, ap, sym, subst, ◌∙◌}
use mathlib.Core.Bool.{Bool, true, false, cond, ◌&&◌}
use mathlib.Core.List.{List}
use Prim.Native.Nat.{ℕ}
use lib.ListN.{length}
use Rattle.base.specs.Lists.{same}
use Rattle.base.proofs.Lists.{and_both, not_both, same_true, same_self}
use Rattle.base.proofs.Breaks.{and_true}
use Rattle.rules.specs.Editions.{Edition}
use Rattle.rules.specs.Fields.{Description}
use Rattle.rules.specs.Within.{WithinIn}
use Rattle.rules.specs.Stored.{stored_in, GoodIn}
use Rattle.rules.specs.Answers.{Answer, accepted}
use Rattle.rules.specs.Promises.{not_good, by_table}
use Rattle.laws.proofs.WithinTest.{is_within_in, within_in, inside_in}
use Rattle.laws.proofs.Readers.{described_in}
use Rattle.laws.proofs.Decidable.{described_good}

module _ (e : Edition) (table : List ℕ) where
  abbrev pub is_good_in : Bool
  is_good_in = is_within_in e (described_in e table) && same (stored_in e (described_in e table)) table

  good_passed : is_good_in ≡ true → GoodIn e table
  good_passed h =
      let q = and_true (is_within_in e (described_in e table)) (same (stored_in e (described_in e table)) table) h in
      record { description = described_in e table; within = within_in e _ q.0; is_stored = same_true _ _ q.1 }

  good_failed : is_good_in ≡ false → GoodIn e table → ⊥
  good_failed h g =
      let q : g.description ≡ described_in e table = described_good e table g in
      let s = subst (λ (d : Description). stored_in e d ≡ table) q g.is_stored in
      not_both is_good_in
      (and_both _ _ (inside_in e _ (subst (WithinIn e) q g.within))
      (ap (λ (l : List ℕ). same l table) s ∙ same_self table)) h

  -- what the test tells is what is promised, whatever the decision
  pub told_by : {A : Type 0} (f : Description → A) (x : A) (good : Dec (GoodIn e table))
      → cond is_good_in (f (described_in e table)) x ≡ by_table good f x
  told_by {A} f x good = go is_good_in refl good
    where
      go : (b : Bool) → is_good_in ≡ b → (good : Dec (GoodIn e table))
          → cond b (f (described_in e table)) x ≡ by_table good f x
      go true h (yes g) = sym (ap f (described_good e table g))
      go true h (no bad) = absurd (bad (good_passed h))
      go false h (yes g) = absurd (good_failed h g)
      go false h (no bad) = refl

  -- the answer to the table
  abbrev pub answer_in : Answer
  answer_in = cond is_good_in (accepted (length table)) not_good

  pub table_told : (good : Dec (GoodIn e table)) → answer_in ≡ by_table good (λ d. accepted (length table)) not_good
  table_told good = told_by (λ d. accepted (length table)) not_good good
