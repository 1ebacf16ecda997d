-- Cutting and putting in have one outcome each, whatever the decisions are. [02, R-4]
use mathlib.Core.Path.{◌≡◌, refl, ap, sym, ◌∙◌}
use mathlib.Core.Bool.{cond, ◌||◌}
use mathlib.Core.List.{List}
use Prim.Native.Nat.{ℕ}
use lib.Dec.{ltb}
use lib.ListN.{length}
use Rattle.base.specs.Lists.{is_empty}
use Rattle.rules.specs.Fields.{Field, Description}
use Rattle.rules.specs.Editions.{current}
use Rattle.rules.specs.Within.{Within}
use Rattle.rules.specs.Stored.{stored, Good}
use Rattle.rules.specs.Edits.{cut, put, first_reader}
use Rattle.rules.specs.Answers.{refused}
use Rattle.rules.specs.Promises.{
  Outcome,
  leaves,
  delivered,
  not_good,
  by_table,
  is_run,
  unless_read,
  by_limits,
  cut_outcome,
  Joins,
  by_records,
  put_outcome,
}
use Rattle.rules.specs.EditResults.{CutSettled, PutSettled}
use Rattle.laws.proofs.Decidable.{within_decidable, good_decidable}
use Rattle.laws.proofs.GoodTest.{told_by}
use Rattle.laws.proofs.Joining.{joins_fields, joins_decidable}

-- two decisions whether a table is good, and two rules that give the same
pub by_table_lem : {A : Type 0} (table : List ℕ) (f g : Description → A) (x : A) → ((d : Description) → f d ≡ g d)
    → (a b : Dec (Good table)) → by_table a f x ≡ by_table b g x
by_table_lem {A} table f g x same a b = sym (told_by current table f x a) ∙ told_by current table f x b ∙ go b
  where
    go : (c : Dec (Good table)) → by_table c f x ≡ by_table c g x
    go (yes good) = same good.description
    go (no bad) = refl

-- ── cutting ──

-- two decisions whether a description is within the limits
pub by_limits_lem : (d : Description) (out : List ℕ) (a b : Dec (Within d)) → by_limits a out ≡ by_limits b out
by_limits_lem d out (yes v) (yes w) = refl
by_limits_lem d out (yes v) (no beyond) = absurd (beyond v)
by_limits_lem d out (no beyond) (yes w) = absurd (beyond w)
by_limits_lem d out (no v) (no w) = refl

cut_same : (first last : ℕ) (out : List ℕ) (d : Description) (a b : Dec (Within (cut first last d)))
    → cut_outcome first last d a out ≡ cut_outcome first last d b out
unfolding cut_outcome
cut_same first last out d a b =
    ap (λ (o : Outcome). cond (is_run first last d.fields) (unless_read (first_reader first last d.fields) out o)
    (leaves (refused 30 0) out)) (by_limits_lem (cut first last d) out a b)

pub cut_settled : CutSettled
cut_settled table out first last =
    let fits = within_decidable current in
    let result : ((d : Description) → Dec (Within d)) → Description → Outcome =
    λ f d. cut_outcome first last d (f (cut first last d)) out in
    let good = good_decidable table in (
      by_table good (result fits) (leaves not_good out),
      λ g f. by_table_lem table (result fits) (result f) (leaves not_good out)
          (λ d. cut_same first last out d (fits (cut first last d)) (f (cut first last d))) good g,
      λ p h. h good fits,
    )

-- ── putting in ──

-- two decisions whether records join
pub by_records_lem : (at : ℕ) (bytes : List ℕ) (d : Description) (out : List ℕ) (a b : Dec (Joins at bytes d))
    → by_records a out ≡ by_records b out
by_records_lem at bytes d out (yes i) (yes j) =
    ap (λ (fs : List (Field ℕ)). delivered (stored (put at fs d)) out) (joins_fields at bytes d i j)
by_records_lem at bytes d out (yes i) (no none_do) = absurd (none_do i)
by_records_lem at bytes d out (no none_do) (yes j) = absurd (none_do j)
by_records_lem at bytes d out (no f) (no g) = refl

put_same : (at : ℕ) (bytes out : List ℕ) (d : Description) (a b : Dec (Joins at bytes d))
    → put_outcome at bytes d a out ≡ put_outcome at bytes d b out
unfolding put_outcome
put_same at bytes out d a b =
    ap (λ (o : Outcome). cond (is_empty bytes || ltb (length d.fields) at) (leaves (refused 30 0) out) o)
    (by_records_lem at bytes d out a b)

pub put_settled : PutSettled
put_settled table bytes out at =
    let joins = joins_decidable at bytes in
    let result : ((d : Description) → Dec (Joins at bytes d)) → Description → Outcome =
    λ j d. put_outcome at bytes d (j d) out in
    let good = good_decidable table in (
      by_table good (result joins) (leaves not_good out),
      λ g j. by_table_lem table (result joins) (result j) (leaves not_good out)
          (λ d. put_same at bytes out d (joins d) (j d)) good g,
      λ p h. h good joins,
    )
