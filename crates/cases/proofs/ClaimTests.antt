-- A claim of the promises holds where its numbers are those that the definitions give.
use mathlib.Core.Path.{◌≡◌, ap, sym, subst, ◌∙◌}
use mathlib.Core.Bool.{Bool, true, ◌&&◌}
use mathlib.Core.List.{List, [], ◌∷◌}
use Prim.Native.Nat.{ℕ}
use lib.ListN.{length, get_or, replicate}
use Rattle.base.specs.Lists.{all, same}
use Rattle.base.proofs.Lists.{every_passes, same_true}
use Rattle.base.proofs.Breaks.{and_true}
use Rattle.rules.specs.Editions.{current, uncounted}
use Rattle.rules.specs.Fields.{Description}
use Rattle.rules.specs.Within.{Within}
use Rattle.rules.specs.Stored.{stored, Good}
use Rattle.rules.specs.Reading.{Part, no_part, reading, part_in, part_bytes}
use Rattle.rules.specs.Answers.{accepted}
use Rattle.rules.specs.Promises.{
  leaves,
  packet_outcome_in,
  delivered,
  not_good,
  first_named,
  by_table,
  moved_by,
  Lends,
  part_by,
  label_by,
  short_by,
  Partly,
  readers_answer,
}
use Rattle.laws.specs.Wrong.{
  Claim,
  checks,
  checks_in,
  reads_in,
  reads_with,
  lists_with,
  hands,
  places_part,
  finds,
  finds_in,
  labels,
  places_label,
  tells_number,
  tells_place,
  tells_amount,
  tells_limits,
  counts,
  tells_kind,
  shorts,
  places_short,
  partly_with,
  counts_readers,
  counts_readers_in,
  converts_with,
  cuts_with,
  puts_with,
  Claimed,
}
use Rattle.laws.proofs.WithinTest.{within}
use Rattle.laws.proofs.GoodTest.{told_by, table_told}
use Rattle.laws.proofs.Allowed.{label_at, short_at}
use Rattle.laws.proofs.EditsTold.{cut_told_lem, put_told_lem}
use Rattle.laws.proofs.RuledOut.{claimed, given, is_fitting}
use Rattle.cases.specs.Promised.{AllSo}
use Rattle.cases.proofs.CaseTests.{answer_from, outcome_from, part_from_lem, by_stored}

-- the bytes that begin at a place are those of a part, as lent from the first place of a block
lent : (buffer : List ℕ) (part : Part) (bytes : List ℕ) (start : ℕ)
    → start ∷ bytes ≡ part.start ∷ part_bytes buffer part
    → Lends buffer (0, 0) part bytes (moved_by start (0, 0))
lent buffer part bytes start e = record {
  content = cc;
  place = ap (λ (l : List ℕ). moved_by (get_or l 0 0) (0, 0)) e;
}

-- the part that the description gives, whatever the decision
lends_so : (d : Description) (buffer : List ℕ) (part : Description → Part) (bytes : List ℕ) (start : ℕ) → Within d
    → start ∷ bytes ≡ (part d).start ∷ part_bytes buffer (part d)
    → (from : ℕ × ℕ) × ((good : Dec (Good (stored d)))
    → Lends buffer from (by_table good part no_part) bytes (moved_by start from))
lends_so d buffer part bytes start w e = (
  (0, 0),
  λ good.
      subst (λ (p : Part). Lends buffer (0, 0) p bytes (moved_by start (0, 0)))
      (sym (by_stored d w part no_part good)) (lent buffer (part d) bytes start e),
)

partly_from : List ℕ → Partly
partly_from [] = record { outcome = outcome_from []; count = 0 }
partly_from (n ∷ l) = record { outcome = outcome_from l; count = n }

first_same : {m n : ℕ} → m ∷ [] ≡ n ∷ [] → m ≡ n
first_same e = ap (λ (l : List ℕ). get_or l 0 0) e

claim_so : (c : Claim) → is_fitting c ≡ true → claimed c ≡ given c → Claimed c
unfolding part_by label_by short_by partly_from
claim_so (checks d a) h e = λ good.
    ap answer_from e ∙ sym (by_stored d (within d h) (λ c. accepted (length (stored d))) not_good good)
claim_so (checks_in v table a) h e = λ good. ap answer_from e ∙ table_told v table good
claim_so (reads_in v n table packet a after) h e = λ good.
    ap outcome_from e ∙ told_by v table (λ d. packet_outcome_in v d packet (replicate n 9))
    (leaves not_good (replicate n 9)) good
claim_so (reads_with n d packet a after) h e = λ good. ap outcome_from e ∙ sym (by_stored d (within d h) _ _ good)
claim_so (lists_with n d packet a after) h e = λ good.
    ap outcome_from e ∙ ap (λ (l : List ℕ). delivered l (replicate n 9)) (sym (by_stored d (within d h) _ _ good))
claim_so (hands d packet i bytes start) h e =
    lends_so d packet (λ c. part_in (reading c packet) i) bytes start (within d h) e
claim_so (places_part d packet i part) h e = λ good.
    ap part_from_lem e ∙ sym (by_stored d (within d h) (λ c. part_in (reading c packet) i) _ good)
claim_so (finds d name a) h e = λ good. ap answer_from e ∙ sym (by_stored d (within d h) _ _ good)
claim_so (finds_in table name a) h e = λ good.
    ap answer_from e ∙ told_by current table (λ d. first_named name 0 d.fields) not_good good
claim_so (labels d i bytes start) h e = lends_so d (stored d) (λ c. label_at c i) bytes start (within d h) e
claim_so (places_label d i part) h e = λ good.
    ap part_from_lem e ∙ sym (by_stored d (within d h) (λ c. label_at c i) _ good)
claim_so (tells_number r n) h e = first_same e
claim_so (tells_place r n) h e = first_same e
claim_so (tells_amount r n) h e = first_same e
claim_so (tells_limits l) h e = e
claim_so (counts d a) h e = λ good.
    ap answer_from e ∙ sym (by_stored d (within d h) (λ c. accepted (length c.fields)) not_good good)
claim_so (tells_kind d i a) h e = λ good. ap answer_from e ∙ sym (by_stored d (within d h) _ _ good)
claim_so (shorts d i bytes start) h e = lends_so d (stored d) (λ c. short_at c i) bytes start (within d h) e
claim_so (places_short d i part) h e = λ good.
    ap part_from_lem e ∙ sym (by_stored d (within d h) (λ c. short_at c i) _ good)
claim_so (partly_with m d packet a after n) h e = λ good. ap partly_from e ∙ sym (by_stored d (within d h) _ _ good)
claim_so (counts_readers d i a) h e = λ good.
    ap answer_from e ∙ sym (by_stored d (within d h) (λ c. readers_answer c.fields i) not_good good)
claim_so (counts_readers_in table i a) h e = λ good.
    ap answer_from e ∙ told_by current table (λ d. readers_answer d.fields i) not_good good
claim_so (converts_with n table a after) h e = λ old.
    ap outcome_from e ∙ told_by uncounted table (λ d. delivered (stored d) (replicate n 9))
    (leaves not_good (replicate n 9)) old
claim_so (cuts_with n table first last a after) h e = λ good fits.
    ap outcome_from e ∙ cut_told_lem table first last (replicate n 9) good fits
claim_so (puts_with n table at records a after) h e = λ good joins.
    ap outcome_from e ∙ put_told_lem table at records (replicate n 9) good joins

abbrev pub is_so : Claim → Bool
is_so c = is_fitting c && same (claimed c) (given c)

so : (c : Claim) → is_so c ≡ true → Claimed c
so c h =
    let e = and_true (is_fitting c) (same (claimed c) (given c)) h in
    claim_so c e.0 (same_true (claimed c) (given c) e.1)

pub all_so : (cs : List Claim) → all is_so cs ≡ true → AllSo cs
all_so = every_passes is_so so
