-- What the promises rule out. A promise allows one answer and one buffer (Allowed); of other numbers it is false. Each
-- claim of specs/Wrong has other numbers, by one computation.
use mathlib.Core.Path.{◌≡◌, refl, ap, ◌∙◌}
use mathlib.Core.Bool.{Bool, true, ◌&&◌, not}
use mathlib.Core.List.{List, [], ◌∷◌, ◌++◌}
use Prim.Native.Nat.{ℕ}
use lib.ListN.{length, get_elem?, replicate}
use Rattle.base.specs.Bytes.{digits}
use Rattle.base.specs.Lists.{all, any, same, last_is, sum, joined, first_break}
use Rattle.base.proofs.Lists.{every_passes, not_same}
use Rattle.base.proofs.Breaks.{and_true}
use Rattle.rules.specs.Limits.{limits}
use Rattle.rules.specs.Operators.{operator, operators}
use Rattle.rules.specs.Names.{
  is_letter,
  is_digit,
  is_space,
  is_word_byte,
  is_label_byte,
  no_two_spaces,
  is_label,
  reserved,
  is_reserved,
  is_short,
}
use Rattle.rules.specs.Trees.{depth, le2, le4, stored_tree, is_in_range, has_operators, has_type}
use Rattle.rules.specs.Values.{power, apply, decides, evaluate_by}
use Rattle.rules.specs.Within.{rows_fit}
use Rattle.rules.specs.References.{tree_reads, field_reads, times, readers}
use Rattle.rules.specs.Edits.{renumbered_tree, renumbered, closed, opened, cut, put, first_reader}
use Rattle.rules.specs.Stored.{stored_in, stored_with, records_in, stored_field_in, stored, field_body, head_body}
use Rattle.rules.specs.Reading.{
  Part,
  part_in,
  part_bytes,
  bits_at,
  value_in,
  read_field_in,
  read_fields_in,
  reading,
  reading_in,
  fields_before,
  entries_before,
}
use Rattle.rules.specs.Listing.{entry_lines, lines_text}
use Rattle.rules.specs.Answers.{Answer, accepted, fault_number, of_packet}
use Rattle.rules.specs.Promises.{
  Outcome,
  leaves,
  delivered,
  reading_answer,
  packet_outcome,
  packet_outcome_in,
  first_named,
  reading_lines,
  listing,
  Partly,
  leaves_partly,
  partly_outcome,
  kind_answer,
  readers_answer,
}
use Rattle.rules.specs.Pages.{many_fields, not_times, and_times}
use Rattle.laws.proofs.WithinTest.{is_within, within}
use Rattle.laws.proofs.GoodTest.{answer_in}
use Rattle.laws.proofs.Readers as Tables
use Rattle.laws.proofs.Allowed.{
  table_only,
  outcome_in,
  answer_only,
  outcome_only_in,
  outcome_only,
  listing_only,
  part_only,
  part_place_only,
  field_only,
  found_in,
  found_only,
  label_at,
  label_only,
  label_place_only,
  count_only,
  kind_only,
  short_at,
  short_only,
  short_place_only,
  partly_only,
  readers_only,
  readers_in,
  readers_only_in,
  converted_in,
  converted_only,
}
use Rattle.laws.proofs.Joining.{read_records, number_at}
use Rattle.laws.proofs.EditsTold.{cut_in, cut_only, put_in, put_only}
use Rattle.laws.specs.Wrong.{
  Claim,
  checks,
  checks_in,
  reads_in,
  reads_with,
  lists_with,
  hands,
  places_part,
  finds,
  finds_in,
  labels,
  places_label,
  tells_number,
  tells_place,
  tells_amount,
  tells_limits,
  counts,
  tells_kind,
  shorts,
  places_short,
  partly_with,
  counts_readers,
  counts_readers_in,
  converts_with,
  cuts_with,
  puts_with,
  Claimed,
  AllFalse,
  wrong,
}
use Rattle.laws.specs.WrongLimits.{entries_of, lines_of, wrong_limits}
use Rattle.laws.specs.WrongNames.{wrong_names}
use Rattle.laws.specs.WrongOperators.{powers, quotients, wrong_operators}
use Rattle.laws.specs.WrongNumbers.{doubled, wrong_numbers}
use Rattle.laws.specs.WrongRecords.{wrong_records}
use Rattle.laws.specs.WrongEdits.{wrong_edits}
use Rattle.laws.specs.WrongPuts.{wrong_puts}

-- ── of other numbers it is false ──

abbrev pub answer_numbers : Answer → List ℕ
answer_numbers a = a.number ∷ a.place ∷ a.amount ∷ []

abbrev pub numbers : Outcome → List ℕ
numbers o = o.answer.number ∷ o.answer.place ∷ o.answer.amount ∷ o.buffer

abbrev pub part_numbers : List ℕ → Part → List ℕ
part_numbers packet part = part.start ∷ part_bytes packet part

abbrev pub place_numbers : Part → List ℕ
place_numbers part = part.start ∷ part.size ∷ []

abbrev pub partly_numbers : Partly → List ℕ
partly_numbers p = p.count ∷ numbers p.outcome

abbrev pub single : ℕ → List ℕ
single n = n ∷ []

-- what a claim says, and what the definitions give, in numbers
abbrev pub claimed : Claim → List ℕ
claimed (checks d a) = answer_numbers a
claimed (checks_in e table a) = answer_numbers a
claimed (reads_in e n table packet a after) = numbers (leaves a after)
claimed (reads_with n d packet a after) = numbers (leaves a after)
claimed (lists_with n d packet a after) = numbers (leaves a after)
claimed (hands d packet i bytes start) = start ∷ bytes
claimed (places_part d packet i part) = place_numbers part
claimed (finds d name a) = answer_numbers a
claimed (finds_in table name a) = answer_numbers a
claimed (labels d i bytes start) = start ∷ bytes
claimed (places_label d i part) = place_numbers part
claimed (tells_number r n) = single n
claimed (tells_place r n) = single n
claimed (tells_amount r n) = single n
claimed (tells_limits l) = l
claimed (counts d a) = answer_numbers a
claimed (tells_kind d i a) = answer_numbers a
claimed (shorts d i bytes start) = start ∷ bytes
claimed (places_short d i part) = place_numbers part
claimed (partly_with m d packet a after n) = partly_numbers (leaves_partly a after n)
claimed (counts_readers d i a) = answer_numbers a
claimed (counts_readers_in table i a) = answer_numbers a
claimed (converts_with n table a after) = numbers (leaves a after)
claimed (cuts_with n table first last a after) = numbers (leaves a after)
claimed (puts_with n table at records a after) = numbers (leaves a after)

abbrev pub given : Claim → List ℕ
given (checks d r) = answer_numbers (accepted (length (stored d)))
given (checks_in e table r) = answer_numbers (answer_in e table)
given (reads_in e n table packet r after) = numbers (outcome_in e table packet (replicate n 9))
given (reads_with n d packet r after) = numbers (packet_outcome d packet (replicate n 9))
given (lists_with n d packet r after) = numbers (delivered (listing d packet) (replicate n 9))
given (hands d packet i bytes start) = part_numbers packet (part_in (reading d packet) i)
given (places_part d packet i part) = place_numbers (part_in (reading d packet) i)
given (finds d name r) = answer_numbers (first_named name 0 d.fields)
given (finds_in table name r) = answer_numbers (found_in table name)
given (labels d i bytes start) = part_numbers (stored d) (label_at d i)
given (places_label d i part) = place_numbers (label_at d i)
given (tells_number r n) = single (of_packet r).number
given (tells_place r n) = single (of_packet r).place
given (tells_amount r n) = single (of_packet r).amount
given (tells_limits l) = limits
given (counts d a) = answer_numbers (accepted (length d.fields))
given (tells_kind d i a) = answer_numbers (kind_answer (get_elem? d.fields i))
given (shorts d i bytes start) = part_numbers (stored d) (short_at d i)
given (places_short d i part) = place_numbers (short_at d i)
given (partly_with m d packet a after n) = partly_numbers (partly_outcome d packet (replicate m 9))
given (counts_readers d i a) = answer_numbers (readers_answer d.fields i)
given (counts_readers_in table i a) = answer_numbers (readers_in table i)
given (converts_with n table a after) = numbers (converted_in table (replicate n 9))
given (cuts_with n table first last a after) = numbers (cut_in table first last (replicate n 9))
given (puts_with n table at records a after) = numbers (put_in table at records (replicate n 9))

-- what is claimed of a table is of the table of a description within the limits
abbrev pub is_fitting : Claim → Bool
is_fitting (checks d r) = is_within d
is_fitting (checks_in e table r) = true
is_fitting (reads_in e n table packet r after) = true
is_fitting (reads_with n d packet r after) = is_within d
is_fitting (lists_with n d packet r after) = is_within d
is_fitting (hands d packet i bytes start) = is_within d
is_fitting (places_part d packet i part) = is_within d
is_fitting (finds d name r) = is_within d
is_fitting (finds_in table name r) = true
is_fitting (labels d i bytes start) = is_within d
is_fitting (places_label d i part) = is_within d
is_fitting (tells_number r n) = true
is_fitting (tells_place r n) = true
is_fitting (tells_amount r n) = true
is_fitting (tells_limits l) = true
is_fitting (counts d a) = is_within d
is_fitting (tells_kind d i a) = is_within d
is_fitting (shorts d i bytes start) = is_within d
is_fitting (places_short d i part) = is_within d
is_fitting (partly_with m d packet a after n) = is_within d
is_fitting (counts_readers d i a) = is_within d
is_fitting (counts_readers_in table i a) = true
is_fitting (converts_with n table a after) = true
is_fitting (cuts_with n table first last a after) = true
is_fitting (puts_with n table at records a after) = true

two_parts : {m n : ℕ} {s t : List ℕ} → (s ≡ t) × (m ≡ n) → m ∷ s ≡ n ∷ t
two_parts {n = n} {s = s} q = ap (λ (k : ℕ). k ∷ s) q.1 ∙ ap (λ (l : List ℕ). n ∷ l) q.0

pub claim_only : (c : Claim) → is_fitting c ≡ true → Claimed c → claimed c ≡ given c
claim_only (checks d a) h p = ap answer_numbers (table_only d a (within d h) p)
claim_only (checks_in e table a) h p = ap answer_numbers (answer_only e table a p)
claim_only (reads_in e n table packet a after) h p =
    ap numbers (outcome_only_in e table packet (replicate n 9) (leaves a after) p)
claim_only (reads_with n d packet a after) h p =
    ap numbers (outcome_only d packet (replicate n 9) (leaves a after) (within d h) p)
claim_only (lists_with n d packet a after) h p =
    ap numbers (listing_only d packet (replicate n 9) (leaves a after) (within d h) p)
claim_only (hands d packet i bytes start) h p = two_parts (part_only d packet i p.0 bytes start (within d h) p.1)
claim_only (places_part d packet i part) h p = ap place_numbers (part_place_only d packet i part (within d h) p)
claim_only (finds d name a) h p = ap answer_numbers (field_only d name a (within d h) p)
claim_only (finds_in table name a) h p = ap answer_numbers (found_only table name a p)
claim_only (labels d i bytes start) h p = two_parts (label_only d i p.0 bytes start (within d h) p.1)
claim_only (places_label d i part) h p = ap place_numbers (label_place_only d i part (within d h) p)
claim_only (tells_number r n) h p = ap single p
claim_only (tells_place r n) h p = ap single p
claim_only (tells_amount r n) h p = ap single p
claim_only (tells_limits l) h p = p
claim_only (counts d a) h p = ap answer_numbers (count_only d a (within d h) p)
claim_only (tells_kind d i a) h p = ap answer_numbers (kind_only d i a (within d h) p)
claim_only (shorts d i bytes start) h p = two_parts (short_only d i p.0 bytes start (within d h) p.1)
claim_only (places_short d i part) h p = ap place_numbers (short_place_only d i part (within d h) p)
claim_only (partly_with m d packet a after n) h p =
    ap partly_numbers (partly_only d packet (replicate m 9) (leaves_partly a after n) (within d h) p)
claim_only (counts_readers d i a) h p = ap answer_numbers (readers_only d i a (within d h) p)
claim_only (counts_readers_in table i a) h p = ap answer_numbers (readers_only_in table i a p)
claim_only (converts_with n table a after) h p =
    ap numbers (converted_only table (replicate n 9) (leaves a after) p)
claim_only (cuts_with n table first last a after) h p =
    ap numbers (cut_only table first last (replicate n 9) (leaves a after) p)
claim_only (puts_with n table at records a after) h p =
    ap numbers (put_only table at records (replicate n 9) (leaves a after) p)

abbrev pub is_other : Claim → Bool
is_other c = is_fitting c && not (same (claimed c) (given c))

pub ruled_out : (c : Claim) → is_other c ≡ true → Claimed c → ⊥
ruled_out c h p =
    let e = and_true (is_fitting c) (not (same (claimed c) (given c))) h in
    not_same (claimed c) (given c) e.1 (claim_only c e.0 p)

pub all_out : (cs : List Claim) → all is_other cs ≡ true → AllFalse cs
all_out = every_passes is_other ruled_out

abbrev pub every_claim : List Claim
every_claim = wrong ++ (wrong_limits ++ (wrong_names ++ (wrong_operators ++ (wrong_numbers
    ++ (wrong_records ++ (wrong_edits ++ wrong_puts))))))

-- each wrong program's answer is ruled out
pub all_ruled_out : AllFalse every_claim
unfolding digits all any same last_is sum joined first_break operator operators is_letter is_digit is_space
    is_word_byte is_label_byte no_two_spaces is_label reserved is_reserved is_short depth le2 le4 stored_tree
    is_in_range has_type has_operators power apply decides evaluate_by rows_fit tree_reads field_reads times readers
    stored_in stored_with records_in stored_field_in field_body head_body bits_at value_in read_field_in
    read_fields_in reading_in entry_lines lines_text fault_number of_packet delivered reading_answer packet_outcome_in
    reading_lines first_named fields_before entries_before partly_outcome many_fields not_times and_times entries_of
    lines_of powers quotients doubled Tables.read_two Tables.read_four Tables.read_counted Tables.code_in
    Tables.code_of Tables.read_after Tables.read_tree Tables.tree_of Tables.read_fixed Tables.read_measured
    Tables.read_width Tables.field_from Tables.read_field Tables.read_fields Tables.described_in renumbered_tree
    renumbered closed opened cut put first_reader read_records number_at
all_ruled_out = all_out every_claim refl
