-- What the promise of a text rules out. A text and an output have one outcome (TextResults), which computes (TextSeen);
-- each claim of specs/WrongTexts has another, by one computation.
use mathlib.Core.Path.{◌≡◌, refl, subst}
use mathlib.Core.Bool.{Bool, true, not}
use mathlib.Core.Logic.{◌⊎◌, inl, inr}
use mathlib.Core.List.{List, [], ◌∷◌, ◌++◌, map}
use Prim.Native.Nat.{ℕ}
use Rattle.base.proofs.Lists.{every_passes, other_numbers, and_left, and_right}
use Rattle.base.specs.Bytes.{digits}
use Rattle.base.specs.Lists.{all, any, only, same, last_is, sum, joined, tabulate, first_break, Every}
use Rattle.rules.specs.Operators.{operator, operators}
use Rattle.rules.specs.Names.{
  is_letter,
  is_digit,
  is_space,
  is_printable,
  is_allowed,
  is_word_byte,
  is_label_byte,
  no_two_spaces,
  is_label,
  reserved,
  is_reserved,
  is_short,
}
use Rattle.rules.specs.Trees.{depth, le2, le4, stored_tree, is_in_range, has_type}
use Rattle.rules.specs.References.{tree_reads, field_reads, times, readers}
use Rattle.rules.specs.Stored.{stored_in, stored_with, records_in, stored_field_in, field_body, head_body}
use Rattle.rules.specs.Rows.{left_trim, keep_end, right_trim, by_spaces, cell_text, are_fitted, columns, row_lines}
use Rattle.rules.specs.Frames.{tens, units, border, head_lines, cells}
use Rattle.rules.specs.Spelling.{mismatch}
use Rattle.rules.specs.Refusals.{unlabelled_line, rule_broken}
use Rattle.rules.specs.Answers.{of_text}
use Rattle.rules.specs.Promises.{delivered}
use Rattle.rules.specs.Pages.{not_times}
use Rattle.text_laws.specs.Reader.{
  after,
  first_of,
  insert,
  longest_first,
  order,
  skip,
  skip_behind,
  operator_at,
  word,
  behind,
  scan,
  word_value,
  is_numeral,
  is_number_word,
  and_then,
  leaf,
  close,
  inside,
  atom,
  step,
  expr,
  more,
}
use Rattle.text_laws.specs.LineReader as Lines
use Rattle.text_laws.specs.LineReader.{
  literal,
  begins,
  label_ends,
  label_text,
  label_behind,
  read_label,
  read_closed_name,
  read_short,
  read_tree,
  unit_of,
  read_unit,
  read_measure,
  read_width,
  read_phrase,
  read_maybe,
  is_condition,
  is_constraint,
  read_constraint,
  read_condition,
  is_remark,
  read_form,
}
use Rattle.text_laws.specs.FrameReader as Frames
use Rattle.text_laws.specs.FrameReader.{
  on_first,
  pieces,
  rest,
  keep_row,
  strips_of,
  row_of,
  read_long,
  with_strips,
  more_row,
  long_of,
  read_row,
  closing,
  read_tens,
  on_name,
  on_width,
  on_row,
  row_or_end,
  opened,
  on_same,
  run,
  right_from,
  right_lines,
  whole,
  on_brief,
  row_or_border,
  read_drawn,
  if_labelled,
  read_frame,
  reach,
  place_of,
}
use Rattle.text_laws.specs.Resolving.{first_index, rename_tree, resolve}
use Rattle.rules.specs.Fields.{Description}
use Rattle.rules.specs.Stored.{stored}
use Rattle.rules.specs.Answers.{Answer, refused}
use Rattle.rules.specs.Promises.{Outcome, leaves, ReadsText}
use Rattle.rules.specs.Marked.{tag, tag_text}
use Rattle.rules.specs.Pages.{tag_lines, many_fields, many_rows, many_lines}
use Rattle.laws.specs.WrongOperators.{powers}
use Rattle.laws.specs.WrongNumbers.{doubled}
use Rattle.laws.proofs.RuledOut.{numbers}
use Rattle.text_laws.specs.WrongTexts.{Claim, reads, Claimed, AllFalse, wrong_texts}
use Rattle.text_laws.specs.WrongTextNames.{wrong_text_names}
use Rattle.text_laws.specs.WrongTextOperators.{wrong_text_operators}
use Rattle.text_laws.specs.WrongTextNumbers.{wrong_text_numbers}
use Rattle.text_laws.specs.WrongTextRows.{wrong_text_rows}
use Rattle.text_laws.specs.WrongTextLines.{wrong_text_lines}
use Rattle.text_laws.specs.WrongPieces.{PieceClaim, ends, ClaimedOf, PiecesFalse, as_text, wrong_pieces}
use Rattle.rules.specs.PieceResults.{joined_text}
use Rattle.text_laws.proofs.TextResults.{text_unique}
use Rattle.text_laws.proofs.PieceLaws.{pieces_answered}
use Rattle.text_laws.proofs.TextSeen.{forms_of, seen, outcome_of, outcome_is}

-- ── another outcome than the one there is ──

pub other : {text out : List ℕ} {o p : Outcome} → ReadsText text out o → not (same (numbers p) (numbers o)) ≡ true
    → ReadsText text out p → ⊥
other {text} {out} {o} {p} known differs claim =
    other_numbers numbers p o differs (text_unique text out p o claim known)

abbrev is_other : Claim → Bool
is_other (reads text out r after) =
    not (same (numbers (leaves (of_text r) after)) (numbers (outcome_of (seen text) out)))

ruled_out : (c : Claim) → is_other c ≡ true → Claimed c → ⊥
ruled_out (reads text out r after) h p = other (outcome_is text out) h p

-- ── what computes ──

abbrev barred_text : List ℕ
barred_text = tag_lines 1 ++ (0x7F ∷ [])

abbrev every_text : List Claim
every_text =
    wrong_texts
    ++ (wrong_text_names ++ (wrong_text_operators ++ (wrong_text_numbers ++ (wrong_text_rows ++ wrong_text_lines))))

-- pieces by their joined texts
abbrev joined_texts : List Claim
joined_texts = map as_text wrong_pieces

record Computed : Type 0 where
  spelled : seen tag_text ≡ inr tag
  barred : seen barred_text ≡ inl (refused 2 0)
  others : all is_other every_text ≡ true
  joint : all is_other joined_texts ≡ true

computed : Computed
unfolding digits all any same last_is sum joined tabulate first_break operator operators is_letter is_digit is_space
    is_printable is_allowed is_word_byte is_label_byte no_two_spaces is_label reserved is_reserved is_short depth le2
    le4 stored_tree is_in_range has_type tree_reads field_reads times readers stored_in stored_with records_in
    stored_field_in field_body head_body tens units border only left_trim keep_end right_trim by_spaces cell_text
    are_fitted columns row_lines unlabelled_line head_lines cells mismatch rule_broken of_text delivered not_times
    after first_of insert longest_first order skip skip_behind operator_at word behind scan word_value is_numeral
    is_number_word and_then leaf close inside atom step expr more Lines.read_field literal begins label_ends
    label_text label_behind read_label read_closed_name read_short read_tree unit_of read_unit read_measure read_width
    read_phrase read_maybe is_condition is_constraint read_constraint read_condition is_remark read_form
    Frames.read_name Frames.step on_first pieces rest keep_row strips_of long_of read_long row_of read_row with_strips
    more_row closing read_tens on_name on_width on_row row_or_end opened on_same on_brief row_or_border run right_from
    right_lines whole read_drawn if_labelled read_frame reach place_of first_index rename_tree resolve forms_of seen
    many_fields many_rows many_lines powers doubled
computed = record { spelled = refl; barred = refl; others = refl; joint = refl }

-- the outcomes of two texts
known : (text out : List ℕ) (s : Answer ⊎ Description) → seen text ≡ s → ReadsText text out (outcome_of s out)
known text out s e = subst (λ (r : Answer ⊎ Description). ReadsText text out (outcome_of r out)) e (outcome_is text out)

pub tag_known : {out : List ℕ} → ReadsText tag_text out (delivered (stored tag) out)
tag_known {out} = known tag_text out (inr tag) computed.spelled

pub barred_known : {out : List ℕ} → ReadsText (tag_lines 1 ++ (0x7F ∷ [])) out (leaves (refused 2 0) out)
barred_known {out} = known barred_text out (inl (refused 2 0)) computed.barred

-- each wrong program's answer is ruled out
pub texts_ruled_out : AllFalse every_text
texts_ruled_out =
    every_passes is_other ruled_out
    every_text
    computed.others

-- and of the pieces, by what the end answers
module _ (Of : List ℕ → List ℕ → Type 0) (fresh : List ℕ) where
  pieces_of : (c : PieceClaim) → is_other (as_text c) ≡ true → ClaimedOf Of fresh c → ⊥
  pieces_of (ends pieces out r after) h p =
      ruled_out (reads (joined_text pieces) out r after) h
      (pieces_answered Of fresh pieces p.0 out (leaves (of_text r) after) p.1 p.2)

  every_piece : (l : List PieceClaim) → all is_other (map as_text l) ≡ true
      → Every (λ c. ClaimedOf Of fresh c → ⊥) l
  unfolding all
  every_piece [] h = tt
  every_piece (c ∷ l) h = (
    pieces_of c (and_left (is_other (as_text c)) (all is_other (map as_text l)) h),
    every_piece l (and_right (is_other (as_text c)) (all is_other (map as_text l)) h),
  )

pub pieces_ruled_out : PiecesFalse wrong_pieces
pieces_ruled_out Of fresh = every_piece Of fresh wrong_pieces computed.joint
