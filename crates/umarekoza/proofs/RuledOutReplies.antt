-- No reply and no span of a wrong export keeps the export's promise.
use mathlib.Core.Path.{◌≡◌, refl, ap, sym, ◌∙◌}
use mathlib.Core.List.{List, [], ◌∷◌, ◌++◌}
use Prim.Native.Nat.{ℕ, ◌<◌}
use native.Mathlib.Omega.{arith}
use lib.ListN.{take, get_or}
use lib.Seq.{get_or-take}
use Rattle.base.specs.Bytes.{digits}
use Rattle.base.specs.Lists.{all, any, same, last_is, sum, joined, first_break}
use Rattle.rules.specs.Operators.{operator, operators}
use Rattle.rules.specs.Names.{
  is_letter,
  is_digit,
  is_space,
  is_word_byte,
  is_label_byte,
  no_two_spaces,
  is_label,
  reserved,
  is_reserved,
  is_short,
}
use Rattle.rules.specs.Trees.{depth, le2, le4, stored_tree, is_in_range, has_operators, has_type}
use Rattle.rules.specs.Values.{power, apply, decides, evaluate_by}
use Rattle.rules.specs.Within.{rows_fit}
use Rattle.rules.specs.References.{tree_reads, field_reads, times, readers}
use Rattle.rules.specs.Edits.{renumbered_tree, renumbered, closed, opened, cut, put, first_reader}
use Rattle.rules.specs.Stored.{stored_in, stored_with, records_in, stored_field_in, field_body, head_body}
use Rattle.rules.specs.Reading.{bits_at, value_in, read_field_in, read_fields_in, reading_in, fields_before}
use Rattle.rules.specs.Reading.{entries_before}
use Rattle.rules.specs.Listing.{entry_lines, lines_text}
use Rattle.rules.specs.Answers.{fault_number}
use Rattle.rules.specs.Promises.{delivered, reading_answer, packet_outcome_in, partly_outcome, reading_lines}
use Rattle.rules.specs.Promises.{first_named}
use Rattle.rules.specs.Marked.{tag_text}
use Rattle.rules.specs.Pieces.{state_bytes}
use Rattle.rules.specs.Pages.{tag_lines}
use Rattle.laws.specs.Places.{two_at}
use Rattle.laws.specs.Wrong.{AllFalse}
use Rattle.laws.proofs.RuledOut.{all_out}
use Rattle.laws.proofs.Joining.{read_records, number_at}
use Rattle.laws.proofs.Readers as Tables
use Rattle.text_laws.proofs.RuledOutTexts.{other, tag_known, barred_known}
use Rattle.texts.specs.Fills.{zeros_around}
use Rattle.texts.specs.PieceStates.{fresh_state}
use Rattle.umarekoza.specs.WrongReplies.{wrong_replies, WrongTextReplies, WrongPieceReplies}

pub replies_ruled_out : AllFalse wrong_replies
unfolding digits all any same last_is sum joined first_break operator is_letter is_digit is_space is_word_byte
    is_label_byte no_two_spaces is_label reserved is_reserved is_short depth le2 le4 stored_tree is_in_range has_type
    has_operators power apply decides evaluate_by rows_fit tree_reads field_reads times readers stored_in stored_with
    records_in stored_field_in field_body head_body bits_at value_in read_field_in read_fields_in reading_in
    entry_lines lines_text fault_number delivered reading_answer packet_outcome_in reading_lines first_named
    fields_before entries_before partly_outcome operators Tables.read_two Tables.read_four Tables.read_counted
    Tables.code_in Tables.code_of Tables.read_after Tables.read_tree Tables.tree_of Tables.read_fixed
    Tables.read_measured Tables.read_width Tables.field_from Tables.read_field Tables.read_fields Tables.described_in
    renumbered_tree renumbered closed opened cut put first_reader read_records number_at
replies_ruled_out = all_out wrong_replies refl

pub text_replies_ruled_out : WrongTextReplies
unfolding digits same joined sum operator le2 le4 stored_tree tree_reads field_reads times readers stored_in stored_with
    records_in stored_field_in field_body head_body delivered
text_replies_ruled_out = record {
  nothing = other tag_known refl;
  lengthless = other tag_known refl;
  renumbered = other barred_known refl;
}

-- a byte of the state of the empty text
fresh_byte : (t : List ℕ) (i : ℕ) → take state_bytes t ≡ fresh_state → i < state_bytes
    → get_or t i 0 ≡ get_or fresh_state i 0
fresh_byte t i e lt = sym (get_or-take state_bytes t i 0 lt) ∙ ap (λ (l : List ℕ). get_or l i 0) e

fresh_first : get_or fresh_state 0 0 ≡ 0
unfolding fresh_state zeros_around
fresh_first = refl

fresh_line : get_or fresh_state 24 0 ≡ 0
unfolding fresh_state zeros_around
fresh_line = refl

pub piece_replies_ruled_out : WrongPieceReplies
unfolding digits same joined sum operator le2 le4 stored_tree tree_reads field_reads times readers stored_in stored_with
    records_in stored_field_in field_body head_body delivered two_at
piece_replies_ruled_out = record {
  idle_start = λ s room nine h.
      let n = fresh_byte s 0 (h.1 room).0 (omega arith) ∙ fresh_first in absurd (omega (arith, n, nine));
  left_start = λ s t room nine h.
      let n = fresh_byte t 24 (h.1 room).0 (omega arith) ∙ fresh_line in absurd (omega (arith, n, nine));
  idle_piece = λ s left h.
      let n = left.size (omega arith) in
      let m = (h.1 [] left).size (omega arith) in
      absurd (omega (arith, n, m));
  only_piece = λ s t left only h.
      let n = only.size (omega arith) in
      let m = (h.1 (9 ∷ []) left).size (omega arith) in
      absurd (omega (arith, n, m));
  lengthless = λ s left h. other tag_known refl (h.reads tag_text left);
  renumbered = λ s left h. other barred_known refl (h.reads (tag_lines 1 ++ (0x7F ∷ [])) left);
}
