-- The worked cases of texts hold: the definitions and the readers compute them, list by list.
use mathlib.Core.Path.{refl}
use Rattle.base.specs.Bytes.{digits}
use Rattle.base.specs.Lists.{all, any, only, same, last_is, sum, joined, tabulate, first_break}
use Rattle.rules.specs.Operators.{operator, operators}
use Rattle.rules.specs.Names.{
  is_letter,
  is_digit,
  is_space,
  is_printable,
  is_allowed,
  is_word_byte,
  is_label_byte,
  no_two_spaces,
  is_label,
  reserved,
  is_reserved,
  is_short,
}
use Rattle.rules.specs.Trees.{depth, le2, le4, stored_tree, is_in_range, has_operators, has_type}
use Rattle.rules.specs.Within.{rows_fit}
use Rattle.rules.specs.References.{tree_reads, field_reads, times, readers}
use Rattle.rules.specs.Stored.{stored_in, stored_with, records_in, stored_field_in, field_body, head_body}
use Rattle.rules.specs.Rows.{left_trim, keep_end, right_trim, by_spaces, cell_text, are_fitted, columns, row_lines}
use Rattle.rules.specs.Frames.{tens, units, border, is_drawn_in, head_lines, cells}
use Rattle.rules.specs.Spelling.{mismatch}
use Rattle.rules.specs.Refusals.{unlabelled_line, rule_broken}
use Rattle.rules.specs.Answers.{fault_number, of_table, of_packet, of_text, of_field, of_listing, of_conversion}
use Rattle.rules.specs.Promises.{delivered}
use Rattle.rules.specs.Pages.{many_fields, many_rows, many_lines, not_times, and_times}
use Rattle.text_laws.specs.Reader.{
  after,
  first_of,
  insert,
  longest_first,
  order,
  skip,
  skip_behind,
  operator_at,
  word,
  behind,
  scan,
  word_value,
  is_numeral,
  is_number_word,
  and_then,
  leaf,
  close,
  inside,
  atom,
  step,
  expr,
  more,
}
use Rattle.text_laws.specs.LineReader as Lines
use Rattle.text_laws.specs.LineReader.{
  literal,
  begins,
  label_ends,
  label_text,
  label_behind,
  read_label,
  read_closed_name,
  read_short,
  read_tree,
  unit_of,
  read_unit,
  read_measure,
  read_width,
  read_phrase,
  read_maybe,
  is_condition,
  is_constraint,
  read_constraint,
  read_condition,
  is_remark,
  read_form,
}
use Rattle.text_laws.specs.FrameReader as Frames
use Rattle.text_laws.specs.FrameReader.{
  on_first,
  pieces,
  rest,
  keep_row,
  strips_of,
  row_of,
  read_long,
  with_strips,
  more_row,
  long_of,
  read_row,
  closing,
  read_tens,
  on_name,
  on_width,
  on_row,
  row_or_end,
  opened,
  on_same,
  run,
  right_from,
  right_lines,
  whole,
  on_brief,
  row_or_border,
  read_drawn,
  if_labelled,
  read_frame,
  reach,
  place_of,
}
use Rattle.text_laws.specs.Resolving.{first_index, rename_tree, resolve}
use Rattle.cases.proofs.SameTree.{same_tree}
use Rattle.text_laws.proofs.TextSeen.{forms_of, seen}
use Rattle.rules.specs.Cases.{AllHold}
use Rattle.laws.proofs.Readers as Tables
use Rattle.cases.specs.LinesOfAText.{lines_of_a_text}
use Rattle.cases.specs.Rows.{rows}
use Rattle.cases.specs.LineLengths.{line_lengths}
use Rattle.cases.specs.Spelling.{spelling}
use Rattle.cases.specs.RefusalNumbers.{refusal_numbers}
use Rattle.cases.proofs.CaseTests.{all_right}

pub texts_hold : AllHold lines_of_a_text × AllHold rows × AllHold line_lengths × AllHold spelling
    × AllHold refusal_numbers
unfolding digits all any same last_is sum joined tabulate first_break operator operators is_letter is_digit is_space
    is_printable is_allowed is_word_byte is_label_byte no_two_spaces is_label reserved is_reserved is_short depth le2
    le4 stored_tree has_type has_operators rows_fit tree_reads field_reads times readers stored_in stored_with
    records_in stored_field_in field_body head_body tens units border only left_trim keep_end right_trim by_spaces
    cell_text are_fitted columns row_lines unlabelled_line is_drawn_in head_lines cells mismatch rule_broken of_table
    of_packet of_text of_field of_listing of_conversion delivered many_fields not_times after many_rows many_lines
    first_of insert longest_first order skip skip_behind operator_at word behind scan word_value is_numeral
    is_number_word and_then leaf close inside atom step expr more Lines.read_field literal begins label_ends
    label_text label_behind read_label read_closed_name read_short read_tree unit_of read_unit read_measure read_width
    read_phrase read_maybe is_condition is_constraint read_constraint read_condition is_remark read_form
    Frames.read_name Frames.step on_first pieces rest keep_row strips_of long_of read_long row_of read_row with_strips
    more_row closing read_tens on_name on_width on_row row_or_end opened on_same on_brief row_or_border run right_from
    right_lines whole read_drawn if_labelled read_frame reach place_of first_index rename_tree resolve forms_of seen
    Tables.read_two Tables.read_four Tables.read_counted Tables.code_in Tables.code_of Tables.read_after
    Tables.read_tree Tables.tree_of Tables.read_fixed Tables.read_measured Tables.read_width Tables.field_from
    Tables.read_field Tables.read_fields Tables.described_in is_in_range same_tree and_times fault_number
texts_hold = (
  all_right lines_of_a_text refl,
  all_right rows refl,
  all_right line_lengths refl,
  all_right spelling refl,
  all_right refusal_numbers refl,
)
