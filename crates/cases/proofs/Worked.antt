-- M1 to M10 and the worked cases hold: the definitions and the readers compute them, list by list.
use mathlib.Core.Path.{refl}
use lib.ListN.{take, drop}
use Rattle.base.specs.Bytes.{digits}
use Rattle.base.specs.Lists.{all, any, only, same, last_is, sum, joined, tabulate, first_break}
use Rattle.rules.specs.Operators.{operator, operators}
use Rattle.rules.specs.Names.{
  is_letter,
  is_digit,
  is_space,
  is_printable,
  is_allowed,
  is_word_byte,
  is_label_byte,
  no_two_spaces,
  is_label,
  reserved,
  is_reserved,
  is_short,
}
use Rattle.rules.specs.Trees.{depth, le2, le4, stored_tree, is_in_range, has_operators, has_type}
use Rattle.rules.specs.Values.{power, apply, decides, evaluate_by}
use Rattle.rules.specs.Within.{rows_fit}
use Rattle.rules.specs.References.{tree_reads, field_reads, times, readers}
use Rattle.rules.specs.Edits as Edits
use Rattle.rules.specs.Edits.{renumbered_tree, renumbered, closed, cut, put, first_reader}
use Rattle.rules.specs.Stored.{stored_in, stored_with, records_in, stored_field_in, field_body, head_body}
use Rattle.rules.specs.Rows.{left_trim, keep_end, right_trim, by_spaces, cell_text, are_fitted, columns, row_lines}
use Rattle.rules.specs.Frames.{tens, units, border, is_drawn_in, head_lines, cells}
use Rattle.rules.specs.Spelling.{mismatch}
use Rattle.rules.specs.Refusals.{unlabelled_line, rule_broken}
use Rattle.rules.specs.Reading.{bits_at, value_in, read_field_in, read_fields_in, reading_in, fields_before}
use Rattle.rules.specs.Reading.{entries_before}
use Rattle.rules.specs.Listing.{entry_lines, lines_text}
use Rattle.rules.specs.Answers.{fault_number, of_table, of_packet, of_text, of_field, of_listing, of_conversion}
use Rattle.rules.specs.Promises.{delivered, reading_answer, packet_outcome_in, partly_outcome, first_named}
use Rattle.rules.specs.Promises.{reading_lines}
use Rattle.rules.specs.Pages.{many_fields, many_rows, many_lines, not_times, and_times}
use Rattle.text_laws.specs.Reader.{
  after,
  first_of,
  insert,
  longest_first,
  order,
  skip,
  skip_behind,
  operator_at,
  word,
  behind,
  scan,
  word_value,
  is_numeral,
  is_number_word,
  and_then,
  leaf,
  close,
  inside,
  atom,
  step,
  expr,
  more,
}
use Rattle.text_laws.specs.LineReader as Lines
use Rattle.text_laws.specs.LineReader.{
  literal,
  begins,
  label_ends,
  label_text,
  label_behind,
  read_label,
  read_closed_name,
  read_short,
  read_tree,
  unit_of,
  read_unit,
  read_measure,
  read_width,
  read_phrase,
  read_maybe,
  is_condition,
  is_constraint,
  read_constraint,
  read_condition,
  is_remark,
  read_form,
}
use Rattle.text_laws.specs.FrameReader as Frames
use Rattle.text_laws.specs.FrameReader.{
  on_first,
  pieces,
  rest,
  keep_row,
  strips_of,
  row_of,
  read_long,
  with_strips,
  more_row,
  long_of,
  read_row,
  closing,
  read_tens,
  on_name,
  on_width,
  on_row,
  row_or_end,
  opened,
  on_same,
  run,
  right_from,
  right_lines,
  whole,
  on_brief,
  row_or_border,
  read_drawn,
  if_labelled,
  read_frame,
  reach,
  place_of,
}
use Rattle.text_laws.specs.Resolving.{first_index, rename_tree, resolve}
use Rattle.cases.proofs.SameTree.{same_tree}
use Rattle.text_laws.proofs.TextSeen.{forms_of, seen}
use Rattle.rules.specs.Cases.{AllHold}
use Rattle.rules.specs.Marked.{blade_report, marked}
use Rattle.laws.specs.WrongLimits.{entries_of, lines_of}
use Rattle.laws.specs.WrongOperators as Wrong
use Rattle.laws.specs.WrongNumbers.{doubled}
use Rattle.laws.proofs.Readers as Tables
use Rattle.laws.proofs.Joining.{read_records, number_at}
use Rattle.laws.proofs.WithinTest.{within}
use Rattle.base.proofs.Also.{◌also◌}
use Rattle.cases.specs.Expressions.{expressions}
use Rattle.cases.specs.Fields.{fields}
use Rattle.cases.specs.Names.{names}
use Rattle.cases.specs.Quotients.{quotients}
use Rattle.cases.specs.StoredTable.{stored_table}
use Rattle.cases.specs.Readers as Counted
use Rattle.cases.specs.Edits.{edits}
use Rattle.cases.specs.ReadingAPacket.{reading_a_packet}
use Rattle.cases.specs.Listing.{listings}
use Rattle.cases.specs.Promised.{promised}
use Rattle.cases.specs.Worked.{Worked}
use Rattle.cases.proofs.WorkedTexts.{texts_hold}
use Rattle.cases.proofs.CaseTests.{all_right, in_order}
use Rattle.cases.proofs.ClaimTests.{all_so}

cases_hold : AllHold marked × Worked
unfolding digits all any same last_is sum joined tabulate first_break operator operators is_letter is_digit is_space
    is_printable is_allowed is_word_byte is_label_byte no_two_spaces is_label reserved is_reserved is_short depth le2
    le4 stored_tree is_in_range has_type has_operators power apply decides evaluate_by rows_fit tree_reads field_reads
    times readers stored_in stored_with records_in stored_field_in field_body head_body tens units border only
    left_trim keep_end right_trim by_spaces cell_text are_fitted columns row_lines unlabelled_line is_drawn_in
    head_lines cells mismatch rule_broken bits_at value_in read_field_in read_fields_in reading_in fields_before
    entries_before entry_lines lines_text fault_number of_table of_packet of_text of_field of_listing of_conversion
    delivered reading_answer packet_outcome_in partly_outcome first_named reading_lines many_fields not_times
    and_times after many_rows many_lines first_of insert longest_first order skip skip_behind operator_at word behind
    scan word_value is_numeral is_number_word and_then leaf close inside atom step expr more Lines.read_field literal
    begins label_ends label_text label_behind read_label read_closed_name read_short read_tree unit_of read_unit
    read_measure read_width read_phrase read_maybe is_condition is_constraint read_constraint read_condition is_remark
    read_form Frames.read_name Frames.step on_first pieces rest keep_row strips_of long_of read_long row_of read_row
    with_strips more_row closing read_tens on_name on_width on_row row_or_end opened on_same on_brief row_or_border
    run right_from right_lines whole read_drawn if_labelled read_frame reach place_of first_index rename_tree resolve
    same_tree forms_of seen Tables.read_two Tables.read_four Tables.read_counted Tables.code_in Tables.code_of
    Tables.read_after Tables.read_tree Tables.tree_of Tables.read_fixed Tables.read_measured Tables.read_width
    Tables.field_from Tables.read_field Tables.read_fields Tables.described_in entries_of lines_of Wrong.powers
    Wrong.quotients doubled renumbered_tree renumbered closed Edits.opened cut put first_reader read_records number_at
cases_hold = (
  -- M4, the fifth of the list, for every byte
  in_order (take 4 marked) (drop 4 marked) (all_right (take 4 marked) refl)
      ((within blade_report refl, λ b. refl)
      also all_right (drop 5 marked) refl),
  record {
    lines = texts_hold.0;
    rows = texts_hold.1;
    lengths = texts_hold.2;
    expressions = all_right expressions refl;
    fields = all_right fields refl;
    names = all_right names refl;
    quotients = all_right quotients refl;
    tables = all_right stored_table refl;
    readers = all_right Counted.readers refl;
    edits = all_right edits refl;
    spelling = texts_hold.3;
    packets = all_right reading_a_packet refl;
    refusals = texts_hold.4;
    listings = all_right listings refl;
    promises = all_so promised refl;
  },
)

pub all_marked : AllHold marked
all_marked = cases_hold.0

pub worked : Worked
worked = cases_hold.1
