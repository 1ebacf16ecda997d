-- What may differ between editions of the rules: the edition in force, and earlier ones.
use Rattle.std.specs.Prelude.{◌≡◌, refl, Bool, true, false, cond, not, ℕ, ◌+◌, ltb, leb}
use Rattle.rules.specs.declared.Op.{Op}
use Rattle.rules.specs.Limits.{text_most, line_most, fields_most, packet_most, row_lines_most}
use Rattle.rules.specs.Operators.{is_added}
use Rattle.rules.specs.Values.{Meaning, apply}

pub record Edition : Type 0 where
  -- how many lines a bit row may have
  pub row_lines : ℕ
  -- how many bytes a line may have, its LF not counted
  pub line_bytes : ℕ
  -- how many fields there may be; an index takes one byte
  pub fields : ℕ
  pub few : leb fields 256 ≡ true
  -- how many bytes a packet may have
  pub packet : ℕ
  -- the operators that there may be, and what they make of values
  pub knows : Op → Bool
  pub means : Meaning
  -- the kind of a fixed field's record; a measured one's and the rest field's are the next two
  pub fixed_kind : ℕ
  pub short : ltb (fixed_kind + 2) 65536 ≡ true
  -- a field's record keeps how often the field is read
  pub keeps_readers : Bool

-- [01, The stored table] [02, R-1] [02, R-5] [02, R-7] [02, R-9] [02, R-10]
abbrev pub current : Edition
current = record {
  row_lines = row_lines_most;
  line_bytes = line_most;
  fields = fields_most;
  few = refl;
  packet = packet_most;
  knows = λ o. true;
  means = apply;
  fixed_kind = 12;
  short = refl;
  keeps_readers = true;
}

-- what a depot runs that still has the limits of document 01, all else as in force
-- [01, Fields] [01, Refusal numbers] [02, R-10]
abbrev pub earlier : Edition
earlier = record {
  row_lines = current.row_lines;
  line_bytes = current.line_bytes;
  fields = 64;
  few = refl;
  packet = 2048;
  knows = current.knows;
  means = current.means;
  fixed_kind = current.fixed_kind;
  short = current.short;
  keeps_readers = current.keeps_readers;
}

-- rows of one line, as document 01 draws them, all else as in force [01, The lines of a text] [02, R-1]
abbrev pub one_line : Edition
one_line = record {
  row_lines = 1;
  line_bytes = current.line_bytes;
  fields = current.fields;
  few = current.few;
  packet = current.packet;
  knows = current.knows;
  means = current.means;
  fixed_kind = current.fixed_kind;
  short = current.short;
  keeps_readers = current.keeps_readers;
}

-- lines of any length, all else as in force: no line of a text that is not too long is longer
-- [01, The lines of a text] [02, R-9]
abbrev pub any_line : Edition
any_line = record {
  row_lines = current.row_lines;
  line_bytes = text_most;
  fields = current.fields;
  few = current.few;
  packet = current.packet;
  knows = current.knows;
  means = current.means;
  fixed_kind = current.fixed_kind;
  short = current.short;
  keeps_readers = current.keeps_readers;
}

-- without `/`, `%` and `^`, all else as in force; what it would make of these is anything [02, R-7]
abbrev pub without_added : Meaning → Edition
without_added means = record {
  row_lines = current.row_lines;
  line_bytes = current.line_bytes;
  fields = current.fields;
  few = current.few;
  packet = current.packet;
  knows = λ o. not (is_added o);
  means = λ o. cond (is_added o) (means o) (apply o);
  fixed_kind = current.fixed_kind;
  short = current.short;
  keeps_readers = current.keeps_readers;
}

-- what an old table was good by, the rules as R-2 left them: the limits of document 01, without `/`, `%` and `^`, and
-- records of the kinds 2 to 4 that keep no number; names as in force [01, The stored table] [02, R-2] [02, R-5]
abbrev pub uncounted : Edition
uncounted = record {
  row_lines = current.row_lines;
  line_bytes = current.line_bytes;
  fields = earlier.fields;
  few = earlier.few;
  packet = earlier.packet;
  knows = λ o. not (is_added o);
  means = apply;
  fixed_kind = 2;
  short = refl;
  keeps_readers = false;
}

-- with such records, all else as in force [02, R-5]
abbrev pub without_readers : Edition
without_readers = record {
  row_lines = current.row_lines;
  line_bytes = current.line_bytes;
  fields = current.fields;
  few = current.few;
  packet = current.packet;
  knows = current.knows;
  means = current.means;
  fixed_kind = uncounted.fixed_kind;
  short = uncounted.short;
  keeps_readers = uncounted.keeps_readers;
}
