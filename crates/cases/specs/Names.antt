-- Worked cases: the names by which a field may be read, and those that clash. [02, R-2]
use Rattle.std.specs.Prelude.{List, [], ◌∷◌, ◌++◌, map, ℕ, length, replicate}
use Rattle.std.proofs.Math.Option.{none, some}
use Rattle.base.specs.Bytes.{bytes}
use Rattle.rules.specs.Fields.{fixed, Description}
use Rattle.rules.specs.Stored.{stored}
use Rattle.rules.specs.Reading.{absent}
use Rattle.rules.specs.Answers.{accepted, refused}
use Rattle.rules.specs.Promises.{overlaid, leaves}
use Rattle.rules.specs.Cases.{
  Case,
  fits,
  exceeds,
  finds,
  checks,
  reads,
  reads_to,
  refused_by,
  refuses,
  answers,
  entry,
  unnamed,
}
use Rattle.laws.specs.WrongNames as tables
use Rattle.text_laws.specs.WrongTexts.{pair, four}
use Rattle.text_laws.specs.WrongTextNames as texts

-- the text's table is written
abbrev pub writes : List ℕ → Description → Case
writes text d = answers text (replicate 300 9)
    (leaves (accepted (length (stored d))) (overlaid (stored d) (replicate 300 9)))

abbrev descriptions : List Case
descriptions =
    -- a label of short-name form is read by index, one word may be both names of a field
    fits (tables.by_label "Mine")
    ∷ fits (tables.by_label "Eightlet")
    ∷ fits tables.one_word
    ∷ fits tables.two_words
    ∷ fits (tables.own_read "Mine")
    -- other labels are not read, nor those of later fields, of the own one in a condition, of rest or measured fields
    ∷ exceeds (tables.by_label "My Own")
    ∷ exceeds (tables.by_label "Ninebytes")
    ∷ exceeds (tables.by_label "1st")
    ∷ exceeds (tables.by_label "present")
    ∷ exceeds tables.by_later
    ∷ exceeds tables.by_itself
    ∷ exceeds tables.by_rest
    ∷ exceeds tables.by_measured
    ∷ exceeds (tables.own_read "My Own")
    -- a label is no short name of another field; case counts
    ∷ exceeds tables.label_first
    ∷ exceeds tables.short_first
    ∷ exceeds tables.crossed
    ∷ fits tables.other_case
    ∷ fits tables.longer
    ∷ []

abbrev in_tables : List Case
in_tables =
    checks (stored (tables.by_label "Mine")) (accepted 87)
    ∷ checks (stored (tables.by_label "My Own")) (refused 21 0)
    ∷ checks (stored tables.one_word) (accepted 85)
    ∷ checks (stored tables.label_first) (refused 21 0)
    ∷ checks (stored tables.short_first) (refused 21 0)
    ∷ checks (stored tables.crossed) (refused 21 0)
    -- a field by its label, and by a word that is both its names
    ∷ finds (tables.by_label "Mine") (bytes "Other") (accepted 1)
    ∷ finds tables.two_words (bytes "M") (accepted 1)
    -- the field that is read by its label decides
    ∷ reads (tables.by_label "Mine") (1 ∷ 0 ∷ 7 ∷ []) (reads_to 24 (entry 0 8 1 ∷ entry 8 8 0 ∷ entry 16 8 7 ∷ []))
    ∷ reads tables.absent_read (0 ∷ 5 ∷ []) (refused_by 26 3)
    ∷ reads (tables.by_label "Mine") (0 ∷ 1 ∷ []) (reads_to 16 (entry 0 8 0 ∷ entry 8 8 1 ∷ absent ∷ []))
    ∷ []

abbrev in_texts : List Case
in_texts =
    -- by its label; by either name, itself in its constraint too; one word as both names
    writes texts.by_label (pair (four "A") (texts.four_if "B" (texts.is_one 0)))
    ∷ writes texts.by_either (texts.either_read 0 0 1)
    ∷ writes texts.one_word texts.one_word_read
    ∷ writes texts.by_condition (pair (four "A") (unnamed "B" (fixed 4) none (some (texts.is_one 0))))
    ∷ writes texts.capital (pair (texts.four_both "Present" "A") (texts.four_if "B" (texts.is_one 0)))
    ∷ writes texts.own_constraint (pair (texts.four_if "A" (texts.is_one 0)) (four "B"))
    -- 9: the readable label of a later field, of the own one in a condition, of a measured field, of the rest field
    ∷ refuses texts.forward (refused 9 11)
    ∷ refuses texts.own_condition (refused 9 11)
    ∷ refuses texts.measured_text (refused 9 17)
    ∷ refuses texts.rest_text (refused 9 17)
    -- 5: what has not the form of a name
    ∷ refuses texts.spaced (refused 5 12)
    ∷ refuses texts.reserved_word (refused 5 12)
    ∷ refuses texts.long_word (refused 5 12)
    -- 9: a hyphen stands between two names, and 8 bytes of 9 are another name
    ∷ refuses texts.hyphened (refused 9 12)
    ∷ refuses texts.cut_word (refused 9 12)
    ∷ refuses texts.small (refused 9 12)
    -- 8: at the later line; before 9 at an earlier one
    ∷ refuses texts.label_first (refused 8 12)
    ∷ refuses texts.short_first (refused 8 12)
    ∷ refuses texts.exchanged (refused 8 12)
    ∷ refuses texts.three_lines (refused 8 14)
    ∷ writes texts.cut_short (pair (texts.four_both "Ninebytes" "A") (texts.four_both "B" "Ninebyte"))
    ∷ writes texts.other_case (pair (four "A") (texts.four_both "B" "a"))
    ∷ refuses texts.eight_nine (refused 8 12)
    ∷ refuses texts.eight_ten (refused 8 17)
    ∷ refuses texts.long_clash (refused 8 17)
    ∷ refuses texts.far_clash (refused 8 14)
    ∷ map (λ text. refuses text (refused 8 13)) texts.two_clashes

abbrev pub names : List Case
names = descriptions ++ (in_tables ++ in_texts)
