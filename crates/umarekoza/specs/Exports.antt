-- What a reply says, as 01's number, place and amount, and the part that a span is. [01, Refusal numbers]
-- Each export's promise is that of its entry (rules, Promises), at this answer.
use Rattle.rules.specs.Answers.{Answer}
use Rattle.rules.specs.Reading.{Part, part_from}
use Rattle.umarekoza.specs.declared.Reply.{Reply}
use Rattle.umarekoza.specs.declared.Span.{Span}
use Rattle.umarekoza.specs.declared.Partial.{Partial}

abbrev pub reply_answer : Reply → Answer
reply_answer r = record { number = r.number; place = r.place; amount = r.length }

abbrev pub partial_answer : Partial → Answer
partial_answer r = record { number = r.number; place = r.place; amount = r.length }

abbrev pub span_part : Span → Part
span_part s = part_from s.offset s.length
