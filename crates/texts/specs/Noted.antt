-- A refusal as the code notes it: mirrors the code, no public promise rests on it.
use Rattle.std.specs.Prelude.{ℕ, Option as Held, Some, None}
use Rattle.std.proofs.Math.Option.{Option, none, some}
use Rattle.rules.specs.Answers.{Answer, refused}
use Rattle.texts.specs.declared.notes.Note.{Note}
use Rattle.texts.specs.declared.notes.Note.TheVariants as by

abbrev pub told : Note → Answer
told by.BadByte = refused 2 0
told (by.BadLine p) = refused 3 p
told by.TooMany = refused 4 0
told (by.BadForm p) = refused 5 p
told (by.OverLimit p) = refused 6 p
told (by.Mismatch p) = refused 7 p
told (by.Repeated p) = refused 8 p
told (by.BadName p) = refused 9 p
told (by.BadRest p) = refused 10 p

abbrev pub number_of : Note → ℕ
number_of a = (told a).number

-- the number of its line, 0 where there is none
abbrev pub place_of : Held Note → ℕ
place_of None = 0
place_of (Some a) = (told a).place

abbrev pub note_of : Held Note → Option Answer
note_of None = none
note_of (Some a) = some (told a)
