-- The main results on texts: no text spells two descriptions, and each text and output has one outcome, so that the
-- promise of a text settles the answer and the output.
use mathlib.Core.Path.{◌≡◌}
use mathlib.Core.List.{List}
use Prim.Native.Nat.{ℕ}
use Rattle.rules.specs.Promises.{ReadsText, leaves}
use Rattle.rules.specs.Results.{SpellingUnique, TextTotal, TextUnique}
use Rattle.laws.proofs.Settled as Settled
use Rattle.text_laws.proofs.FormExact.{form_unique}
use Rattle.text_laws.proofs.FrameExact.{frame_unique}
use Rattle.text_laws.proofs.FramePlace.{place_unique}
use Rattle.text_laws.proofs.Answered as Answered
use Rattle.text_laws.proofs.TextSeen.{seen, outcome_of, outcome_is}
use Rattle.rules.specs.Answers.{of_text, TextAnswer}

pub spelling_unique : SpellingUnique
spelling_unique = Answered.spelling_unique frame_unique form_unique place_unique

pub text_total : TextTotal
text_total text out = (outcome_of (seen text) out, outcome_is text out)

pub text_unique : TextUnique
text_unique = Answered.text_unique frame_unique form_unique place_unique

pub text_settled : (text out : List ℕ) (a b : TextAnswer) (after other : List ℕ)
    → ReadsText text out (leaves (of_text a) after)
    → ReadsText text out (leaves (of_text b) other) → (a ≡ b) × (after ≡ other)
text_settled = Settled.text_settled text_unique
