-- What a text spells, and what refuses it, does not hang on how records are stored. [02, R-5]
use mathlib.Core.Path.{refl}
use mathlib.Core.List.{List}
use Prim.Native.Nat.{ℕ}
use native.Mathlib.Omega.{arith}
use Rattle.rules.specs.Editions.{Edition, current, without_readers}
use Rattle.rules.specs.Fields.{Description}
use Rattle.rules.specs.Spelling.{SpellsIn}
use Rattle.rules.specs.Results.{TextsKept}
use Rattle.laws.proofs.OperatorLaws.{Widens}
use Rattle.laws.proofs.Earlier.{within_more}
use Rattle.text_laws.proofs.RowEditions.{Draws, frame_of_more, lines_like}
use Rattle.text_laws.proofs.EarlierTexts.{spells_by, formless_like, refuses_more}

forth : Widens without_readers current
forth = record { fields = omega arith; packet = omega arith; knows = λ o h. h; means = λ o h x y. refl }

back : Widens current without_readers
back = record { fields = omega arith; packet = omega arith; knows = λ o h. h; means = λ o h x y. refl }

drawn_now : Draws without_readers current
drawn_now = record { rows = omega arith; lines = omega arith }

drawn_then : Draws current without_readers
drawn_then = record { rows = omega arith; lines = omega arith }

module _ (a b : Edition) (wide : Widens a b) (draws : Draws a b) (text : List ℕ) where
  spells_kept : (d : Description) → SpellsIn a text d → SpellsIn b text d
  spells_kept d s =
      spells_by a b text d s (frame_of_more a b draws text s.frame s.is_frame_of)
      (within_more a b wide d s.within)

pub texts_kept : TextsKept
texts_kept text = (
  λ d. (
    spells_kept without_readers current forth drawn_now text d,
    spells_kept current without_readers back drawn_then text d,
  ),
  λ x. (
    λ r. refuses_more without_readers current forth text
        (frame_of_more without_readers current drawn_now text) x r
        (λ k e. lines_like without_readers current drawn_now drawn_then text k) (λ f e h. h)
        (λ lines i e q. formless_like current without_readers (λ o h. h) (λ o h. h) lines i q),
    λ r. refuses_more current without_readers back text
        (frame_of_more current without_readers drawn_then text) x r
        (λ k e. lines_like current without_readers drawn_then drawn_now text k) (λ f e h. h)
        (λ lines i e q. formless_like without_readers current (λ o h. h) (λ o h. h) lines i q),
  ),
)
