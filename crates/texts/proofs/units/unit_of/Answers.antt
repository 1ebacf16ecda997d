use mathlib.Core.Path.{refl, sym, ◌∙◌}
use mathlib.Core.Bool.{true, false}
use Rattle.texts.proofs.FieldWords.{unit_case}
use Rattle.texts.proofs.units.unit_of.Goals as goal
use Rattle.texts.proofs.units.unit_of.Goals.{
  then-same_words-via-then-same_words,
  then-same_words-via-else-same_words+then-same_words-2,
}
use Rattle.texts.proofs.units.unit_of.Goals.{
  then-same_words-3-via-then-same_words-3,
  then-same_words-3-via-else-same_words-3+then-same_words-4,
}

pub returns-then-same_words : goal.returns-then-same_words
returns-then-same_words c =
    let w = c.args.w.now in
    let e1 = sym c.same_words.ensures in
    elim c.then-same_words.branch [
      | then-same_words-via-then-same_words k ↦ unit_case w true _ _ _ (e1 ∙ k.if-same_words.true) refl refl refl
      | then-same_words-via-else-same_words+then-same_words-2 k ↦
          unit_case w false true _ _ (e1 ∙ k.if-same_words.false)
          (sym k.same_words-else-same_words.ensures ∙ k.if-same_words-2.true) refl refl
    ]

pub returns-then-same_words-3 : goal.returns-then-same_words-3
returns-then-same_words-3 c =
    let w = c.args.w.now in
    let e1 = sym c.same_words.ensures ∙ c.if-same_words.false in
    let e2 = sym c.same_words-else-same_words.ensures ∙ c.if-same_words-2.false in
    let e3 = sym c.same_words-2.ensures in
    elim c.then-same_words-3.branch [
      | then-same_words-3-via-then-same_words-3 k ↦
          unit_case w false false true _ e1 e2 (e3 ∙ k.if-same_words-3.true) refl
      | then-same_words-3-via-else-same_words-3+then-same_words-4 k ↦
          unit_case w false false false true e1 e2 (e3 ∙ k.if-same_words-3.false)
          (sym k.same_words-else-same_words-3.ensures ∙ k.if-same_words-4.true)
    ]

pub returns : goal.returns
returns c =
    unit_case c.args.w.now false false false false (sym c.same_words.ensures ∙ c.if-same_words.false)
    (sym c.same_words-else-same_words.ensures ∙ c.if-same_words-2.false)
    (sym c.same_words-2.ensures ∙ c.if-same_words-3.false)
    (sym c.same_words-else-same_words-3.ensures ∙ c.if-same_words-4.false)
