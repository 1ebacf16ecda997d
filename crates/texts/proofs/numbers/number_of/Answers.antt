use mathlib.Core.Path.{◌≡◌, refl, sym, ◌∙◌}
use native.Mathlib.Omega.{arith}
use Prim.Native.Nat.{◌-◌, ◌+◌, ◌*◌}
use mathlib.Core.Bool.{true}
use lib.ListN.{length, drop, get_or}
use borrow.Author.Tests.{eq-eqb, ne_eqb, eqb-true, eqb-false}
use Rattle.text_laws.specs.Reader.{word_value, is_number_word}
use Rattle.rules.specs.Names.{is_digit}
use Rattle.texts.proofs.ExprLeaves.{digit_range, all_step, all_stop, all_end, scan_step, scan_end, scan_ge}
use Rattle.texts.proofs.ExprLeaves.{number_empty, number_zero, number_other, number_large, number_yes}
use Rattle.texts.proofs.NumberWords.{no_number, a_number}
use Rattle.texts.proofs.numbers.number_of.Goals as goal
use Rattle.texts.proofs.numbers.number_of.Goals.{
  else-w-eq48-via-then-w-eq48+else-w-ne1,
  else-w-eq48-via-else-w-eq48,
}

pub returns-then-is_empty-clause-same : goal.returns-then-is_empty-clause-same
returns-then-is_empty-clause-same c =
    no_number _ (number_empty c.args.w.now (eqb-true _ _ (sym c.is_empty.ensures ∙ c.if-is_empty.true)))

pub returns-then-w-ne1-clause-same : goal.returns-then-w-ne1-clause-same
returns-then-w-ne1-clause-same c =
    let w = c.args.w.now in
    let some = eqb-false _ _ (sym c.is_empty.ensures ∙ c.if-is_empty.false) in
    no_number w (sym (number_zero w (omega (arith, some)) c.if-w-eq48.true)
    ∙ ne_eqb (length w) 1 c.if-w-ne1.true)

pub loop-c-init : goal.loop-c-init
unfolding word_value
loop-c-init c = (omega arith, refl, refl)

pub returns-then-not-is_digit-clause-same : goal.returns-then-not-is_digit-clause-same
returns-then-not-is_digit-clause-same c =
    let w = c.args.w.now in
    let n = sym c.is_digit.ensures ∙ c.if-not-is_digit.true in
    no_number w (number_other w (c.loop-c.invariant.2 ∙ all_stop is_digit w c.loop-c.c-index (omega arith) n))

pub overflow_sub-c : goal.overflow_sub-c
overflow_sub-c c = (digit_range _ (sym c.is_digit.ensures ∙ c.if-not-is_digit.false)).0

pub returns-then-v-gt-NUMBER_MOST-clause-same : goal.returns-then-v-gt-NUMBER_MOST-clause-same
returns-then-v-gt-NUMBER_MOST-clause-same c =
    let w = c.args.w.now in
    let i = c.loop-c.c-index in
    let v = c.loop-c.v in
    no_number w (number_large w (omega (
      arith,
      c.if-v-gt-NUMBER_MOST.true,
      c.from.ensures,
      c.loop-c.invariant.1,
      scan_step w i v (omega arith),
      scan_ge (drop (i + 1) w) (v * 10 + (get_or w i 0 - 48)),
    )))

pub loop-c-preserved : goal.loop-c-preserved
loop-c-preserved c =
    let w = c.args.w.now in
    let i = c.loop-c.c-index in
    let inv = c.loop-c.invariant in
    let y = sym c.is_digit.ensures ∙ c.if-not-is_digit.false in (
      omega (arith, c.if-v-gt-NUMBER_MOST.false),
      rw c.from.ensures (inv.1 ∙ scan_step w i c.loop-c.v (omega arith)),
      inv.2 ∙ all_step is_digit w i (omega arith) y,
    )

pub returns-clause-same : goal.returns-clause-same
returns-clause-same c =
    let w = c.args.w.now in
    let some = eqb-false _ _ (sym c.is_empty.ensures ∙ c.if-is_empty.false) in
    let i = c.loop-c.c-index in
    let inv = c.loop-c.invariant in
    let value : word_value w ≡ c.loop-c.v = inv.1 ∙ scan_end w i c.loop-c.v (omega arith) (omega arith) in
    let is : is_number_word w ≡ true = elim c.else-w-eq48.branch [
      | else-w-eq48-via-then-w-eq48+else-w-ne1 k ↦
          sym (number_zero w (omega (arith, some)) k.if-w-eq48.true) ∙ eq-eqb (length w) 1
          (omega (arith, k.if-w-ne1.false))
      | else-w-eq48-via-else-w-eq48 k ↦
          number_yes w (omega (arith, some)) k.if-w-eq48.false
          (inv.2 ∙ all_end is_digit w i (omega arith) (omega arith)) (omega (arith, value, inv.0))
    ] in
    a_number w c.loop-c.v is (sym value)
