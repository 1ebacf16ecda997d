use mathlib.Core.Path.{refl}
use native.Mathlib.Omega.{arith}
use borrow.Author.Rules.{rules}
use Rattle.texts.proofs.text_ends.row_note.Goals as goal

pub overflow_mul-r : goal.overflow_mul-r
overflow_mul-r c = let q = c.requires.0.width in search (rules, q)

pub overflow_add-r : goal.overflow_add-r
overflow_add-r c = let q = c.requires.0.width in search (rules, q)

pub is_labelled-requires : goal.is_labelled-requires
is_labelled-requires c = (
  c.requires.0.row,
  omega arith,
  omega (
    arith,
    c.requires.0.width,
  ),
)

pub returns-then-is_labelled : goal.returns-then-is_labelled
returns-then-is_labelled c = rw (c.early.ensures, ← c.is_labelled.ensures, c.if-is_labelled.true) refl

pub returns : goal.returns
returns c = rw (← c.is_labelled.ensures, c.if-is_labelled.false) refl
