use mathlib.Core.Path.{sym, ◌∙◌}
use native.Mathlib.Omega.{arith}
use lib.ListN.{take}
use lib.Seq.{lt-length-set}
use borrow.Author.Tests.{eq-eqb, ne_eqb}
use borrow.Author.Rules.{rules}
use Rattle.packets.specs.Parts.{parts_at}
use Rattle.packets.proofs.FieldSteps.{parts_inside, field_next, bits_small}
use Rattle.packets.proofs.WalkSteps.{take_own, walk_field, walk_trees, walk_on, walk_end, own_trees, mark_word}
use Rattle.packets.proofs.NameSteps.{gather_again, gather_done}
use Rattle.packets.proofs.CountSteps.{tally_again, tally_done}
use Rattle.packets.proofs.tables.walk.Goals as goal

pub returns-then-not-is_field-clause-is : goal.returns-then-not-is_field-clause-is
returns-then-not-is_field-clause-is g c =
    let a = c.args in
    let l = c.loop-i in
    let none = sym c.is_field.ensures ∙ c.if-not-is_field.true in
    sym (l.invariant.walked ∙ walk_field a.w a.count l.i (take l.i l.columns.marks) l.place l.ended a.s.now l.at
    (omega arith) (rw c.parts_at-parts.ensures at none))

pub is_word-word-requires : goal.is_word-word-requires
is_word-word-requires g c =
    let parts = c.parts_at-parts.ensures in
    let field = sym c.is_field.ensures ∙ c.if-not-is_field.false in
    let inside = parts_inside _ _ (field_next _ _ _ _ _ _ (rw parts at field)) in
    (rw parts inside.label, c.requires.bounds.1)

pub has_trees-requires : goal.has_trees-requires
has_trees-requires g c =
    let parts = c.parts_at-parts.ensures in
    let field = sym c.is_field.ensures ∙ c.if-not-is_field.false in
    let next = field_next _ _ _ _ _ _ (rw parts at field) in
    (lt-length-set _ _ _ (omega arith), c.requires.bounds.1, rw parts (parts_inside _ _ next))

pub returns-then-not-has_trees-clause-is : goal.returns-then-not-has_trees-clause-is
returns-then-not-has_trees-clause-is g c =
    let a = c.args in
    let l = c.loop-i in
    let s = a.s.now in
    let marks = l.columns.marks in
    let parts = c.parts_at-parts.ensures in
    let field = sym c.is_field.ensures ∙ c.if-not-is_field.false in
    let none = sym c.has_trees.ensures ∙ c.if-not-has_trees.true in
    let marked = mark_word s _ c.is_word-word.ensures c.mark_of.ensures in
    let own = own_trees marks l.i _ s _ (parts_at s l.at) parts marked (omega arith) none in
    sym (l.invariant.walked ∙ walk_trees a.w a.count l.i (take l.i marks) l.place l.ended s l.at (omega arith)
    (rw parts at field) own)

pub gather-requires : goal.gather-requires
gather-requires g c =
    let parts = c.parts_at-parts.ensures in
    let field = sym c.is_field.ensures ∙ c.if-not-is_field.false in
    let next = field_next _ _ _ _ _ _ (rw parts at field) in (
      search rules,
      (
        (c.requires.bounds.1, parts, rw parts (parts_inside _ _ next), c.is_word-word.ensures),
        (omega arith, omega arith),
      ),
    )

pub count_record-requires : goal.count_record-requires
count_record-requires g c =
    let parts = c.parts_at-parts.ensures in
    let field = sym c.is_field.ensures ∙ c.if-not-is_field.false in
    let next = field_next _ _ _ _ _ _ (rw parts at field) in
    (c.requires.bounds.1, rw parts (parts_inside _ _ next))

pub overflow_add-place : goal.overflow_add-place
overflow_add-place g c =
    let field = sym c.is_field.ensures ∙ c.if-not-is_field.false in
    let small = bits_small _ _ _ _ _ _ field in
    let bits = c.bits_of-place.ensures in
    omega arith

pub loop-i-preserved : goal.loop-i-preserved
loop-i-preserved g c =
    let a = c.args in
    let l = c.loop-i in
    let s = a.s.now in
    let marks = l.columns.marks in
    let parts = c.parts_at-parts.ensures in
    let field = sym c.is_field.ensures ∙ c.if-not-is_field.false in
    let trees = sym c.has_trees.ensures ∙ c.if-not-has_trees.false in
    let marked = mark_word s _ c.is_word-word.ensures c.mark_of.ensures in
    let own = own_trees marks l.i _ s _ (parts_at s l.at) parts marked (omega arith) trees in
    let small = bits_small _ _ _ _ _ _ field in
    let bits = c.bits_of-place.ensures in
    let step = walk_on a.w a.count l.i (take l.i marks) l.place l.ended s l.at (omega arith)
    (rw parts at field) own in
    let taken = take_own marks l.i c.mark_of.result (omega arith) in
    let more = gather_again s a.count a.from l.i l.at l.columns.places l.columns.keys l.columns.shorts l.columns.words
    l.invariant.gathering (omega arith) (omega arith) (omega arith) (omega arith) (omega arith) in
    let got = c.gather.ensures in
    let counted = tally_again s a.count a.from l.i l.at l.columns.counts (omega arith) l.invariant.tallying in
    record {
      fixed = omega arith;
      inside = field_next _ _ _ _ _ _ field;
      walked = l.invariant.walked ∙ step ∙ rw (got.marks, taken, c.ends_with-ended.ensures, bits, marked, parts);
      gathering = rw (got.places, got.keys, got.shorts, got.words, parts) more;
      tallying = rw (c.count_record.ensures, got.counts, parts) counted;
    }

pub returns-then-place-w-eq0 : goal.returns-then-place-w-eq0
returns-then-place-w-eq0 g c =
    let a = c.args in
    let l = c.loop-i in
    let e = walk_end a.w a.count l.i (take l.i l.columns.marks) l.place l.ended a.s.now l.at (omega arith) in record {
      is = sym (l.invariant.walked ∙ e ∙ rw (eq-eqb _ _ c.if-place-w-eq0.true));
      gathered = gather_done a.s.now a.count a.from l.i l.at _ _ _ _ l.invariant.gathering (omega arith);
      counted = tally_done a.s.now a.count a.from l.i l.at _ (omega arith) l.invariant.tallying;
    }

pub returns-else-place-w-eq0 : goal.returns-else-place-w-eq0
returns-else-place-w-eq0 g c =
    let a = c.args in
    let l = c.loop-i in
    let e = walk_end a.w a.count l.i (take l.i l.columns.marks) l.place l.ended a.s.now l.at (omega arith) in record {
      is = sym (l.invariant.walked ∙ e ∙ rw (ne_eqb _ _ c.if-place-w-eq0.false));
      gathered = tt;
      counted = tt;
    }
