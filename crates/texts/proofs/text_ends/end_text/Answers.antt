use Rattle.texts.specs.Noted.{told, note_of}
use mathlib.Core.Path.{◌≡◌, refl, sym, ap, ◌∙◌, subst}
use Prim.Native.Nat.{ℕ}
use native.Mathlib.Omega.{arith}
use lib.ListN.{drop}
use Rattle.rules.specs.Answers.{of_text}
use Rattle.texts.proofs.AreaLaws.{table_long}
use Rattle.texts.proofs.EndSteps.{last_is_lem}
use Rattle.texts.proofs.EndSteps.{end_refused, end_short, end_table}
use Rattle.texts.proofs.text_ends.end_text.Goals as goal

pub last_note-requires : goal.last_note-requires
last_note-requires c =
    (c.requires.0, c.requires.1)

pub returns-in-Some-clause-step : goal.returns-in-Some-clause-step
returns-in-Some-clause-step c = λ k cells labels names e steady kept h.
    let low = sym (last_is_lem k.found c.args.r h.counts steady c.args.row.now kept k.line c.args.whole e)
    ∙ sym c.last_note.ensures.lowest ∙ ap note_of c.in-Some.is in
    rw c.into.ensures (end_refused k c.args.out.now (told c.in-Some.last) low)

pub overflow_add-size : goal.overflow_add-size
overflow_add-size c =
    let q = c.requires.0.end in let z = c.requires.0.fields in let w = c.requires.0.count in omega (arith, q, z, w)

pub returns-then-out-size : goal.returns-then-out-size
unfolding of_text
returns-then-out-size c =
    let r = c.args.r in
    let row = c.args.row.now in
    let n = c.last_note in record {
      step = λ k cells labels names e steady kept h.
          let low = sym (last_is_lem k.found r h.counts steady row kept k.line c.args.whole e)
          ∙ sym n.ensures.lowest ∙ ap note_of c.in_default.is in
          end_short k r h low c.requires.0 _ c.if-out-size.true;
      refusal = λ told. refl;
      place = omega arith;
      within = omega arith;
      beyond = refl;
    }

pub put_table-requires : goal.put_table-requires
put_table-requires c = (
  c.requires.0,
  (let n = table_long c.args.held.now (omega arith) in omega (arith, n)),
  omega (arith, c.if-out-size.false),
)

pub returns : goal.returns
unfolding of_text
returns c =
    let r = c.args.r in
    let row = c.args.row.now in
    let n = c.last_note in
    let put = c.put_table.ensures in
    let rest = subst (λ (i : ℕ). drop i c.put_table.new.out ≡ drop i c.args.out.now)
    put.end put.bytes.beyond in record {
      step = λ k cells labels names e steady kept h.
          let low = sym (last_is_lem k.found r h.counts steady row kept k.line c.args.whole e)
          ∙ sym n.ensures.lowest ∙ ap note_of c.in_default.is in
          end_table k r h low c.requires.0 _ _ _ (omega (arith, c.if-out-size.false))
          put.bytes;
      refusal = λ told. absurd (told refl);
      place = omega arith;
      within = omega (arith, c.if-out-size.false);
      beyond = rest;
    }
