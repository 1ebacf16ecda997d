use Rattle.std.specs.Prelude.{Option as Held}
use mathlib.Core.Path.{ap, sym, ◌∙◌, subst}
use Prim.Native.Nat.{◌+◌, ◌≤◌}
use native.Mathlib.Omega.{arith}
use Rattle.text_laws.specs.Lowest.{lower}
use Rattle.texts.specs.Noted.{place_of, note_of}
use Rattle.texts.specs.declared.notes.Note.{Note}
use Rattle.texts.proofs.EndSteps.{remain_placed}
use Rattle.texts.proofs.text_ends.fields_note.Goals as goal

pub returns-then-whole : goal.returns-then-whole
returns-then-whole c =
    let r = c.args.r in
    let rest = c.remaining.ensures in record {
      lowest = rw c.if-whole.true (c.lower.ensures.lowest
          ∙ ap (λ (a : Held Note). lower (note_of r.note) (note_of a)) rest);
      place = c.lower.ensures.place (r.lines + 1) c.requires.1
          (subst (λ (a : Held Note). place_of a ≤ r.lines + 1) (sym rest) (remain_placed r));
    }

pub returns : goal.returns
returns c = record {
  lowest = rw c.if-whole.false (ap note_of c.early.ensures);
  place = rw c.early.ensures (omega arith);
}
