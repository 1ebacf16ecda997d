use mathlib.Core.Path.{◌≡◌, sym, ap, subst, ◌∙◌}
use mathlib.Core.Option.{Option, none, some}
use Prim.Native.Nat.{ℕ}
use native.Mathlib.Omega.{arith}
use lib.ListN.{length}
use Rattle.rules.specs.Rows.{Row}
use Rattle.text_laws.specs.FrameReader.{read_row}
use Rattle.writing.proofs.PutLaws.{put_writes}
use Rattle.texts.specs.RowPlaces.{lines_in}
use Rattle.texts.proofs.DrawnLines.{row_lines_one}
use Rattle.texts.proofs.RowLines.{some_is, none_else, first_line}
use Rattle.texts.proofs.RowSteps.{room_line, holds_line}
use Rattle.texts.proofs.StateSteps.{taken_wrong, holds_wrong, blamed_outside, kept_outside}
use Rattle.texts.proofs.head_lines.take_row.Goals as goal

pub is_row-requires : goal.is_row-requires
is_row-requires c = (c.requires.0.width, c.requires.2)

pub onward-requires : goal.onward-requires
onward-requires c =
    c.requires.1

pub returns-then-is_row : goal.returns-then-is_row
returns-then-is_row c =
    let r = c.args.r in
    let l = c.args.line.now in
    let x = some_is (read_row r.width l) (sym c.is_row.ensures ∙ c.if-is_row.true) in
    let n = row_lines_one r.width l x.0 x.1 in
    let w = put_writes (omega (
      arith,
      n.2,
      c.requires.0.width,
    )) c.put.ensures in record {
      room = rw c.onward.ensures ((
        room_line r 1 c.requires.0
            (omega arith),
        omega arith,
      ));
      step = rw c.onward.ensures ((λ cells table f labels names k b o h.
          let e = subst (λ (v : ℕ). read_row v l ≡ some x.0) h.counts.width x.1 in
          rw e (holds_line f r h x.0 1 (sym (ap length n.0)))));
      row = rw c.onward.ensures (λ f o v z.
          let e = subst (λ (u : ℕ). read_row u l ≡ some x.0) v x.1 in
          rw e (first_line r.width l x.0 x.1 w));
    }

pub wrong-requires : goal.wrong-requires
wrong-requires c = c.requires.1

pub returns : goal.returns
returns c =
    let r = c.args.r in
    let l = c.args.line.now in
    let e = none_else (read_row r.width l) (sym c.is_row.ensures ∙ c.if-is_row.false) in record {
      room = rw c.wrong.ensures (taken_wrong r c.requires.0);
      step = rw c.wrong.ensures ((λ cells table f labels names k b o h.
          let g = subst (λ (v : ℕ). read_row v l ≡ none) h.counts.width e in
          rw g (holds_wrong f r h (blamed_outside f.row f.lines o))));
      row = rw c.wrong.ensures (λ f o v z.
          let g = subst (λ (u : ℕ). read_row u l ≡ none) v e in
          rw g (kept_outside o (z ∙ sym (ap (λ (p : Option Row). length (lines_in p)) o))));
    }
