use native.Mathlib.Omega.{arith}
use Rattle.texts.proofs.EndPieces.{state_ends}
use Rattle.texts.proofs.pieces.end_state.Goals as goal

pub end_text-requires : goal.end_text-requires
end_text-requires c =
    let p = c.requires in
    let l = c.load-r.ensures.fits in
    let lines = l.1 in
    (l.0, omega (arith, lines, p.1))

pub returns : goal.returns
returns c =
    let p = c.requires in
    let e = c.end_text.ensures in
    let l = c.load-r.ensures in
    let counts = c.load_counts.ensures in
    let placed = e.place in
    let row = rw c.unwrap.ensures at c.as_array.ensures.cases in
    let held = rw c.unwrap-2.ensures at c.as_array-2.ensures.cases in
    let lines = l.fits.1 in record {
      end = state_ends c.args.s.now c.end_text.result
          p.0 p.1 p.2 l c.two_at-whole.ensures.0 counts (rw (row.same, held.same) at e.step)
          e.refusal e.within c.end_text.auto.out e.beyond;
      place = omega (arith, placed, lines, p.1);
    }
