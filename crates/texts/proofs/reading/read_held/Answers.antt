use mathlib.Core.Path.{refl, ap, sym, subst}
use native.Mathlib.Omega.{arith}
use lib.ListN.{length, drop}
use borrow.Rule.Slice.PartMut.{put_mid, same_len_mid}
use Rattle.text_laws.specs.Fold as fold
use Rattle.texts.specs.HeldNames.{names_room, names_in, labels_in}
use Rattle.texts.specs.HeldAreas.{names_at, cell_bytes, name_bytes, label_bytes}
use Rattle.texts.specs.WalkSteps.{KeptAs}
use Rattle.texts.specs.declared.states.Reading.{Reading}
use Rattle.texts.proofs.AreaLaws.{names_long}
use Rattle.texts.proofs.LineWalk.{room_begun, kept_begun, walked_reads, empty_end}
use Rattle.texts.proofs.reading.read_held.Goals as goal

pub clear_starts-requires : goal.clear_starts-requires
clear_starts-requires c = let n = names_long c.args.held.now (omega arith) in omega (arith, n)

pub walk_lines-w-requires : goal.walk_lines-w-requires
walk_lines-w-requires c = (
  omega arith,
  c.requires.0,
  rw c.begin.ensures (room_begun, omega (arith, c.requires.0)),
)

pub end_text-requires : goal.end_text-requires
end_text-requires c =
    let q = c.walk_lines-w.ensures in (
      q.room.0,
      (let m = q.room.1 in let z = ap (λ (x : Reading). x.lines)
          c.begin.ensures in let p = c.requires.0 in
          omega (arith, m, z, p)),
    )

pub returns : goal.returns
returns c =
    let held = c.args.held.now in
    let back = same_len_mid names_at names_room held c.clear_starts.new.starts c.clear_starts.auto.starts in
    let t = c.args.text.now in
    let w = c.walk_lines-w.result in
    let q = c.walk_lines-w.ensures in
    let h = c.walk_lines-w.new.held in
    let cleared = put_mid names_at names_room held c.clear_starts.new.starts in
    let begun = subst (λ (b : Reading). KeptAs fold.start b cleared c.args.row.now c.args.counts.now)
    (sym c.begin.ensures) (kept_begun cleared c.args.row.now c.args.counts.now
    (omega (arith, back)) c.requires.1) in
    let to = q.step fold.fresh refl (omega (arith, c.requires.0)) begun in
    let is = to.walking.is in
    walked_reads t w to c.args.out.now _
    (c.end_text.ensures.step (record {
      size = length t;
      line = drop w.at t;
      found =
          to.walking.kept.found;
    })
    (cell_bytes h) (labels_in (label_bytes h)) (names_in (name_bytes h)) (empty_end t w.at q.place) is.steady
    is.rows is.holds)
