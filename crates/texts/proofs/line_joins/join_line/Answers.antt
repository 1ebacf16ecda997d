use mathlib.Core.Path.{◌≡◌, refl, ap, ◌∙◌}
use native.Mathlib.Omega.{arith}
use lib.ListN.{drop, length-set}
use lib.Seq.{get_or-take}
use Rattle.texts.specs.StateNumbers.{line_at}
use Rattle.writing.proofs.PutLaws.{put_writes}
use Rattle.texts.proofs.JoinLaws.{plain_byte, front_more, joined_line}
use Rattle.texts.proofs.line_joins.join_line.Goals as goal

pub loop-i-init : goal.loop-i-init
loop-i-init c = (refl, refl)

pub loop-i-preserved : goal.loop-i-preserved
loop-i-preserved c =
    let s = c.args.s.now in
    let v = c.loop-i in
    let p = c.requires in (
      length-set v.line v.i c.plain.result ∙ v.invariant.0,
      front_more s v.line v.i c.plain.result (omega arith) (omega arith) v.invariant.1
          (c.plain.ensures ∙ ap plain_byte (get_or-take _ (drop line_at s) v.i 0 (omega arith))),
    )

pub returns : goal.returns
returns c =
    let v = c.loop-i in
    let p = c.requires in
    let e : v.i ≡ c.args.used = omega arith in
    joined_line c.args.s.now c.args.used p.3
    (rw e at v.invariant.1) (put_writes (omega arith) c.put.ensures)
