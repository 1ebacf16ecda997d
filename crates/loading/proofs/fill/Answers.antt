use Rattle.std.proofs.Common.{rules, sym, subst}
use Rattle.std.specs.Io.KnownBytes.{Consumes}
use Rattle.std.proofs.KnownBytes.{Consumes-trans}
use Rattle.loading.proofs.Fills.{take_read}
use Rattle.loading.proofs.fill.Goals as goal

pub loop-n-preserved : goal.loop-n-preserved
loop-n-preserved g c =
    let l = c.loop-n in
    let r = c.in_ok-more in
    let before = g.R.Read.remaining c.args.reader.now in
    let after = g.R.Read.remaining c.read.new.self in
    let front = take_read l.out c.read.new.buf _ l.n r.more l.invariant.0 r.ensures.bound.0 in (
      search rules,
      search rules,
      subst (Consumes before after) (sym front)
          (Consumes-trans before (g.R.Read.remaining l.reader) after _ _ l.invariant.2 r.ensures.bytes.0),
    )
