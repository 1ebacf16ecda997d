use mathlib.Core.Path.{◌∙◌}
use Rattle.texts.proofs.StartLaws.{put_none, put_some, least_is}
use Rattle.texts.proofs.name_starts.put_start.Goals as goal

pub returns-then-name-eq0 : goal.returns-then-name-eq0
returns-then-name-eq0 c = put_none _ _ _ c.if-name-eq0.true

pub returns : goal.returns
returns c =
    let a = c.args in
    put_some a.starts.now _ a.i _ _ c.requires.1 c.bucket_of-bucket.ensures
    (c.min.ensures ∙ least_is _ _)
