-- The goals of `writes::put_document` that want a word.
use Rattle.laws.proofs.Writes.{put_one}
use Rattle.writes.proofs.put_document.Goals as goal

pub returns : goal.returns
returns c = put_one _ _ _
