-- The goals of `writes::put_flag` that want a word.
use Rattle.laws.proofs.Writes.{put_one}
use Rattle.writes.proofs.put_flag.Goals as goal

pub returns : goal.returns
returns c = put_one _ _ _
