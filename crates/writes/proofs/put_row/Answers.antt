-- The goals of `writes::put_row` that want a word.
use Rattle.laws.proofs.Writes.{put_four}
use Rattle.writes.proofs.put_row.Goals as goal

pub returns : goal.returns
returns c = put_four _ _ _ _ _ _
