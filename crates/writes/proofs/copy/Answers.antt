-- The goals of `writes::copy` that want a word.
use Rattle.writes.proofs.Parts.{copy_part}
use Rattle.writes.proofs.copy.Goals as goal

pub returns : goal.returns
returns c = copy_part _ _ _ _ c.requires.0 c.requires.1 c.copy_from_slice.ensures.after
