-- The goals of `writes::put_head` that want a word.
use mathlib.Core.Path.{refl}
use Rattle.rules.specs.Words.{put}
use Rattle.writes.proofs.put_head.Goals as goal

pub returns : goal.returns
unfolding put
returns c = refl
