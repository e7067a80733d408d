-- The goals of `lines::put_byte` that want a word.
use mathlib.Core.Path.{refl}
use Rattle.laws.proofs.Writes.{put_one}
use Rattle.lines.proofs.put_byte.Goals as goal

pub returns : goal.returns
returns c = record { list = put_one _ _ _; past = refl }
