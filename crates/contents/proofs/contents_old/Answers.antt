-- The goals of `contents::contents_old` that want a word.
use mathlib.Core.Path.{◌∙◌}
use Rattle.laws.proofs.Calls.{contents-old-is}
use Rattle.contents.proofs.contents_old.Goals as goal

pub returns : goal.returns
returns c = contents-old-is c.args.bytes.now ∙ c.read.ensures
