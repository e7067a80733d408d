-- The goals of `contents::contents` that want a word.
use mathlib.Core.Path.{◌∙◌}
use Rattle.laws.proofs.Calls.{contents-is}
use Rattle.contents.proofs.contents.Goals as goal

pub returns : goal.returns
returns c = contents-is c.args.bytes.now ∙ c.read.ensures
