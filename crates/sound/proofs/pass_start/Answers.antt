-- The goals of `sound::pass_start` that want a word.
use Rattle.rules.specs.Words.{rows_of}
use Rattle.sound.proofs.Passes.{passed_start}
use Rattle.sound.proofs.pass_start.Goals as goal

pub returns : goal.returns
returns c = passed_start (rows_of c.args.words.now) _ _ _ c.shown.ensures c.requires.1 c.requires.2 c.frame.ensures c.document.ensures
