-- The goals of `navigates::frame_before` that want a word.
use Rattle.rules.specs.Words.{rows_of}
use Rattle.navigates.proofs.Turns.{framed-told}
use Rattle.navigates.proofs.frame_before.Goals as goal

pub returns : goal.returns
returns c = framed-told (rows_of c.args.words.now) c.args.at.0 _ _ _ _ c.frame.ensures c.latest_of.ensures c.is_some.ensures
