-- The goals of `packs::place_before` that want a word.
use Rattle.rules.specs.Words.{rows_of}
use Rattle.packs.proofs.Turns.{found-row}
use Rattle.packs.proofs.place_before.Goals as goal

pub returns : goal.returns
returns c = found-row (rows_of c.args.words.now) _ _ _ _ c.find_below.ensures c.unwrap_or.ensures c.requires.1
