-- The goals of `navigates::search_start` that want a word.
use Rattle.rules.specs.Words.{rows_of}
use Rattle.navigates.proofs.Search.{starts-after, starts_first}
use Rattle.navigates.proofs.search_start.Goals as goal

pub returns-then-is_some : goal.returns-then-is_some
returns-then-is_some c = starts-after (rows_of c.args.words.now) _ _ _ _ c.frame.ensures c.latest_of.ensures c.is_some.ensures c.if-is_some.true

pub returns-else-is_some : goal.returns-else-is_some
returns-else-is_some c = starts_first (rows_of c.args.words.now) _ _ _ _ c.frame.ensures c.latest_of.ensures c.is_some.ensures c.if-is_some.false
