-- The goals of `asks::seen` that want a word.
use Rattle.asks.proofs.Climbs.{seen-absent, found_within, seen_by}
use Rattle.asks.proofs.seen.Goals as goal

pub returns-in_default : goal.returns-in_default
returns-in_default c = seen-absent c.args.words.now _ _ c.find.ensures c.in_default.is

pub ascend-code-requires : goal.ascend-code-requires
ascend-code-requires c = found_within c.args.words.now _ _ c.find.ensures _ c.in-Some.is

pub returns : goal.returns
returns c = seen_by c.args.words.now _ _ c.find.ensures _ c.in-Some.is _ _ _ c.ascend-code.ensures c.told.ensures c.links.ensures
