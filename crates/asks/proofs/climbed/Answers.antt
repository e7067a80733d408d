-- The goals of `asks::climbed` that want a word.
use native.Mathlib.Omega.{arith}
use Rattle.rows.proofs.Readable.{readable-within}
use Rattle.asks.proofs.Climbs.{climbed-past, climbed-within}
use Rattle.asks.proofs.climbed.Goals as goal

pub returns-then-readable_count-at : goal.returns-then-readable_count-at
returns-then-readable_count-at c = climbed-past c.args.words.now _ _ c.readable_count.ensures c.if-readable_count-at.true

pub ascend-requires : goal.ascend-requires
ascend-requires c = readable-within _ _ (omega arith)

pub returns : goal.returns
returns c = climbed-within c.args.words.now _ _ c.readable_count.ensures _ c.if-readable_count-at.false c.ascend.ensures
